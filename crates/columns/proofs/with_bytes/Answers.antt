-- One byte and a space, and then the bytes.
use mathlib.Core.Path.{◌≡◌, refl}
use mathlib.Core.List.{List, [], ◌∷◌}
use Prim.Native.Nat.{ℕ}
use native.Mathlib.Omega.{arith}
use lib.ListN.{length}
use Rattle.columns.specs.Columns.{columns_text, bytes_line}
use Rattle.hexadecimal.specs.Character.{space}
use Rattle.columns.proofs.ColumnLaws.{length_columns, bytes_most, puts_both, printed}
use Rattle.columns.proofs.with_bytes.Goals as goal
use Rattle.columns.proofs.with_bytes.Goals.{After-put-arg-3-1, Start}

abbrev start : ℕ → List ℕ
start a = columns_text (1 ∷ 0 ∷ []) (a ∷ space ∷ [])

start-length : (a : ℕ) → length (start a) ≡ 3
start-length a = length_columns (1 ∷ 0 ∷ []) (a ∷ space ∷ []) refl

pub put_bytes-requires : goal.put_bytes-requires
put_bytes-requires c =
    omega (arith, c.put-at.ensures.value, start-length c.from.result, c.put-at.auto.out, c.requires.bytes_len_bound, c.requires.longest_answer_in_bounds)

pub returns : goal.returns
returns c =
    let b = c.args.bytes.now in
    rw (← c.from.ensures)
    (printed
    (puts_both c.args.out.now c.put-at.new.out c.put_bytes.new.out (start c.from.result) (bytes_line b) 0 c.put-at.result c.put_bytes.result (omega arith) record { value = omega (arith, c.put-at.ensures.value); out_after = c.put-at.ensures.out_after } c.put_bytes.ensures)
    (omega (arith, c.put-at.ensures.value, start-length c.from.result, c.put_bytes.ensures.value, bytes_most b c.requires.bytes_len_bound)))
