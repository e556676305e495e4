-- What is left to put and what stands are the number_bytes of the whole number, byte by byte from the end.
use mathlib.Core.Path.{◌≡◌, sym, ap, ◌∙◌}
use mathlib.Core.List.{◌++◌}
use Prim.Native.Nat.{ℕ, ◌+◌, ◌*◌}
use native.Mathlib.Omega.{arith}
use lib.ListN.{take, drop, take-append-drop}
use Rattle.hexadecimal.specs.Print.{text_of}
use Rattle.columns.proofs.ColumnLaws.{number_step}
use borrow.Author.Rules.{rules}
use Rattle.columns.proofs.put_number.Goals as goal

pub loop-i-preserved : goal.loop-i-preserved
loop-i-preserved c =
    let l = c.loop-i in record {
      same_len = search rules;
      put = number_step l.out c.put_byte.new.out c.args.at l.rest l.i (omega arith) (omega arith) c.put_byte.ensures ∙ l.invariant.put;
    }

pub returns : goal.returns
unfolding text_of
returns c =
    let l = c.loop-i in
    let at = c.args.at in
    let e : l.i ≡ 0 = omega arith in
    let n : at ≡ at + 0 * 2 = omega arith in
    sym (take-append-drop at l.out) ∙ ap (λ (k : ℕ). take at l.out ++ drop k l.out) n ∙ (rw e at l.invariant.put)
