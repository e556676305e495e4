-- Laws of the walk over a line's fields, one field more for the loop.
use mathlib.Core.Path.{◌≡◌, refl, sym, ◌∙◌}
use Prim.Native.Nat.{ℕ, suc, ◌+◌, ◌*◌, ◌-◌, ◌<◌, ◌≤◌, min}
use mathlib.Core.List.{List, ◌∷◌, ◌++◌}
use native.Mathlib.Nat.{add-sub_cancel_left, lt_of_not-le}
use native.Mathlib.Decide.{dec_le}
use native.Mathlib.Omega.{arith}
use lib.ListN.{length, take, drop, set, length-take, length-drop, drop_of_length-le}
use Rattle.std.proofs.Common.{take_all}
use lib.Seq.{drop-drop}
use borrow.Author.Tests.{ne_eqb}
use Rattle.std.proofs.Common.{Some, None}
use Rattle.hexadecimal.specs.Digit.{pairs}
use Rattle.forms.specs.Field.{field_at}
use Rattle.forms.specs.Form.{most_fields, buffer_bytes, kinds_of, Taken, nothing_taken, form_with, walk, form_of}
use Rattle.forms.specs.declared.kind.Kind.{Kind}
use Rattle.forms.specs.declared.field.Field.{Field}

pub kinds_most : (row : List Kind) → length (kinds_of row) ≤ most_fields
kinds_most row = omega (arith, length-take most_fields row)

-- the kinds of a row, as many as it has or as there may be
pub kinds_first : (row : List Kind) (n : ℕ) → n ≡ min (length row) most_fields → take n row ≡ kinds_of row
kinds_first row n e = by (dec_le (length row) most_fields)
  where
    by : Dec (length row ≤ most_fields) → take n row ≡ kinds_of row
    by (no h) = let z : n ≡ most_fields = omega (arith, lt_of_not-le h) in rw z refl
    by (yes h) = take_all n row (omega arith) ∙ sym (take_all most_fields row h)

pub walk_all : (row : List Kind) (kinds : List Kind) (text : List ℕ) → kinds ≡ kinds_of row → walk kinds text 0 nothing_taken ≡ form_of row text
unfolding form_of
walk_all row kinds text e = rw e refl

module _ (kinds : List Kind) (rest : List ℕ) (i at : ℕ) (h : Taken) where
  -- behind the last field
  pub walk_end : length kinds ≤ i → length rest ≤ at → Some (form_with h) ≡ walk (drop i kinds) (drop at rest) i h
  unfolding walk
  walk_end e l = rw (drop_of_length-le kinds e, drop_of_length-le rest l)

  pub walk_rest : length kinds ≤ i → at < length rest → None ≡ walk (drop i kinds) (drop at rest) i h
  unfolding walk
  walk_rest e l = rw (drop_of_length-le kinds e, length-drop, ne_eqb (length rest - at) 0 (λ z. omega arith))

  -- one field more
  module _ (kind : Kind) (l : drop i kinds ≡ kind ∷ drop (i + 1) kinds) where
    pub walk_bad : None ≡ field_at kind (buffer_bytes - h.used) (drop at rest) → None ≡ walk (drop i kinds) (drop at rest) i h
    unfolding walk
    walk_bad e = rw (l, ← e)

    pub walk_more : (x : Field) → Some x ≡ field_at kind (buffer_bytes - h.used) (drop at rest) → (content : List ℕ)
        → content ≡ pairs (take (at + 1 + x.size * 2 - (at + 1)) (drop (at + 1) rest))
        → walk (drop (i + 1) kinds) (drop (at + 1 + x.width) rest) (i + 1) (record {
          numbers = set h.numbers i x.number;
          marked = set h.marked i x.marked;
          bytes = take h.used h.bytes ++ (content ++ drop (h.used + x.size - h.used) (drop h.used h.bytes));
          used = h.used + x.size;
        })
        ≡ walk (drop i kinds) (drop at rest) i h
    unfolding walk
    walk_more x e content p =
        let z : at + 1 + x.width ≡ at + suc x.width = omega arith in
        rw (z, p, add-sub_cancel_left h.used x.size, add-sub_cancel_left (at + 1) (x.size * 2), ← drop-drop (suc x.width) at rest, ← drop-drop 1 at rest, l, ← e)
