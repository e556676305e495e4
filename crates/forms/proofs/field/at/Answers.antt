-- No text left, no space, or the field after the space.
use Prim.Native.Nat.{ℕ, ◌+◌}
use native.Mathlib.Omega.{arith}
use lib.ListN.{get_or, drop_of_length-le}
use lib.Seq.{drop-cons}
use borrow.Author.Tests.{eq-eqb, ne_eqb}
use Rattle.hexadecimal.proofs.SearchLaws.{found_within}
use Rattle.forms.specs.Field.{field_at}
use Rattle.hexadecimal.specs.Character.{space}
use Rattle.forms.proofs.FieldLaws.{field_taken}
use Rattle.forms.proofs.field.at.Goals as goal
use Rattle.forms.proofs.field.at.Goals.{then-text-from-via-then-text-from, then-text-from-via-else-text-from+then-text-from-ne-SPACE}

pub slice_bounds-of_kind-end : goal.slice_bounds-of_kind-end
slice_bounds-of_kind-end c =
    let a = c.args in
    omega (arith, c.found-end.ensures, c.if-text-from.false, found_within space a.text.now (a.from + 1) (omega arith))

pub returns-then-text-from : goal.returns-then-text-from
unfolding field_at
returns-then-text-from c =
    elim c.then-text-from.branch [
      | then-text-from-via-then-text-from w ↦ rw (drop_of_length-le {A = ℕ} c.args.text.now w.if-text-from.true)
      | then-text-from-via-else-text-from+then-text-from-ne-SPACE w ↦
          rw (drop-cons {A = ℕ} c.args.text.now c.args.from 0 w.if-text-from.false, ne_eqb (get_or c.args.text.now c.args.from 0) 32 w.if-text-from-ne-SPACE.true)
    ]

pub returns : goal.returns
unfolding field_at
returns c =
    rw (drop-cons {A = ℕ} _ _ 0 c.if-text-from.false, eq-eqb _ _ c.if-text-from-ne-SPACE.false, ← field_taken _ _ _ c.found-end.ensures) c.of_kind.ensures
