-- The walk over the fields that are left, with what is read so far, is the walk over all of them.
use Rattle.std.proofs.Common.{◌≡◌, ℕ, ◌≤◌, Bool, List, length, drop}
use Rattle.forms.specs.Form.{most_fields, buffer_bytes, walk, form_of}
use Rattle.forms.specs.declared.kind.Kind.{Kind}
use Rattle.forms.proofs.read.Given as goal

-- where the loop stands: no more kinds than there may be, room for every field, and the walk over the fields that are left is the walk over all of them
pub record Reached (row kinds : List Kind) (rest : List ℕ) (numbers : List ℕ) (marked : List Bool) (bytes : List ℕ) (used at i : ℕ) : Type 0 where
  pub most : length kinds ≤ most_fields
  pub numbers-room : length numbers ≡ most_fields
  pub marked-room : length marked ≡ most_fields
  pub bytes-room : length bytes ≡ buffer_bytes
  pub used-most : used ≤ buffer_bytes
  pub at_most : at ≤ length rest
  pub walked : walk (drop i kinds) (drop at rest) i (record { numbers = numbers; marked = marked; bytes = bytes; used = used }) ≡ form_of row rest

abbrev pub invariant-loop-i : goal.invariant-loop-i
invariant-loop-i l = Reached l.row l.kinds l.rest l.numbers l.marked l.bytes l.used l.at l.i
