-- A part of the output is lent to `put`; the rest stays.
use native.Mathlib.Nat.{add-sub_cancel_left}
use Rattle.std.proofs.Common.{drop-drop}
use Rattle.hexadecimal.proofs.text.put_at.Goals as goal

pub returns : goal.returns
returns c = rw (c.put.ensures, add-sub_cancel_left, drop-drop)
