-- A part of the slice is lent to `number`.
use Prim.Native.Nat.{◌≤◌}
use lib.Seq.{length-take-le}
use native.Mathlib.Nat.{add-sub_cancel_left}
use lib.ListN.{length-drop, length}
use native.Mathlib.Omega.{arith}
use Rattle.numbers_bytes.proofs.number_at.Goals as goal

pub returns : goal.returns
returns c =
    let a = c.before.before.before.args in
    let d = lib.ListN.drop a.at a.s.now in
    let h : a.n ≤ length d = simp length-drop (omega arith) in
    record { value = (rw add-sub_cancel_left at c.number.ensures.value); upper_bound = (rw (add-sub_cancel_left, length-take-le) at c.number.ensures.upper_bound) }
