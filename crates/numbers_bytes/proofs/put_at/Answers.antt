-- A part of the output is lent to `put`; the rest stays.
use Prim.Native.Nat.{◌≤◌}
use native.Mathlib.Omega.{arith}
use native.Mathlib.Nat.{add-sub_cancel_left}
use lib.ListN.{length, drop, length-drop}
use lib.Seq.{length-take-le, drop-drop}
use Rattle.numbers_bytes.proofs.put_at.Goals as goal

pub returns : goal.returns
returns c =
    let a = c.before.before.before.before.before.args in
    let h : a.n ≤ length (drop a.at a.out.now) = simp length-drop (omega arith) in
    rw (c.before.before.put.ensures, add-sub_cancel_left, length-take-le a.n (drop a.at a.out.now) h, drop-drop)
