-- A rise below a second stays within one second or reaches into the next; every other is far.
use Rattle.std.proofs.Common.{arith}
use Rattle.times.proofs.RiseLaws.{rise_by, rise_far}
use Rattle.times.proofs.grand.risen.Goals as goal

pub returns-then-a-b-2 : goal.returns-then-a-b-2
returns-then-a-b-2 c = rise_by _ _ _ (omega arith) (omega arith)

pub returns-then-b-a : goal.returns-then-b-a
returns-then-b-a c = rise_by _ _ _ (omega arith) (omega arith)

pub returns : goal.returns
returns c = rise_far _ _ (λ h k. omega (arith, c.else-a-b.either, c.else-a-b-3.either))
