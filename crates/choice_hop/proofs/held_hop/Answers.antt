-- Each arm is a case of the held hop, and the jump stays within a byte.
use Rattle.std.proofs.Common.{arith}
use Rattle.choice.proofs.HopLaws.{jump_within, hop_jump, hop-step}
use Rattle.choice_hop.proofs.held_hop.Goals as goal

pub overflow_add-result : goal.overflow_add-result
overflow_add-result c = let s = c.before.before in record { fits = rw c.jump.ensures (omega (arith, jump_within s.args.h s.requires)) }

pub returns-then-chosen-h : goal.returns-then-chosen-h
returns-then-chosen-h c = let a = c.before.before.args in rw c.jump.ensures (hop_jump a.h a.chosen (omega arith))

pub returns-else-chosen-h : goal.returns-else-chosen-h
returns-else-chosen-h c = hop-step _ _ (omega arith)
