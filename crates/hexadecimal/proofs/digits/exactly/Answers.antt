-- By the length, and then by the digits.
use Rattle.std.proofs.Common.{length, ◌∙◌, eq-eqb, ne_eqb}
use Rattle.hexadecimal.specs.Digit.{exactly}
use Rattle.numbers.proofs.Branches.{if_true}
use Rattle.hexadecimal.proofs.digits.exactly.Goals as goal

pub returns-then-text-n : goal.returns-then-text-n
unfolding exactly
returns-then-text-n c = c.all.ensures ∙ if_true _ _ _ (eq-eqb _ _ c.if-text-n.true)

pub returns-else-text-n : goal.returns-else-text-n
unfolding exactly
returns-else-text-n c = rw (ne_eqb (length c.args.text.now) c.args.n c.if-text-n.false)
