-- The parts are compared as the number that they make.
use Rattle.std.proofs.Common.{rules, ◌∙◌}
use Rattle.choice_order.proofs.OrderLaws.{less_compared, precedence_compared}
use Rattle.choice_order.proofs.precedes.Goals as goal

pub returns : goal.returns
returns c = c.lt.ensures ∙ less_compared _ _ (precedence_compared c.args.p c.args.q (search rules) (search rules))
