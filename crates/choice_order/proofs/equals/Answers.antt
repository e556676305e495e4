-- The parts are equal where the number that they make is.
use Rattle.std.proofs.Common.{rules, ◌∙◌}
use Rattle.choice_order.proofs.OrderLaws.{precedence_equal}
use Rattle.choice_order.proofs.equals.Goals as goal

pub returns : goal.returns
returns c = c.eq.ensures ∙ precedence_equal c.args.p c.args.q (search rules) (search rules)
