-- The count less the last one, round the circle of counts.
use Rattle.std.proofs.Common.{◌∙◌}
use Rattle.times.proofs.TimeLaws.{count_is}
use Rattle.times.proofs.local.next_count.Goals as goal

pub returns : goal.returns
returns c = c.around.ensures ∙ rw c.from.ensures (count_is _)
