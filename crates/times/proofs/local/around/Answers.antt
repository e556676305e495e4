-- The difference on the machine's circle of 2^64, reduced to a circle that divides it.
use Rattle.std.proofs.Common.{arith}
use Rattle.times.proofs.TimeLaws.{around_is}
use Rattle.times.proofs.local.around.Goals as goal

pub returns : goal.returns
returns c = around_is c.args.a c.args.b c.args.circle _ c.requires.0 c.requires.1 (omega arith)
