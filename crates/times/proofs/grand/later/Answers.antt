-- The sum of the fractions, with its whole second carried over.
use Rattle.std.proofs.Common.{pos, ap, arith}
use Rattle.times.proofs.TimeLaws.{moment_at, moment_end}
use Rattle.times.proofs.grand.later.Goals as goal

pub returns-then-seconds-lt-SECONDS_END : goal.returns-then-seconds-lt-SECONDS_END
returns-then-seconds-lt-SECONDS_END c = moment_at _ _ (record { seconds = omega arith; fraction = omega arith }) (ap pos (omega arith))

pub returns-else-seconds-lt-SECONDS_END : goal.returns-else-seconds-lt-SECONDS_END
returns-else-seconds-lt-SECONDS_END c = moment_end _ (omega arith)
