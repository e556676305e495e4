-- The difference round the circle of local time.
use Rattle.times.specs.Times.{since_of}
use Rattle.times.proofs.local.since.Goals as goal

pub returns : goal.returns
unfolding since_of
returns c = c.around.ensures
