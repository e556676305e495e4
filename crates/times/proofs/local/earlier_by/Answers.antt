-- The way round the circle from n to t, as a local time.
use Rattle.times.proofs.local.earlier_by.Goals as goal

pub returns : goal.returns
returns c = λ i. record { 0 = c.since.ensures i }
