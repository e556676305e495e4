-- The stamp off two ends, whose rate is within the limits and whose distance is within reach.
use Rattle.std.proofs.Common.{◌≡◌, ◌≤◌, sym, ap, ◌∙◌, arith, w64, to_z, of_z, nat_abs, Some}
use lib.IntN.{+ℤ_idr}
use Rattle.times.specs.Times.{moment_of}
use Rattle.samples.specs.Keep.{rate_between, ends_of, LawfulEnds}
use Rattle.timeline.specs.Line.{longest_reach, reading_at}
use Rattle.recorder.specs.Stamp.{distance_of}
use Rattle.numbers.proofs.Machine.{got}
use Rattle.samples.proofs.KeepLaws.{between_small, ends_lawful}
use Rattle.recorder.proofs.StampLaws.{or_beyond, through_as}
use Rattle.recorder.proofs.through.Goals as goal
use Rattle.recorder.proofs.through.Goals.{After-abs, After-rate_between-rate, After-reading}

-- the ends of the samples
ends_are : (c : After-abs) → ends_of c.args.samples ≡ Some c.in_ok-ends.ends
ends_are c = sym c.ends.ensures ∙ c.in_ok-ends.ensures.ok_part

lawful : (c : After-abs) → LawfulEnds c.in_ok-ends.ends.oldest c.in_ok-ends.ends.newest
lawful c = ends_lawful c.args.samples _ c.requires (ends_are c)

pub rate_between-rate-requires : goal.rate_between-rate-requires
rate_between-rate-requires c = lawful (goal.at.rate_between-rate-requires c).After-abs

-- the rate, as it is passed on
rate_is : (c : After-rate_between-rate) → to_z w64 (of_z w64 c.rate_between-rate.result) ≡ rate_between c.in_ok-ends.ends.oldest c.in_ok-ends.ends.newest
rate_is c = got c.rate_between-rate.type_inv c.rate_between-rate.ensures

pub reading-requires-clause-in_range : goal.reading-requires-clause-in_range
reading-requires-clause-in_range c = (lawful (goal.at.reading-requires-clause-in_range c).After-abs).newest.grand

pub reading-requires-clause-rate_bound : goal.reading-requires-clause-rate_bound
reading-requires-clause-rate_bound c =
    let at = goal.at.reading-requires-clause-rate_bound c in
    rw (rate_is at.After-rate_between-rate) (between_small _ _ (lawful at.After-abs))

-- the reading is that of the line through the two ends, at the distance
reading_is : (c : After-reading) → c.reading.result ≡ moment_of (reading_at c.in_ok-ends.ends.oldest c.in_ok-ends.ends.newest (distance_of c.args.latch c.in_ok-ends.ends.newest.local))
unfolding reading_at
reading_is c =
    c.reading.ensures
    ∙ rw (got c.rate_between-rate.type_inv c.rate_between-rate.ensures, got c.distance-away.type_inv c.distance-away.ensures) (ap moment_of (+ℤ_idr _))

within : (c : After-rate_between-rate) → nat_abs (distance_of c.args.latch c.in_ok-ends.ends.newest.local) ≤ longest_reach
within c = omega (arith, c.abs.ensures ∙ ap nat_abs (got c.distance-away.type_inv c.distance-away.ensures), c.if-abs-gt-LONGEST_REACH.false)

pub returns : goal.returns
returns c =
    let at = goal.at.returns c in
    c.ok_or-2.ensures.value ∙ or_beyond c.reading.result ∙ through_as _ (sym (ends_are at.After-abs)) (within at.After-rate_between-rate) (reading_is at.After-reading)
