-- Drift in parts per million.
use Rattle.std.specs.Prelude.{not, ℕ, ◌*◌, Option, Some, None, ℤ, nat_abs, Float}
use Rattle.std.proofs.Math.Option as Reading
use Rattle.std.specs.Int.Signed.{non_neg}
use Rattle.std.specs.Float.{binary64}
use Rattle.std.specs.Float.Ieee.{round}
use Rattle.refusals.specs.Refusals.{done, out_of_range}
use Rattle.samples.specs.Rate.{parts}
use Rattle.samples.specs.Keep.{ends_of, rate_between}
use Rattle.samples.specs.declared.Samples.{Samples}
use Rattle.samples.specs.declared.Ends.{Ends}
use Rattle.timeline.specs.declared.Drift.{Drift}
use Rattle.timeline.specs.declared.Drift.TheVariants.{NoReading, PartsPerMillion, Refused}

abbrev pub million : ℕ
million = 1000000

-- the 64-bit float of rate × 1,000,000 / 2^35: the theorem `ppm_exact` says that nothing is rounded
unfoldable pub ppm_of : ℤ → Float
ppm_of rate = round binary64 (not (non_neg rate)) (nat_abs rate * million) parts

-- the drift of a clock, by the two ends of its samples
abbrev pub drift_through_of : Option Ends → Drift
drift_through_of None = NoReading
drift_through_of (Some ends) = PartsPerMillion (ppm_of (rate_between ends.oldest ends.newest))

unfoldable pub drift_of : Samples → Drift
drift_of samples = drift_through_of (ends_of samples)

-- document 01's number of an answer to Drift, and the reading that it carries: none, or parts per million
abbrev pub drift_no : Drift → ℕ
drift_no NoReading = done
drift_no (PartsPerMillion x) = done
drift_no Refused = out_of_range

abbrev pub drift_reading : Drift → Reading.Option Float
drift_reading NoReading = Reading.none
drift_reading (PartsPerMillion x) = Reading.some x
drift_reading Refused = Reading.none

-- the reading by the two ends of a clock's samples: none of too few, else the rate between them in parts per million
abbrev pub reading_through : Option Ends → Reading.Option Float
reading_through None = Reading.none
reading_through (Some ends) = Reading.some (ppm_of (rate_between ends.oldest ends.newest))
