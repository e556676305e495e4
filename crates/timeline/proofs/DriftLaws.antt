-- The number and the reading of each answer to Drift.
use mathlib.Core.Path.{◌≡◌, refl}
use mathlib.Core.Option.{none}
use Rattle.std.proofs.Common.{Option, Some, None}
use Rattle.samples.specs.declared.Ends.{Ends}
use Rattle.timeline.specs.Drift.{drift_through_of, drift_no, drift_reading, reading_through}
use Rattle.timeline.specs.declared.Drift.TheVariants.{Refused}

-- of a clock, by the ends of its samples: 0, and the reading if there is one
pub drift-through : (e : Option Ends) → (drift_no (drift_through_of e) ≡ 0) × (drift_reading (drift_through_of e) ≡ reading_through e)
drift-through None = (refl, refl)
drift-through (Some ends) = (refl, refl)

-- of a port that there is not: 2, and no reading
pub drift_refused : (drift_no Refused ≡ 2) × (drift_reading Refused ≡ none)
drift_refused = (refl, refl)
