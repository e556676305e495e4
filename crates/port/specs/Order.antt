-- When a record refuses: each condition by itself, with its number.
use Rattle.std.specs.Prelude.{◌≡◌, List, [], ◌∷◌, ◌⊎◌, ◌≢◌, ℕ, ◌+◌, ◌-◌, ◌%◌, ◌^◌, ◌<◌, ◌≤◌, ℤ, pos, neg_ℤ, ◌+ℤ◌, ◌<ℤ◌, Option, Some, None}
use Rattle.refusals.specs.Order.{Condition, given}
use Rattle.numbers.specs.Whole.{at_least_zero}
use Rattle.times.specs.Times.{since_of, error_of}
use Rattle.times.specs.declared.LocalTime.{LocalTime}
use Rattle.samples.specs.Rate.{scaled_of, neighbour_rate_of}
use Rattle.samples.specs.Keep.{rate_between, how_many, ends_of}
use Rattle.samples.specs.declared.Samples.{Samples}
use Rattle.samples.specs.declared.Ends.{Ends}
use Rattle.samples.specs.declared.Pair.{Pair}
use Rattle.delay.specs.Delay.{delay_of}
use Rattle.delay.specs.declared.DelaySetting.{DelaySetting}
use Rattle.delay.specs.declared.DelaySetting.TheVariants.{Measured, Fixed}
use Rattle.timeline.specs.Sent.{sent_time}
use Rattle.choice.specs.declared.Candidate.{Candidate}
use Rattle.port.specs.declared.Profile.{Profile}
use Rattle.port.specs.declared.Profile.TheVariants.{Full, Listener}
use Rattle.port.specs.declared.Preceding.{Preceding}
use Rattle.port.specs.declared.Preceding.TheVariants.{Never, Was}

-- ---- Receive and Own clock

-- frameCount is not the last one plus 1, or none was heard
abbrev pub NotNext : Preceding → ℕ → Type 0
NotNext Never count = Unit {0}
NotNext (Was last p) count = count ≢ (last + 1) % 256

-- round trip or turn above 2^39, or delay above 2^30
abbrev pub TooLong : ℤ → ℕ → ℕ → Type 0
TooLong rate trip turn = ((2 ^ 39 < trip) ⊎ (2 ^ 39 < turn)) ⊎ (2 ^ 30 < delay_of rate trip turn)

-- the delay is measured, that is not fixed and with a that-field that is not zero, and too long
abbrev pub MeasuredTooLong : DelaySetting → ℤ → LocalTime → LocalTime → LocalTime → LocalTime → Type 0
MeasuredTooLong (Fixed delay) rate local p tx rx = ⊥
MeasuredTooLong Measured rate local p tx rx = (((tx.0 ≡ 0) × (rx.0 ≡ 0)) → ⊥) × TooLong rate (since_of p tx) (since_of local rx)

-- the same of a frame by the one before it, which came in at p, and by the stored pair
abbrev pub DelayTooLong : Preceding → DelaySetting → Option Pair → LocalTime → LocalTime → LocalTime → Type 0
DelayTooLong Never delay pair local tx rx = ⊥
DelayTooLong (Was last p) delay pair local tx rx = MeasuredTooLong delay (neighbour_rate_of pair local p) local p tx rx

-- a frame that was read, by its hopCount, frameCount, localTime and that-fields, on a port with this setting, preceding frame and pair
abbrev pub frame_conditions : DelaySetting → Preceding → Option Pair → ℕ → ℕ → LocalTime → LocalTime → LocalTime → List Condition
frame_conditions delay preceding pair hop count local tx rx =
    given 7 (hop ≡ 255)
    ∷ given 8 (NotNext preceding count)
    ∷ given 9 (DelayTooLong preceding delay pair local tx rx)
    ∷ []

-- a reading of the own clock
abbrev pub reading_conditions : Preceding → ℕ → List Condition
reading_conditions preceding count = given 8 (NotNext preceding count) ∷ []

-- ---- Send

-- departure minus newer sample is 2^39 or more
abbrev pub TooLate : Option Ends → LocalTime → Type 0
TooLate None t = ⊥
TooLate (Some ends) t = 2 ^ 39 ≤ since_of t ends.newest.local

-- the sent grand time would reach 2^80
abbrev pub BeyondEnd : Option Ends → LocalTime → ℕ → Type 0
BeyondEnd None t back = ⊥
BeyondEnd (Some ends) t back = 2 ^ 80 ≤ at_least_zero (sent_time ends.oldest ends.newest (since_of t ends.newest.local) back)

-- a whole number that 32 signed bits do not hold
abbrev pub BeyondBits : ℤ → Type 0
BeyondBits z = (z <ℤ neg_ℤ (pos (2 ^ 31))) ⊎ (pos (2 ^ 31 - 1) <ℤ z)

-- in version 2, errorTime would leave 32 signed bits: the newer sample's, and floor(rate × backTime / 2^35)
abbrev pub ErrorBeyond : ℕ → Option Ends → ℕ → Type 0
ErrorBeyond version None back = ⊥
ErrorBeyond version (Some ends) back =
    (version ≡ 2) × BeyondBits (error_of ends.newest.error +ℤ scaled_of (rate_between ends.oldest ends.newest) (pos back))

-- a departure at t: from a full bridge, by the chosen clock and its samples, in a version; from a listener there is nothing to refuse
abbrev pub departure_conditions : Profile → Option Candidate → Samples → ℕ → LocalTime → ℕ → List Condition
departure_conditions Listener chosen samples version t back = []
departure_conditions Full chosen samples version t back =
    given 10 (chosen ≡ None)
    ∷ given 11 (how_many samples < 2)
    ∷ given 12 (TooLate (ends_of samples) t)
    ∷ given 13 (BeyondEnd (ends_of samples) t back)
    ∷ given 13 (ErrorBeyond version (ends_of samples) back)
    ∷ []
