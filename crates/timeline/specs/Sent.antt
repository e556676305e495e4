-- Sent grand time, and the errorTime that is sent with it.
use Rattle.std.specs.Prelude.{cond, ℕ, ◌^◌, ◌<◌, ltb, Option, Some, None, Result, Ok, Err, ℤ, pos, ◌+ℤ◌, ◌-ℤ◌}
use Rattle.refusals.specs.declared.Refusal.{Refusal}
use Rattle.refusals.specs.declared.Refusal.TheVariants.{FewSamples, TooLate, BeyondRange}
use Rattle.times.specs.Times.{since_of, moment_of, error_of, error_time_of}
use Rattle.times.specs.declared.LocalTime.{LocalTime}
use Rattle.times.specs.declared.GrandTime.{GrandTime}
use Rattle.times.specs.declared.ErrorTime.{ErrorTime}
use Rattle.samples.specs.Rate.{scaled_of}
use Rattle.samples.specs.Keep.{rate_between, ends_of, LawfulEnds}
use Rattle.samples.specs.declared.Sample.{Sample}
use Rattle.samples.specs.declared.Samples.{Samples}
use Rattle.samples.specs.declared.Ends.{Ends}
use Rattle.timeline.specs.Line.{reading_at, NearLine}
use Rattle.timeline.specs.declared.Sent.{Sent}

-- a departure lies less than this after the newest sample, and a backTime is less than this
abbrev pub longest_elapsed : ℕ
longest_elapsed = 2 ^ 39

-- u, how far the reading lies after the newest sample: the time elapsed since it, less backTime
abbrev pub reach_of : ℕ → ℕ → ℤ
reach_of elapsed back = pos elapsed -ℤ pos back

-- the line read backTime before the departure, and backTime added: `sent_formula` says that this is document 01's formula
unfoldable pub sent_time : Sample → Sample → ℕ → ℕ → ℤ
sent_time a b elapsed back = reading_at a b (reach_of elapsed back) +ℤ pos back

-- the errorTime sent with it, at a rate: the newest sample's, and the rest, floor(rate × stretch / 2^35), which is missing in the sent grand time: a stretch
-- of the time before the departure went into that at the local rate. The stretch is backTime, or none where the rest is left out
abbrev pub error_by : ℤ → Sample → ℕ → ℤ
error_by rate b stretch = error_of b.error +ℤ scaled_of rate (pos stretch)

-- the same at the rate between the oldest and the newest sample
unfoldable pub sent_error : Sample → Sample → ℕ → ℤ
sent_error a b stretch = error_by (rate_between a b) b stretch

-- what a frame carries of both: 13 where one of them does not fit. A sent time is never below zero, says `sent_units`
abbrev pub sent_as_of : Option GrandTime → Option ErrorTime → Result Sent Refusal
sent_as_of (Some g) (Some e) = Ok (record { grand = g; error = e })
sent_as_of (Some g) None = Err BeyondRange
sent_as_of None e = Err BeyondRange

-- what a frame that departs at t carries, by the two ends of the samples
abbrev pub sent_through_of : Option Ends → LocalTime → ℕ → ℕ → Result Sent Refusal
sent_through_of None t back stretch = Err FewSamples
sent_through_of (Some ends) t back stretch =
    cond (ltb (since_of t ends.newest.local) longest_elapsed)
    (sent_as_of (moment_of (sent_time ends.oldest ends.newest (since_of t ends.newest.local) back)) (error_time_of (sent_error ends.oldest ends.newest stretch)))
    (Err TooLate)

unfoldable pub sent_of : Samples → LocalTime → ℕ → ℕ → Result Sent Refusal
sent_of samples t back stretch = sent_through_of (ends_of samples) t back stretch

-- every sent grand time and errorTime together, the rest of backTime in it, less the newest sample's errorTime, lies less than k units from the line at the
-- departure itself. `departure_bound` is the least such k
abbrev pub DeparturesWithin : ℕ → Type 0
DeparturesWithin k =
    (a b : Sample) (elapsed back : ℕ) → LawfulEnds a b → elapsed < longest_elapsed → back < longest_elapsed
    → NearLine k a b (sent_time a b elapsed back +ℤ sent_error a b back -ℤ error_of b.error) (pos elapsed) 0
