-- The stamp of a latch: the grand time of a local time that the recorder's front end latched when a wave arrived.
use Rattle.std.specs.Prelude.{Bool, true, false, cond, ℕ, ◌^◌, ltb, leb, ℤ, pos, negsuc, nat_abs, ◌-ℤ◌, Option, Some, None, Result, Ok, Err}
use Rattle.refusals.specs.Refusals.{done, out_of_range, no_clock, few_samples, too_late, beyond_range}
use Rattle.refusals.specs.Chain.{unless}
use Rattle.refusals.specs.declared.Refusal.{Refusal}
use Rattle.refusals.specs.declared.Refusal.TheVariants.{OutOfRange, NoClock, FewSamples, TooLate, BeyondRange}
use Rattle.times.specs.Times.{circle, grand_end, since_of, grand_of, moment_of}
use Rattle.times.specs.declared.LocalTime.{LocalTime}
use Rattle.times.specs.declared.GrandTime.{GrandTime}
use Rattle.samples.specs.Keep.{ends_of}
use Rattle.samples.specs.declared.Samples.{Samples}
use Rattle.samples.specs.declared.Ends.{Ends}
use Rattle.timeline.specs.Line.{longest_reach, reading_at}
use Rattle.choice.specs.declared.Candidate.{Candidate}
use Rattle.bridge.specs.Table.{samples_of_choice}
use Rattle.bridge.specs.Chosen.{chosen_of}
use Rattle.bridge.specs.Send.{chosen_samples}
use Rattle.bridge.specs.declared.Bridge.{Bridge}

-- a latch as a local time
abbrev pub latched : ℕ → LocalTime
latched latch = record { 0 = latch }

-- ---- the distance

-- half way round the circle of local time
abbrev pub half_way : ℕ
half_way = 2 ^ 47

-- the way on from one local time to another is n: that way where it is less than half way round, else the way back
abbrev pub nearer_way : ℕ → ℤ
nearer_way n = cond (ltb n half_way) (pos n) (pos n -ℤ pos circle)

-- the latch less the newer sample, signed, the nearer way round: `distance_nearest` says that no other way is shorter
unfoldable pub distance_of : LocalTime → LocalTime → ℤ
distance_of latch newer = nearer_way (since_of latch newer)

-- ---- the stamp

-- the number of the refusal of a latch that lies too far from the newer sample: Send's number for a departure that does
abbrev pub too_far : ℕ
too_far = too_late

-- the grand time of a moment; 13 where there is none: below zero, or from 2^80 on
abbrev pub stamp_as : Option GrandTime → Result GrandTime Refusal
stamp_as (Some g) = Ok g
stamp_as None = Err BeyondRange

-- the line read at the latch: `stamp_formula` says that this is newer grand time + distance + floor(rate × distance / 2^35)
abbrev pub stamp_through : Option Ends → LocalTime → Result GrandTime Refusal
stamp_through None latch = Err FewSamples
stamp_through (Some e) latch =
    cond (leb (nat_abs (distance_of latch e.newest.local)) longest_reach) (stamp_as (moment_of (reading_at e.oldest e.newest (distance_of latch e.newest.local)))) (Err TooLate)

-- 10 where no clock is chosen; else by the samples of the chosen clock
abbrev pub stamp_by_of : Option Candidate → Samples → LocalTime → Result GrandTime Refusal
stamp_by_of None samples latch = Err NoClock
stamp_by_of (Some c) samples latch = stamp_through (ends_of samples) latch

-- 2 first; any number may be given for the latch
abbrev pub stamp_for_of : Option Candidate → Bridge → ℕ → Result GrandTime Refusal
stamp_for_of choice b latch = cond (ltb latch circle) (stamp_by_of choice (samples_of_choice choice b.clock b.ports) (latched latch)) (Err OutOfRange)

-- the choice is that of the state
unfoldable pub stamp_of : Bridge → ℕ → Result GrandTime Refusal
stamp_of b latch = stamp_for_of (chosen_of b) b latch

-- ---- the number and the grand time of a stamp, by the state and the latch

-- a clock is chosen
abbrev pub is_clock : Option Candidate → Bool
is_clock None = false
is_clock (Some c) = true

-- its samples have both ends
abbrev pub has_ends : Option Ends → Bool
has_ends None = false
has_ends (Some e) = true

-- how far the latch lies from the newer end, and the line read there; 0 where there are no ends
abbrev pub distance_from : Option Ends → LocalTime → ℤ
distance_from None latch = pos 0
distance_from (Some e) latch = distance_of latch e.newest.local

abbrev pub reading_from : Option Ends → LocalTime → ℤ
reading_from None latch = pos 0
reading_from (Some e) latch = reading_at e.oldest e.newest (distance_of latch e.newest.local)

-- z is the units of a grand time: no less than 0, and below 2^80
abbrev pub is_grand : ℤ → Bool
is_grand (pos n) = ltb n grand_end
is_grand (negsuc n) = false

-- the ends of the chosen clock's samples
abbrev pub chosen_ends_of : Bridge → Option Ends
chosen_ends_of b = ends_of (chosen_samples b)

-- 2 unless the latch is a local time, 10 unless a clock is chosen, 11 unless it has two samples, 12 unless the latch lies within reach of the newer one,
-- 13 unless the reading is a grand time, or 0
unfoldable pub stamp_refusal : Bridge → ℕ → ℕ
stamp_refusal b latch =
    unless (ltb latch circle) out_of_range
    (unless (is_clock (chosen_of b)) no_clock
    (unless (has_ends (chosen_ends_of b)) few_samples
    (unless (leb (nat_abs (distance_from (chosen_ends_of b) (latched latch))) longest_reach) too_far
    (unless (is_grand (reading_from (chosen_ends_of b) (latched latch))) beyond_range done))))

-- the grand time whose units are the reading
unfoldable pub stamp_given_of : Bridge → ℕ → GrandTime
stamp_given_of b latch = grand_of (nat_abs (reading_from (chosen_ends_of b) (latched latch)))
