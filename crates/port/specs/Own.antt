-- Own clock, on its record.
use Rattle.std.specs.Prelude.{ℕ, true, cond, eqb, Result, Err, ⊤}
use Rattle.refusals.specs.Answer.{granted}
use Rattle.refusals.specs.declared.Refusal.{Refusal}
use Rattle.refusals.specs.declared.Refusal.TheVariants.{NotNext}
use Rattle.times.specs.Times.{next_count}
use Rattle.times.specs.declared.LocalTime.{LocalTime}
use Rattle.times.specs.declared.GrandTime.{GrandTime}
use Rattle.samples.specs.Keep.{kept_of}
use Rattle.samples.specs.declared.Sample.{Sample}
use Rattle.samples.specs.declared.Samples.{Samples}
use Rattle.port.specs.declared.Preceding.{Preceding}
use Rattle.port.specs.declared.Preceding.TheVariants.{Never, Was}
use Rattle.port.specs.declared.OwnClock.{OwnClock}
use Rattle.port.specs.declared.Outcome.{Outcome}

-- an answer, with these samples and with the reading's frameCount and time stored
abbrev pub stored_as : Result ⊤ Refusal → Samples → ℕ → LocalTime → Outcome OwnClock
stored_as answer samples count at =
    record { answer = answer; after = record { preceding = Was count at; samples = samples } }

-- the grand time belongs to the time of the preceding reading, with errorTime 0
abbrev pub own_sample : GrandTime → LocalTime → Sample
own_sample grand when = record { grand = grand; local = when; error = record { 0 = 0 } }

-- 8 where the frameCount does not follow on the preceding one, or there is none
abbrev pub own_reading_by : Preceding → ℕ → GrandTime → LocalTime → Samples → Outcome OwnClock
own_reading_by Never count grand at samples = stored_as (Err NotNext) samples count at
own_reading_by (Was held when) count grand at samples =
    cond (eqb count (next_count held)) (stored_as granted (kept_of samples true (own_sample grand when)) count at) (stored_as (Err NotNext) samples count at)

unfoldable pub own_reading_of : ℕ → GrandTime → LocalTime → OwnClock → Outcome OwnClock
own_reading_of count grand at clock = own_reading_by clock.preceding count grand at clock.samples
