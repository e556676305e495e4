-- Receive, on one record: steps 1 to 5 for a frame that was read.
use Rattle.std.specs.Prelude.{ℕ, Bool, false, cond, eqb, Option, Some, None, Result, Ok, Err}
use Rattle.refusals.specs.Answer.{granted}
use Rattle.refusals.specs.declared.Refusal.{Refusal}
use Rattle.refusals.specs.declared.Refusal.TheVariants.{LastHopHeard, NotNext}
use Rattle.times.specs.Times.{earlier_by, next_count}
use Rattle.choice.specs.Hop.{last_hop, hop_of}
use Rattle.times.specs.declared.LocalTime.{LocalTime}
use Rattle.samples.specs.Rate.{neighbour_rate_of}
use Rattle.samples.specs.Keep.{kept_of}
use Rattle.samples.specs.declared.Sample.{Sample}
use Rattle.delay.specs.Delay.{link_delay_of}
use Rattle.choice.specs.Precedence.{precedence_of}
use Rattle.choice.specs.declared.Precedence.{Precedence}
use Rattle.choice.specs.declared.Announcement.{Announcement}
use Rattle.frame.specs.declared.Fields.{Fields}
use Rattle.port.specs.declared.Setting.{Setting}
use Rattle.port.specs.declared.Preceding.{Preceding}
use Rattle.port.specs.declared.Preceding.TheVariants.{Never, Was}
use Rattle.port.specs.declared.Port.{Port}
use Rattle.port.specs.declared.Outcome.{Outcome}

-- whether the announcement is of the clock with this precedence
unfoldable pub same_clock : Option Announcement → Precedence → Bool
same_clock None precedence = false
same_clock (Some held) precedence = eqb (precedence_of held.precedence) (precedence_of precedence)

-- a refused frame: frameCount and arrival are stored as the next p, and nothing else
abbrev pub noted_port : ℕ → LocalTime → Port → Port
noted_port count at port = record port { preceding = Was count at }

abbrev pub refused_by : Refusal → ℕ → LocalTime → Port → Outcome Port
refused_by refusal count at port = record { answer = Err refusal; after = noted_port count at port }

-- step 4: the frame's sample
abbrev pub sample_of : Fields → LocalTime → ℕ → Sample
sample_of f p delay = record { grand = f.grand; local = earlier_by p delay; error = f.error }

-- steps 4 and 5: what is stored of a frame with this held hop and delay
abbrev pub taken_port : Fields → ℕ → LocalTime → ℕ → LocalTime → Port → Port
taken_port f hop p delay at port = record {
  preceding = Was f.count at;
  announcement = Some (record { precedence = f.precedence; hop = hop; heard_at = at });
  samples = kept_of port.samples (same_clock port.announcement f.precedence) (sample_of f p delay);
  pair = Some (record { there = f.local; here = p });
  echo = Some (record { there = f.local; here = p });
  count = port.count;
}

-- step 3, and 9 for a delay that is too long
abbrev pub delayed_by : Result ℕ Refusal → ℕ → Fields → LocalTime → LocalTime → Port → Result Port Refusal
delayed_by (Err refusal) chosen f p at port = Err refusal
delayed_by (Ok delay) chosen f p at port = Ok (taken_port f (hop_of f.hop chosen) p delay at port)

-- steps 1 and 2, for a frame whose preceding one arrived at p
unfoldable pub followed_by_of : Setting → ℕ → Fields → LocalTime → LocalTime → Port → Result Port Refusal
followed_by_of setting chosen f p at port =
    delayed_by (link_delay_of setting.delay (neighbour_rate_of port.pair f.local p) f.local p f.tx f.rx) chosen f p at port

-- 8 where the frameCount does not follow on the preceding one, or there is none
abbrev pub counted_by : Preceding → Setting → ℕ → Fields → LocalTime → Port → Result Port Refusal
counted_by Never setting chosen f at port = Err NotNext
counted_by (Was count p) setting chosen f at port =
    cond (eqb f.count (next_count count)) (followed_by_of setting chosen f p at port) (Err NotNext)

-- 7 for the last hop, then 8, then 9; else the record that took the frame. `chosen` is the chosen clock's held hop before the call
abbrev pub taken_by : Setting → ℕ → Fields → LocalTime → Port → Result Port Refusal
taken_by setting chosen f at port =
    cond (eqb f.hop last_hop) (Err LastHopHeard) (counted_by port.preceding setting chosen f at port)

-- the answer, and the record after the frame
abbrev pub received_as : Result Port Refusal → ℕ → LocalTime → Port → Outcome Port
received_as (Ok after) count at port = record { answer = granted; after = after }
received_as (Err refusal) count at port = refused_by refusal count at port

unfoldable pub received_of : Setting → ℕ → Fields → LocalTime → Port → Outcome Port
received_of setting chosen f at port = received_as (taken_by setting chosen f at port) f.count at port
