-- Document 01's literals of times, of steps 1 to 4, of Age and of Send, as one record and what it hears and sends show them.
use Rattle.std.specs.Prelude.{true, List, [], ◌∷◌, ◌++◌, ℕ, ◌+◌, ◌-◌, ◌*◌, ◌^◌, pos, neg_ℤ, Option, Some, None}
use Rattle.refusals.specs.Literals.{Literal, literal, tested}
use Rattle.refusals.specs.Answer.{answer_number}
use Rattle.numbers.specs.Whole.{at_least_zero}
use Rattle.times.specs.Times.{since_of, grand_of, moment_of, next_count}
use Rattle.times.specs.declared.GrandTime.{GrandTime}
use Rattle.samples.specs.Rate.{limits_hold, rate_of}
use Rattle.samples.specs.declared.Samples.TheVariants.{Empty, One, Two}
use Rattle.delay.specs.Delay.{measured_of, link_delay_of}
use Rattle.delay.specs.declared.DelaySetting.{DelaySetting}
use Rattle.delay.specs.declared.DelaySetting.TheVariants.{Measured, Fixed}
use Rattle.timeline.specs.Drift.{million}
use Rattle.timeline.specs.Sent.{sent_of}
use Rattle.choice.specs.Hop.{hop_of}
use Rattle.choice.specs.Choose.{own_candidate, chosen_hop}
use Rattle.choice.specs.declared.Precedence.{Precedence}
use Rattle.choice.specs.declared.Announcement.{Announcement}
use Rattle.frame.specs.Frame.{first_version}
use Rattle.frame.specs.declared.Fields.{Fields}
use Rattle.frame.specs.declared.Mac.{Mac}
use Rattle.port.specs.Record.{empty_port, empty_clock, too_old}
use Rattle.port.specs.Own.{own_reading_of}
use Rattle.port.specs.Receive.{noted_port, received_of}
use Rattle.port.specs.Send.{sending_of}
use Rattle.port.specs.Edges.{local, sample}
use Rattle.port.specs.declared.Profile.TheVariants.{Full}
use Rattle.port.specs.declared.Port.{Port}

-- an address and a precedence of zeros
abbrev address : Mac
address = record { 0 = 0; 1 = 0; 2 = 0; 3 = 0; 4 = 0; 5 = 0 }

abbrev precedence : Precedence
precedence = record { priority1 = 0; source = 0; variance = 0; priority2 = 0; clock = 0 }

-- ---- times

-- whether there is a moment, 1 where there is
abbrev found : Option GrandTime → ℕ
found (Some g) = 1
found None = 0

abbrev times : List Literal
times =
    -- a difference of local times is taken modulo 2^48
    literal (since_of (local 0) (local 1)) (2 ^ 48 - 1)
    -- grand time is one number below 2^80
    ∷ literal (found (moment_of (pos (2 ^ 80 - 1)))) 1
    ∷ literal (found (moment_of (pos (2 ^ 80)))) 0
    -- frameCount is modulo 256
    ∷ literal (next_count 254) 255
    ∷ literal (next_count 255) 0
    ∷ []

-- ---- steps 1 to 4

-- a round trip and a turn at rate 0, by the refusal
abbrev measured : ℕ → ℕ → ℕ
measured trip turn = answer_number (measured_of (pos 0) trip turn)

-- a frame whose preceding one came in at 2^40, with these that-fields, by the refusal
abbrev delayed : DelaySetting → ℕ → ℕ → ℕ
delayed setting tx rx = answer_number (link_delay_of setting (pos 0) (local 0) (local (2 ^ 40)) (local tx) (local rx))

-- a frame with this hopCount and frameCount, on a port that heard this frameCount last, or nothing, by the refusal
abbrev frame : ℕ → ℕ → Fields
frame hop count = record {
  sa = address;
  precedence = precedence;
  hop = hop;
  count = count;
  grand = grand_of 0;
  local = local 0;
  tx = local 0;
  rx = local 0;
  error = record { 0 = 0 };
  version = first_version;
}

abbrev received : Port → ℕ → ℕ → ℕ
received port hop count = answer_number (received_of (record { delay = Measured }) 255 (frame hop count) (local 0) port).answer

abbrev heard : ℕ → Port
heard count = noted_port count (local 0) empty_port

abbrev steps : List Literal
steps =
    -- S is 2^30..2^39
    literal (tested (limits_hold (pos 0) (2 ^ 30 - 1))) 0
    ∷ literal (tested (limits_hold (pos 0) (2 ^ 30))) 1
    ∷ literal (tested (limits_hold (pos 0) (2 ^ 39))) 1
    ∷ literal (tested (limits_hold (pos 0) (2 ^ 39 + 1))) 0
    -- |d| × 4,000 <= S
    ∷ literal (tested (limits_hold (pos 1000000) (1000000 * 4000))) 1
    ∷ literal (tested (limits_hold (pos 1000000) (1000000 * 4000 - 1))) 0
    ∷ literal (tested (limits_hold (neg_ℤ (pos 1000000)) (1000000 * 4000))) 1
    ∷ literal (tested (limits_hold (neg_ℤ (pos 1000000)) (1000000 * 4000 - 1))) 0
    -- a rate counts in parts of 2^35
    ∷ literal (at_least_zero (rate_of (pos 1) 1)) (2 ^ 35)
    -- round trip and turn up to 2^39, delay up to 2^30
    ∷ literal (measured (2 ^ 39) (2 ^ 39)) 0
    ∷ literal (measured (2 ^ 39 + 1) (2 ^ 39)) 9
    ∷ literal (measured (2 ^ 39) (2 ^ 39 + 1)) 9
    ∷ literal (measured (2 * 2 ^ 30 + 1) 0) 0
    ∷ literal (measured (2 * 2 ^ 30 + 2) 0) 9
    -- both that-fields zero: 9 is not tested; a fixed delay always stands
    ∷ literal (delayed Measured 0 0) 0
    ∷ literal (delayed Measured 0 1) 9
    ∷ literal (delayed Measured 1 0) 9
    ∷ literal (delayed (Fixed (2 ^ 30)) 0 1) 0
    -- H is 0 for own, 255 if none
    ∷ literal (chosen_hop (own_candidate true precedence)) 0
    ∷ literal (chosen_hop None) 255
    -- h = H takes n = 1; h above H takes half of what is left to 255
    ∷ literal (hop_of 7 7) 8
    ∷ literal (hop_of 8 7) 131
    -- hopCount 255 is 7, and comes before 8; the first frame is 8; frameCount 0 follows 255
    ∷ literal (received empty_port 255 0) 7
    ∷ literal (received empty_port 254 0) 8
    ∷ literal (received (heard 255) 254 0) 0
    ∷ literal (received (heard 255) 254 1) 8
    ∷ literal (received (heard 0) 254 0) 8
    ∷ literal (received (heard 0) 254 1) 0
    -- and so for the own clock's first reading
    ∷ literal (answer_number (own_reading_of 0 (grand_of 0) (local 0) empty_clock).answer) 8
    ∷ []

-- ---- Age, Send and Drift

-- two samples 2^34 apart, the newer at this grand time and at the local time 2^34; a departure so long after it, by the refusal
abbrev departs : ℕ → ℕ → ℕ
departs newer elapsed = answer_number (sent_of (Two (sample (newer - 2 ^ 34) 0) (sample newer (2 ^ 34))) (local (2 ^ 34 + elapsed)) 0 0)

-- a clock heard at the local time 0
abbrev announced : Option Announcement
announced = Some (record { precedence = precedence; hop = 0; heard_at = local 0 })

abbrev sends : List Literal
sends =
    -- now - heard-at >= timeout
    literal (tested (too_old announced (local (2 ^ 39 - 1)) (2 ^ 39))) 0
    ∷ literal (tested (too_old announced (local (2 ^ 39)) (2 ^ 39))) 1
    -- the first frameCount is 0
    ∷ literal empty_port.count 0
    -- no clock chosen; fewer than two samples
    ∷ literal (answer_number (sending_of None Empty (record { profile = Full; mac = address; back = 0 }) first_version (local 0) empty_port)) 10
    ∷ literal (answer_number (sent_of Empty (local 0) 0 0)) 11
    ∷ literal (answer_number (sent_of (One (sample 0 0)) (local 0) 0 0)) 11
    -- departure minus newer sample below 2^39, sent grand time below 2^80
    ∷ literal (departs (2 ^ 40) (2 ^ 39 - 1)) 0
    ∷ literal (departs (2 ^ 40) (2 ^ 39)) 12
    ∷ literal (departs (2 ^ 80 - 1) 0) 0
    ∷ literal (departs (2 ^ 80 - 1) 1) 13
    -- parts per million
    ∷ literal million 1000000
    ∷ []

unfoldable pub record_literals : List Literal
record_literals = times ++ (steps ++ sends)
