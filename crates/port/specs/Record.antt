-- The records: empty, aged, and with a frameCount used up.
use Rattle.std.specs.Prelude.{ℕ, Bool, false, cond, leb, Option, Some, None}
use Rattle.times.specs.Times.{since_of, next_count}
use Rattle.times.specs.declared.LocalTime.{LocalTime}
use Rattle.samples.specs.declared.Samples.TheVariants.{Empty}
use Rattle.choice.specs.declared.Announcement.{Announcement}
use Rattle.port.specs.declared.Preceding.TheVariants.{Never}
use Rattle.port.specs.declared.Port.{Port}
use Rattle.port.specs.declared.OwnClock.{OwnClock}

-- nothing is stored at first
abbrev pub empty_port : Port
empty_port = record { preceding = Never; announcement = None; samples = Empty; pair = None; echo = None; count = 0 }

abbrev pub empty_clock : OwnClock
empty_clock = record { preceding = Never; samples = Empty }

-- without announcement, samples and echo
abbrev pub silenced : Port → Port
silenced port = record port { announcement = None; samples = Empty; echo = None }

-- an announcement heard a timeout ago or longer is too old
abbrev pub too_old : Option Announcement → LocalTime → ℕ → Bool
too_old None at timeout = false
too_old (Some held) at timeout = leb timeout (since_of at held.heard_at)

-- Age on one port: with an announcement that is too old go samples and echo
unfoldable pub aged_port : LocalTime → ℕ → Port → Port
aged_port at timeout port = cond (too_old port.announcement at timeout) (silenced port) port

-- with another next frameCount
abbrev pub with_count : Port → ℕ → Port
with_count port count = record port { count = count }

-- Send on one port: its next frameCount is used up
abbrev pub used_port : Port → Port
used_port port = with_count port (next_count port.count)
