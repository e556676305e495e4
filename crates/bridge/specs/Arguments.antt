-- The refusals that are found before any record is looked at.
use Rattle.std.specs.Prelude.{Bool, ℕ, ◌-◌, ◌/◌, ◌%◌, ◌^◌, ltb, leb, eqb, Result, ⊤}
use Rattle.refusals.specs.Answer.{granted, require}
use Rattle.refusals.specs.declared.Refusal.{Refusal}
use Rattle.refusals.specs.declared.Refusal.TheVariants.{OutOfRange, NoLink, WrongLength, NoClock}
use Rattle.times.specs.Times.{circle, second}
use Rattle.frame.specs.Frame.{frame_length}

-- bit i of a byte
abbrev pub bit : ℕ → ℕ → ℕ
bit m i = m / 2 ^ i % 2

-- bit 0 is for port 1
abbrev pub has_link : ℕ → ℕ → Bool
has_link links port = eqb (bit links (port - 1)) 1

-- 2 for a port or a local time out of range, 3 for a port with no link, or the rest
abbrev pub on_port_of : ℕ → ℕ → ℕ → ℕ → Result ⊤ Refusal → Result ⊤ Refusal
on_port_of n links port at rest =
    require (leb 1 port) OutOfRange
    (require (leb port n) OutOfRange
    (require (ltb at circle) OutOfRange
    (require (has_link links port) NoLink rest)))

-- a call on a port at a local time
unfoldable pub port_refusal : ℕ → ℕ → ℕ → ℕ → Result ⊤ Refusal
port_refusal n links port at = on_port_of n links port at granted

-- a send: the same, and 4 for an output that is too short
unfoldable pub send_refusal : ℕ → ℕ → ℕ → ℕ → ℕ → Result ⊤ Refusal
send_refusal n links port t room = on_port_of n links port t (require (leb frame_length room) WrongLength granted)

-- own clock: 2 for a time out of range, and 10 on a station that is not capable
unfoldable pub own_clock_refusal : Bool → ℕ → ℕ → ℕ → Result ⊤ Refusal
own_clock_refusal capable seconds fraction at =
    require (ltb seconds second) OutOfRange
    (require (ltb fraction second) OutOfRange
    (require (ltb at circle) OutOfRange
    (require capable NoClock granted)))

-- a mask with a bit beyond n ports
unfoldable pub mask_beyond : ℕ → ℕ → Bool
mask_beyond n mask = leb (2 ^ n) mask
