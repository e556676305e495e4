-- Times: the circle of local time, grand time as one number, errorTime as a signed number, the count of frames.
use Rattle.std.specs.Prelude.{Bool, ℕ, ◌+◌, ◌-◌, ◌*◌, ◌/◌, ◌%◌, ◌^◌, ◌<◌, cond, ◌&&◌, ℤ, pos, negsuc, nat_le, nat_lt, ltb, Option, Some, None}
use Rattle.std.specs.Int.Signed.{mag}
use Rattle.std.specs.Int.{w32}
use Rattle.std.proofs.Common.{to_z, of_z}
use Rattle.times.specs.declared.LocalTime.{LocalTime}
use Rattle.times.specs.declared.GrandTime.{GrandTime}
use Rattle.times.specs.declared.ErrorTime.{ErrorTime}

-- the units of local time's circle
abbrev pub circle : ℕ
circle = 2 ^ 48

-- the units of a second
abbrev pub second : ℕ
second = 2 ^ 40

-- where grand time ends: 40 bits of seconds and 40 bits of fraction
abbrev pub grand_end : ℕ
grand_end = 2 ^ 80

-- a local time is on its circle
abbrev pub is_on_circle : LocalTime → Bool
is_on_circle t = ltb t.0 circle

-- a - b, modulo n: the way from b to a round a circle of n
abbrev pub around_of : ℕ → ℕ → ℕ → ℕ
around_of a b n = (a % n + n - b % n) % n

-- a - b, modulo 2^48
unfoldable pub since_of : LocalTime → LocalTime → ℕ
since_of a b = around_of a.0 b.0 circle

-- the local time that lies n before t
abbrev pub earlier_by : LocalTime → ℕ → LocalTime
earlier_by t n = record { 0 = since_of t (record { 0 = n }) }

-- grand time as one number
abbrev pub units : GrandTime → ℕ
units g = g.0 * second + g.1

-- the grand time of a number of units
abbrev pub grand_of : ℕ → GrandTime
grand_of n = record { 0 = n / second; 1 = n % second }

-- seconds and fraction have 40 bits each
pub record InRange (g : GrandTime) : Type 0 where
  pub seconds : g.0 < second
  pub fraction : g.1 < second

-- and whether they do
abbrev pub is_in_range : GrandTime → Bool
is_in_range g = ltb g.0 second && ltb g.1 second

-- the grand time of a whole number of units, where there is one: no less than 0, and below the end of grand time
unfoldable pub moment_of : ℤ → Option GrandTime
moment_of (pos n) = cond (nat_lt n grand_end) (Some (grand_of n)) None
moment_of (negsuc n) = None

-- a rise from a to b that is no less than 0 and below a second
unfoldable pub rise_within : ℕ → ℕ → Option ℕ
rise_within a b = cond (nat_le a b && nat_lt (b - a) second) (Some (b - a)) None

-- errorTime as a signed number
abbrev pub error_of : ErrorTime → ℤ
error_of e = to_z w32 e.0

-- where errorTime ends: 32 bits, one of them for the sign
abbrev pub error_end : ℕ
error_end = 2 ^ 31

-- the errorTime of a whole number of units, where there is one: from -2^31 to 2^31 - 1
unfoldable pub error_time_of : ℤ → Option ErrorTime
error_time_of z = cond (nat_lt (mag z) error_end) (Some (record { 0 = of_z w32 z })) None

-- how many frameCounts there are, and the one that follows: the theorem `count_is` says that this is c - 255, modulo 256
abbrev pub counts : ℕ
counts = 256

abbrev pub next_count : ℕ → ℕ
next_count c = (c + 1) % counts
