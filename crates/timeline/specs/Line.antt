-- The line through the oldest and the newest kept sample: as it is read, and the exact one that demand 3 speaks of.
use Rattle.std.specs.Prelude.{ℕ, ◌*◌, ◌^◌, ◌<◌, ◌≤◌, ℤ, pos, nat_abs, ◌+ℤ◌, ◌-ℤ◌, ◌*ℤ◌}
use Rattle.times.specs.Times.{units}
use Rattle.samples.specs.Rate.{advance_of}
use Rattle.samples.specs.Keep.{spread_of, rise_of, rate_between, LawfulEnds}
use Rattle.samples.specs.declared.Sample.{Sample}

-- the line is read at most this far from the newest sample, before or after it
abbrev pub longest_reach : ℕ
longest_reach = 2 ^ 39

-- a distance x from the newest sample at which it is read, and what is added to the reading: each is within that, and where both lead
pub record InReach (x : ℤ) (more : ℕ) : Type 0 where
  pub read : nat_abs x ≤ longest_reach
  pub added : more ≤ longest_reach
  pub reached : nat_abs (x +ℤ pos more) ≤ longest_reach

-- the grand time that is read x units of local time after the newest sample, at a rate: g1 + x + floor(rate × x / 2^35)
abbrev pub reading_by : ℤ → Sample → ℤ → ℤ
reading_by rate b x = pos (units b.grand) +ℤ advance_of rate x

-- the same off the line through the oldest and the newest sample: at the rate between them
unfoldable pub reading_at : Sample → Sample → ℤ → ℤ
reading_at a b x = reading_by (rate_between a b) b x

-- a reading lies less than this many units from the exact line
abbrev pub bound : ℕ
bound = 9

-- a sent grand time with the rest in errorTime lies less than this many units from the line at the departure itself: one rounding more
abbrev pub departure_bound : ℕ
departure_bound = 10

-- S times the exact line's grand time, x units of local time after the newest sample: S × (g1 + (g1 - g0) / S × x)
abbrev pub line_at : Sample → Sample → ℤ → ℤ
line_at a b x = pos (spread_of a b) *ℤ pos (units b.grand) +ℤ rise_of a b *ℤ x

-- every reading within reach lies less than k units from the exact line: both sides times S. `bound` is the least such k
abbrev pub ReadingsWithin : ℕ → Type 0
ReadingsWithin k =
    (a b : Sample) (x : ℤ) → LawfulEnds a b → nat_abs x ≤ longest_reach → nat_abs (pos (spread_of a b) *ℤ reading_at a b x -ℤ line_at a b x) < k * spread_of a b

-- a grand time z lies less than k units from the line read at x, plus back: both sides times S
abbrev pub NearLine : ℕ → Sample → Sample → ℤ → ℤ → ℕ → Type 0
NearLine k a b z x back =
    nat_abs (pos (spread_of a b) *ℤ z -ℤ (line_at a b x +ℤ pos (spread_of a b) *ℤ pos back)) < k * spread_of a b

-- how far the grand time of a' is off from that of a
abbrev pub off_of : Sample → Sample → ℤ
off_of a a' = pos (units a'.grand) -ℤ pos (units a.grand)
