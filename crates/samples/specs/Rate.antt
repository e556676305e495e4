-- Step 1, the rate of one clock against another, and what a rate makes of a stretch of time.
use Rattle.std.specs.Prelude.{Bool, cond, ◌&&◌, ℕ, ◌*◌, ◌^◌, ◌≤◌, leb, Option, Some, None, ℤ, pos, nat_abs, ◌+ℤ◌, ◌-ℤ◌, ◌*ℤ◌}
use Rattle.numbers.specs.Whole.{floor_div, nearest_div}
use Rattle.times.specs.Times.{since_of}
use Rattle.times.specs.declared.LocalTime.{LocalTime}
use Rattle.samples.specs.declared.Pair.{Pair}

-- the shortest and the longest spread over which a rate is taken, and the least spread for one unit of gain
abbrev pub shortest_spread : ℕ
shortest_spread = 2 ^ 30

abbrev pub longest_spread : ℕ
longest_spread = 2 ^ 39

abbrev pub per_gain : ℕ
per_gain = 4000

-- a rate counts in parts of 2^35
abbrev pub parts : ℕ
parts = 2 ^ 35

-- the limits on a gain d over a spread S: as a fact, and as the test that decides it
pub record Limits (d : ℤ) (s : ℕ) : Type 0 where
  pub low : shortest_spread ≤ s
  pub high : s ≤ longest_spread
  pub near : nat_abs d * per_gain ≤ s

abbrev pub limits_hold : ℤ → ℕ → Bool
limits_hold d s = leb shortest_spread s && leb s longest_spread && leb (nat_abs d * per_gain) s

-- d, the rise of the other clock less the spread S of this one, where the limits hold
unfoldable pub gain_of : ℤ → ℕ → Option ℤ
gain_of rise s = cond (limits_hold (rise -ℤ pos s) s) (Some (rise -ℤ pos s)) None

-- the nearest whole number to d × 2^35 / S, a half going up
unfoldable pub rate_of : ℤ → ℕ → ℤ
rate_of d s = nearest_div (d *ℤ pos parts) s

-- floor(rate × u / 2^35)
unfoldable pub scaled_of : ℤ → ℤ → ℤ
scaled_of rate u = floor_div (rate *ℤ u) parts

-- how far the other clock moves on over a stretch u of this one: u + floor(rate × u / 2^35)
abbrev pub advance_of : ℤ → ℤ → ℤ
advance_of rate u = u +ℤ scaled_of rate u

-- the rate of a gain over a spread S, and 0 where the limits do not hold
abbrev pub rate_within : Option ℤ → ℕ → ℤ
rate_within (Some d) s = rate_of d s
rate_within None s = pos 0

-- no rate within the limits is larger than this in size
abbrev pub steepest : ℕ
steepest = 8589935

-- the neighbour's rate from the stored pair to the new one: its localTime there, and the arrival p here
unfoldable pub neighbour_rate_of : Option Pair → LocalTime → LocalTime → ℤ
neighbour_rate_of None local p = pos 0
neighbour_rate_of (Some pair) local p = rate_within (gain_of (pos (since_of p pair.here)) (since_of local pair.there)) (since_of local pair.there)
