-- The cable: a round trip over it as it happens, the times that latches keep of it, and how far the delay that the rules work out from them may be off.
use Rattle.std.specs.Prelude.{◌≡◌, ℕ, ◌+◌, ◌-◌, ◌*◌, ◌/◌, ◌%◌, ◌<◌, ◌≤◌, Option, Some, Result, ℤ, pos, nat_abs, ◌-ℤ◌}
use Rattle.refusals.specs.declared.Refusal.{Refusal}
use Rattle.times.specs.Times.{circle, since_of}
use Rattle.times.specs.declared.LocalTime.{LocalTime}
use Rattle.samples.specs.Rate.{parts, Limits, neighbour_rate_of}
use Rattle.samples.specs.declared.Pair.{Pair}
use Rattle.delay.specs.Delay.{link_delay_of}
use Rattle.delay.specs.declared.DelaySetting.TheVariants.{Measured}

-- ---- what happens, in exact times: whole numbers of a fine unit, and for any times that are fractions of U there is one fine enough

-- a cable to a neighbour and the clocks at its ends: so many fine units make a U; while our clock goes on by `ours` the neighbour's goes on by
-- `theirs`; and a frame is under way for `out` to the neighbour and for `back` from it, by our clock
pub record Cable : Type 0 where
  pub fine : ℕ
  pub ours : ℕ
  pub theirs : ℕ
  pub out : ℕ
  pub back : ℕ
  pub divided : 0 < fine
  pub running : (0 < ours) × (0 < theirs)

-- an instant: what our clock and the neighbour's show then, not rounded
pub record Instant : Type 0 where
  pub here : ℕ
  pub there : ℕ

-- a clock goes on from a to b, by less than its circle
pub record Onward (c : Cable) (a b : ℕ) : Type 0 where
  pub after : a ≤ b
  pub within : b ≤ a + (circle - 1) * c.fine

-- from an instant a to b both clocks go on, in the cable's proportion: it is the same for all instants, so that the rate is constant
pub record Later (c : Cable) (a b : Instant) : Type 0 where
  pub here : Onward c a.here b.here
  pub there : Onward c a.there b.there
  pub rate : c.theirs * (b.here - a.here) ≡ c.ours * (b.there - a.there)

-- a round trip: our frame left us, and was heard there; the answer left there, and came in here
pub record RoundTrip (c : Cable) : Type 0 where
  pub left : ℕ
  pub heard : Instant
  pub answered : Instant
  pub outward : heard.here ≡ left + c.out
  pub turned : Later c heard answered
  pub homeward : Onward c left (answered.here + c.back)

-- ---- the times that the rules have of it

-- a latch keeps whole units, rounded down, on the circle of local time
abbrev pub latch_of : Cable → ℕ → LocalTime
latch_of c x = record { 0 = x / c.fine % circle }

-- of a frame that left there at an instant: its localTime, and p, when it came in here; these two are the pair that is stored
abbrev pub local_time_of : Cable → Instant → LocalTime
local_time_of c i = latch_of c i.there

abbrev pub arrival_of : Cable → Instant → LocalTime
arrival_of c i = latch_of c (i.here + c.back)

abbrev pub pair_of : Cable → Instant → Option Pair
pair_of c i = Some (record { there = local_time_of c i; here = arrival_of c i })

-- the spread of localTime, and that of p, from a frame that left there at a to one that left at b
abbrev pub local_spread : Cable → Instant → Instant → ℕ
local_spread c a b = since_of (local_time_of c b) (local_time_of c a)

abbrev pub arrival_spread : Cable → Instant → Instant → ℕ
arrival_spread c a b = since_of (arrival_of c b) (arrival_of c a)

-- from one such frame to the other the limits hold, so that a rate is taken
abbrev pub Rated : Cable → Instant → Instant → Type 0
Rated c a b = Limits (pos (arrival_spread c a b) -ℤ pos (local_spread c a b)) (local_spread c a b)

-- of a round trip
module _ (c : Cable) (r : RoundTrip c) where
  -- thatTxTime, when our frame left us, and thatRxTime, when it was heard there
  abbrev pub that_tx_time_of : LocalTime
  that_tx_time_of = latch_of c r.left

  abbrev pub that_rx_time_of : LocalTime
  that_rx_time_of = latch_of c r.heard.there

  -- a frame can tell of it: the two are not both zero, which says that nothing was heard
  abbrev pub Told : Type 0
  Told = that_tx_time_of.0 ≡ 0 → that_rx_time_of.0 ≡ 0 → ⊥

  -- the round trip and the turn
  abbrev pub trip_of : ℕ
  trip_of = since_of (arrival_of c r.answered) that_tx_time_of

  abbrev pub turn_of : ℕ
  turn_of = since_of (local_time_of c r.answered) that_rx_time_of

  -- the rate, and the link delay, by the rules, with a stored pair
  abbrev pub rate_by : Option Pair → ℤ
  rate_by pair = neighbour_rate_of pair (local_time_of c r.answered) (arrival_of c r.answered)

  abbrev pub delay_by : Option Pair → Result ℕ Refusal
  delay_by pair = link_delay_of Measured (rate_by pair) (local_time_of c r.answered) (arrival_of c r.answered) that_tx_time_of that_rx_time_of

-- ---- how far a delay is off

module _ (c : Cable) (n : ℕ) where
  -- twice what n units are off from the cable's delay, the mean of both directions, in fine units
  abbrev pub twice_off : ℕ
  twice_off = nat_abs (pos (n * 2 * c.fine) -ℤ pos (c.out + c.back))

  -- n units are the cable's delay but for less than b units
  abbrev pub CloserThan : ℕ → Type 0
  CloserThan b = twice_off < b * 2 * c.fine

-- The shares of twice that, at a spread s of the pair and a turn t. They are fractions of a unit: each is said times `whole`, theirs × s × 2^36
module _ (c : Cable) (s t : ℕ) where
  abbrev pub whole : ℕ
  whole = c.theirs * s * (parts * 2)

  -- the latches' rounding: ours / theirs + 1
  abbrev pub latch_share : ℕ
  latch_share = (c.ours + c.theirs) * s * (parts * 2)

  -- what whole units leave open in the rate: (ours / theirs + 1) × (t - s) / s, and nothing where the turn is no longer than the spread
  abbrev pub open_share : ℕ
  open_share = (c.ours + c.theirs) * (t - s) * (parts * 2)

  -- the rate's rounding, half a part, over the turn: t / 2^36
  abbrev pub rounding_share : ℕ
  rounding_share = c.theirs * s * t

  -- the floors of the scaled turn and of the half, which lead to opposite sides: 1
  abbrev pub floor_share : ℕ
  floor_share = whole

  -- n units are the cable's delay, but for less than half of the shares' sum
  abbrev pub NearCable : ℕ → Type 0
  NearCable n = twice_off c n * whole < (latch_share + open_share + rounding_share + floor_share) * c.fine

-- Where the rate is 0, the shares times theirs: the latches', as before; the whole rate over the turn, |ours / theirs - 1| × t; and 1 for the half's floor
abbrev pub unrated_share : Cable → ℕ → ℕ
unrated_share c t = nat_abs (pos c.ours -ℤ pos c.theirs) * t

abbrev pub NearUnrated : Cable → ℕ → ℕ → Type 0
NearUnrated c t n = twice_off c n * c.theirs < (c.ours + c.theirs + unrated_share c t + c.theirs) * c.fine
