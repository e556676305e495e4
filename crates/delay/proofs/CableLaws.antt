-- The delay is the cable's: what the rules work out from the latched times of a round trip is off from the cable's delay by less than named shares.
use mathlib.Core.Path.{◌≡◌, refl, sym, ap, ◌∙◌, subst}
use Prim.Native.Nat.{ℕ, suc, ◌+◌, ◌-◌, ◌*◌, ◌/◌, ◌%◌, ◌<◌, ◌≤◌}
use native.Mathlib.Nat.{div-add-mod, mod-lt, mod-mod, mod-eq_of_lt, add-mod, lt_of_mul-lt-mul_left, lt_of_le_of_lt, mul-le-mul_right}
use native.Mathlib.Omega.{arith}
use lib.IntN.{ℤ, pos, nat_abs, ◌+ℤ◌, ◌-ℤ◌, ◌*ℤ◌}
use Rattle.std.proofs.Common.{Option, Some, None, Ok}
use Rattle.numbers.specs.Whole.{floor_div}
use Rattle.times.specs.Times.{circle, around_of, since_of}
use Rattle.times.specs.declared.LocalTime.{LocalTime}
use Rattle.samples.specs.Rate.{per_gain, parts, Limits, rate_of, scaled_of, rate_within, neighbour_rate_of}
use Rattle.samples.specs.declared.Pair.{Pair}
use Rattle.delay.specs.Delay.{longest_trip, delay_of}
use Rattle.delay.specs.Cable.{Cable, Instant, Onward, Later, RoundTrip, latch_of, local_time_of, arrival_of, pair_of, local_spread, arrival_spread, Rated, that_tx_time_of, that_rx_time_of, Told, trip_of, turn_of, rate_by, delay_by, NearCable, NearUnrated}
use Rattle.delay.specs.declared.DelaySetting.TheVariants.{Measured}
use Rattle.numbers.proofs.Floor.{floor_near}
use Rattle.samples.proofs.RateLaws.{gain_within, gain_outside, rate_near}
use Rattle.delay.proofs.DelayLaws.{measured_tells, delay_heard}
use Rattle.delay.proofs.Shares.{Stretch, stretch_balance, floors_off, no_farther, shares_off, unrated_off, clocks_near}

-- ---- latched times

-- round the circle, the way from y to what lies n further
pub around_on : (y n : ℕ) → around_of ((n + y) % circle) (y % circle) circle ≡ n % circle
around_on y n =
    rw (mod-mod (n + y) circle, mod-mod y circle, add-mod n y circle) (step (n % circle) (y % circle) (mod-lt n (omega arith)) (mod-lt y (omega arith)))
  where
    step : (x r : ℕ) → x < circle → r < circle → ((x + r) % circle + circle - r) % circle ≡ x
    step x r h k = omega arith

-- the difference of two latched times, across the wrap too, is what passed, but for what the latches leave
module _ (c : Cable) (a b : ℕ) (on : Onward c a b) where
  abbrev k : ℕ
  k = c.fine

  since_rests : k * since_of (latch_of c b) (latch_of c a) + b % k ≡ b - a + a % k
  unfolding since_of
  since_rests =
      let low : a / k < suc (b / k) = lt_of_mul-lt-mul_left k (omega (arith, div-add-mod a k, div-add-mod b k, mod-lt b c.divided, on.after)) in
      let high : b / k < a / k + circle = lt_of_mul-lt-mul_left k (omega (arith, div-add-mod a k, div-add-mod b k, mod-lt a c.divided, on.within)) in
      let units : b / k ≡ b / k - a / k + a / k = omega arith in
      let short : b / k - a / k < circle = omega arith in
      rw (units, around_on (a / k) (b / k - a / k), mod-eq_of_lt short)
      (rests (b / k - a / k) (a / k) (div-add-mod a k) (ap (λ (x : ℕ). k * x + b % k) (sym units) ∙ div-add-mod b k))
    where
      rests : (n y : ℕ) → k * y + a % k ≡ a → k * (n + y) + b % k ≡ b → k * n + b % k ≡ b - a + a % k
      rests n y e f = omega (arith, e, f, on.after)

-- from an instant i to j, as the two clocks read it: the neighbour's at i and at j, ours at x and at y, between which d more passes than from i to j
abbrev Read : Cable → Instant → Instant → ℕ → ℕ → ℕ → Type 0
Read c i j d x y =
    Stretch c.theirs c.ours c.fine d (since_of (latch_of c y) (latch_of c x)) (local_spread c i j)
    (x % c.fine) (y % c.fine) (i.there % c.fine) (j.there % c.fine)

stretch_read : (c : Cable) (i j : Instant) → Later c i j → (d x y : ℕ) → Onward c x y → y - x ≡ j.here - i.here + d → Read c i j d x y
stretch_read c i j later d x y on passed = record {
  ours0 = mod-lt x c.divided;
  ours1 = mod-lt y c.divided;
  theirs0 = mod-lt i.there c.divided;
  theirs1 = mod-lt j.there c.divided;
  balance = stretch_balance c.theirs c.ours c.fine _ _ d (since_of (latch_of c y) (latch_of c x)) (local_spread c i j) _ _ _ _ later.rate
      (since_rests c x y on ∙ ap (λ (z : ℕ). z + x % c.fine) passed)
      (since_rests c i.there j.there later.there);
}

-- ---- the rule

-- the neighbour's rate: by the nearest whole number where the limits hold; 0 where they do not, and where there is no pair
module _ (local0 p0 local p : LocalTime) where
  abbrev s : ℕ
  s = since_of local local0

  abbrev d : ℤ
  d = pos (since_of p p0) -ℤ pos s

  rate_taken : Limits d s → neighbour_rate_of (Some (record { there = local0; here = p0 })) local p ≡ rate_of d s
  unfolding neighbour_rate_of
  rate_taken limits = ap (λ (g : Option ℤ). rate_within g s) (sym (gain_within (pos (since_of p p0)) s limits))

  pub rate_outside : (Limits d s → ⊥) → neighbour_rate_of (Some (record { there = local0; here = p0 })) local p ≡ pos 0
  unfolding neighbour_rate_of
  rate_outside outside = ap (λ (g : Option ℤ). rate_within g s) (sym (gain_outside (pos (since_of p p0)) s outside))

pub rate_unset : (local p : LocalTime) → neighbour_rate_of None local p ≡ pos 0
unfolding neighbour_rate_of
rate_unset local p = refl

-- the rule's delay over the stretch of a round trip: with the rate of a pair, and with a rate of 0
module _ (m n k b trip t p0 p1 q0 q1 : ℕ) (run : (0 < n) × (0 < m)) (round : Stretch m n k b trip t p0 p1 q0 q1) where
  rated_near : (gone s p2 q2 : ℕ) → 0 < s → Stretch m n k 0 gone s p2 p1 q2 q1
      → nat_abs (pos (delay_of (rate_of (pos gone -ℤ pos s) s) trip t * 2 * k) -ℤ pos b) * (m * s * (parts * 2))
      < ((n + m) * s * (parts * 2) + (n + m) * (t - s) * (parts * 2) + m * s * t + m * s * (parts * 2)) * k
  unfolding delay_of scaled_of
  rated_near gone s p2 q2 some pair =
      let rate = rate_of (pos gone -ℤ pos s) s in
      let q = floor_div (rate *ℤ pos t) parts in
      let w = pos trip -ℤ (pos t +ℤ q) in
      lt_of_le_of_lt (mul-le-mul_right (m * s * (parts * 2)) (no_farther k b (floor_div w 2)))
      (shares_off m n k b trip t p0 p1 q0 q1 run round (pos 2 *ℤ floor_div w 2) gone s p2 q2 some pair parts rate q (omega arith)
      (floors_off w (rate *ℤ pos t) parts (omega arith)) (rate_near (pos gone -ℤ pos s) s some).near)

  zero_near : nat_abs (pos (delay_of (pos 0) trip t * 2 * k) -ℤ pos b) * m < (n + m + nat_abs (pos n -ℤ pos m) * t + m) * k
  unfolding delay_of scaled_of
  zero_near =
      let w = pos trip -ℤ (pos t +ℤ floor_div (pos 0 *ℤ pos t) parts) in
      let unscaled : t + 0 * t / parts ≡ t = omega arith in
      let floor : nat_abs (pos 2 *ℤ floor_div w 2 -ℤ w) ≤ 1 = omega (arith, floor_near w 2 (omega arith)) in
      lt_of_le_of_lt (mul-le-mul_right m (no_farther k b (floor_div w 2)))
      (unrated_off m n k b trip t p0 p1 q0 q1 run round (pos 2 *ℤ floor_div w 2)
      (subst (λ (x : ℕ). nat_abs (pos 2 *ℤ floor_div w 2 -ℤ (pos trip -ℤ pos x)) ≤ 1) unscaled floor))

-- ---- the theorem

module _ (c : Cable) (r : RoundTrip c) where
  abbrev arrived : ℕ
  arrived = r.answered.here + c.back

  -- the cable both ways is what the round trip has beyond the turn
  trip_read : Read c r.heard r.answered (c.out + c.back) r.left arrived
  trip_read = stretch_read c r.heard r.answered r.turned (c.out + c.back) r.left arrived r.homeward (omega (arith, r.outward, r.turned.here.after))

  -- what a delay that is given tells, whatever the pair
  pub given : (n : ℕ) (pair : Option Pair) → Told c r → Ok n ≡ delay_by c r pair
      → (n ≡ delay_of (rate_by c r pair) (trip_of c r) (turn_of c r)) × (turn_of c r ≤ longest_trip)
  given n pair told e =
      let heard = delay_heard Measured (rate_by c r pair) (local_time_of c r.answered) (arrival_of c r.answered) (that_tx_time_of c r) (that_rx_time_of c r) refl told in
      let k = measured_tells (rate_by c r pair) (trip_of c r) (turn_of c r) n (e ∙ sym heard) in
      (k.0, k.1)

  -- where the rate is 0, as it is with no stored pair and where the limits do not hold
  pub unrated_delay : (pair : Option Pair) → rate_by c r pair ≡ pos 0 → Told c r → (n : ℕ) → Ok n ≡ delay_by c r pair → NearUnrated c (turn_of c r) n
  unrated_delay pair zero told n is =
      rw ((given n pair told is).0, zero)
      (zero_near c.theirs c.ours c.fine (c.out + c.back) (trip_of c r) (turn_of c r) _ _ _ _ c.running trip_read)

  -- with the stored pair of a frame that left there at e, over the same cable
  module _ (e : Instant) (later : Later c e r.answered) (rated : Rated c e r.answered) where
    abbrev gone : ℕ
    gone = arrival_spread c e r.answered

    abbrev spread : ℕ
    spread = local_spread c e r.answered

    pair_read : Read c e r.answered 0 (e.here + c.back) arrived
    pair_read =
        stretch_read c e r.answered later 0 (e.here + c.back) arrived (record { after = omega (arith, later.here.after); within = omega (arith, later.here.within) })
        (omega arith)

    -- the delay of the rules is the cable's
    pub rule_near : NearCable c spread (turn_of c r) (delay_of (rate_by c r (pair_of c e)) (trip_of c r) (turn_of c r))
    rule_near =
        rw (rate_taken (local_time_of c e) (arrival_of c e) (local_time_of c r.answered) (arrival_of c r.answered) rated)
        (rated_near c.theirs c.ours c.fine (c.out + c.back) (trip_of c r) (turn_of c r) _ _ _ _ c.running trip_read gone spread _ _ (omega (arith, rated.low)) pair_read)

    -- and so is every delay that is given
    pub cable_delay : Told c r → (n : ℕ) → Ok n ≡ delay_by c r (pair_of c e) → NearCable c spread (turn_of c r) n
    cable_delay told n is = subst (NearCable c spread (turn_of c r)) (sym (given n (pair_of c e) told is).0) rule_near

    -- the limits hold of the latched times, and keep the clocks themselves near
    pub ours_near : c.ours * (per_gain - 1) < c.theirs * per_gain
    ours_near = clocks_near c.theirs c.ours c.fine gone spread _ _ _ _ c.running.1 pair_read rated
