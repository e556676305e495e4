-- The delay against the cable in whole units: less than 2 U off at a usual turn, 6 U at one no longer than the spread, 517 U at any; against each direction by itself; and what that makes of a sample.
use mathlib.Core.Path.{◌≡◌, refl, sym, ap, ◌∙◌, subst}
use Prim.Native.Nat.{ℕ, ◌+◌, ◌-◌, ◌*◌, ◌/◌, ◌%◌, ◌^◌, ◌<◌, ◌≤◌}
use native.Mathlib.Nat.{mul-le-mul_right, lt_of_mul-lt-mul_right, add-mul-div_right}
use native.Mathlib.Omega.{arith}
use lib.Dec.{lit≤}
use lib.IntN.{pos, nat_abs, sub_ℕ, ◌-ℤ◌}
use Rattle.std.proofs.Common.{Ok}
use Rattle.times.specs.Times.{circle, around_of, since_of, earlier_by}
use Rattle.samples.specs.Rate.{shortest_spread, per_gain, parts}
use Rattle.delay.specs.Delay.{longest_trip, longest_delay, delay_of}
use Rattle.delay.specs.Cable.{Cable, Instant, Later, RoundTrip, latch_of, local_time_of, arrival_of, pair_of, local_spread, Rated, that_tx_time_of, that_rx_time_of, Told, trip_of, turn_of, rate_by, delay_by, twice_off, CloserThan}
use Rattle.delay.specs.declared.DelaySetting.TheVariants.{Measured}
use Rattle.numbers.proofs.Ring.{same, minus_is, sub_neg_is, sub_lt, sub_ge2, nat_abs_neg}
use Rattle.delay.proofs.DelayLaws.{measured_is, delay_heard}
use Rattle.delay.proofs.Shares.{shares_within, mean_near}
use Rattle.delay.proofs.CableLaws.{around_on, given, rule_near, ours_near}

-- no delay is off by as many units as this, whatever the turn
abbrev pub farthest : ℕ
farthest = 517

-- a usual turn is at most this: 31 ms
abbrev pub usual_turn_of : ℕ
usual_turn_of = 2 ^ 35

module _ (c : Cable) (r : RoundTrip c) (e : Instant) (later : Later c e r.answered) (rated : Rated c e r.answered) where
  abbrev spread : ℕ
  spread = local_spread c e r.answered

  abbrev turn : ℕ
  turn = turn_of c r

  -- the rule's delay, whether it is given or refused
  abbrev ruled : ℕ
  ruled = delay_of (rate_by c r (pair_of c e)) (trip_of c r) turn

  -- from the shares to whole units
  closer : (longest times b : ℕ) → turn ≤ longest → turn - spread ≤ times * spread
      → (per_gain * 2 - 1) * (1 + times) * (parts * 2) + (per_gain - 1) * longest + (per_gain - 1) * (parts * 2) ≤ (per_gain - 1) * (b * 2) * (parts * 2) → CloserThan c ruled b
  closer longest times b short beyond enough =
      lt_of_mul-lt-mul_right (c.theirs * spread * (parts * 2))
      (omega (
        arith,
        rule_near c r e later rated,
        mul-le-mul_right c.fine (shares_within c.theirs c.ours spread turn (turn - spread) longest times (b * 2) (ours_near c r e later rated) short beyond enough),
      ))

  -- the longest turn is so many times the shortest spread
  rule_any : turn ≤ longest_trip → CloserThan c ruled farthest
  rule_any short = closer longest_trip (longest_trip / shortest_spread - 1) farthest short (omega (arith, rated.low)) (lit≤ tt)

  -- a cable that is 517 U shorter than the longest delay is measured, and not refused
  pub cable_measured : Told c r → trip_of c r ≤ longest_trip → turn ≤ longest_trip → c.out + c.back ≤ (longest_delay - farthest) * 2 * c.fine
      → Ok ruled ≡ delay_by c r (pair_of c e)
  cable_measured told trip short cable =
      measured_is (rate_by c r (pair_of c e)) (trip_of c r) turn trip short small
      ∙ delay_heard Measured (rate_by c r (pair_of c e)) (local_time_of c r.answered) (arrival_of c r.answered) (that_tx_time_of c r) (that_rx_time_of c r) refl told
    where
      small : ruled ≤ longest_delay
      small =
          let less : ruled * (2 * c.fine) < longest_delay * (2 * c.fine) =
          omega (arith, rule_any short, cable, ap nat_abs (minus_is (ruled * 2 * c.fine) (c.out + c.back)), sub_ge2 (ruled * 2 * c.fine) (c.out + c.back)) in
          omega (arith, lt_of_mul-lt-mul_right (2 * c.fine) less)

  -- a delay that is given is less than 517 U off; less than 6 U where the turn is no longer than the spread, and less than 2 U where it is a usual one besides
  module _ (told : Told c r) (n : ℕ) (is : Ok n ≡ delay_by c r (pair_of c e)) where
    by : (b : ℕ) → CloserThan c ruled b → CloserThan c n b
    by b = subst (λ (x : ℕ). CloserThan c x b) (sym (given c r n (pair_of c e) told is).0)

    short : turn ≤ longest_trip
    short = (given c r n (pair_of c e) told is).1

    pub any_turn : CloserThan c n farthest
    any_turn = by farthest (rule_any short)

    pub turn_in_spread : turn ≤ spread → CloserThan c n 6
    turn_in_spread h = by 6 (closer longest_trip 0 6 short (omega arith) (lit≤ tt))

    pub usual-turn : turn ≤ spread → turn ≤ usual_turn_of → CloserThan c n 2
    usual-turn h k = by 2 (closer usual_turn_of 0 2 k (omega arith) (lit≤ tt))

-- ---- each direction by itself

module _ (c : Cable) (n : ℕ) where
  way_near : (o b : ℕ) → o + b ≡ c.out + c.back → nat_abs (pos (n * c.fine) -ℤ pos o) * 2 ≤ twice_off c n + nat_abs (pos o -ℤ pos b)
  way_near o b sum = rw (← sum, ← doubled) (mean_near (n * c.fine) o b)
    where
      doubled : n * c.fine * 2 ≡ n * 2 * c.fine
      doubled = omega arith

  -- where out and back differ by a, a delay is off from each of them by at most a / 2 more than from their mean
  pub out_near : nat_abs (pos (n * c.fine) -ℤ pos c.out) * 2 ≤ twice_off c n + nat_abs (pos c.out -ℤ pos c.back)
  out_near = way_near c.out c.back refl

  pub back_near : nat_abs (pos (n * c.fine) -ℤ pos c.back) * 2 ≤ twice_off c n + nat_abs (pos c.back -ℤ pos c.out)
  back_near = way_near c.back c.out (omega arith)

  -- and where they are one, it is off from that by no more
  pub alike_near : (b : ℕ) → c.out ≡ c.back → CloserThan c n b → nat_abs (pos (n * c.fine) -ℤ pos c.out) < b * c.fine
  alike_near b alike near =
      omega (arith, out_near, near, ap nat_abs (minus_is c.out c.back), sub_lt c.out c.back 1 (omega arith) (omega arith))

-- ---- what the delay is for: a sample's local time, p less the delay

module _ (c : Cable) (i : Instant) (n : ℕ) (before : n * c.fine ≤ i.here + c.back) (short : n ≤ longest_delay) where
  -- a moment by our clock
  abbrev pub sampled : ℕ
  sampled = i.here + c.back - n * c.fine

  -- the sample's local time is what a latch here would have kept of it
  pub sample_latched : earlier_by (arrival_of c i) n ≡ latch_of c sampled
  unfolding since_of
  sample_latched = λ i. record { 0 = around i }
    where
      units : (i.here + c.back) / c.fine ≡ sampled / c.fine + n
      units = ap (λ (x : ℕ). x / c.fine) (omega (arith, before)) ∙ add-mul-div_right sampled n c.divided

      on_circle : n ≡ n % circle
      on_circle = omega arith

      around : around_of ((i.here + c.back) / c.fine % circle) n circle ≡ sampled / c.fine % circle
      around =
          ap (λ (x : ℕ). around_of (x % circle) n circle) units ∙ ap (λ (x : ℕ). around_of ((sampled / c.fine + n) % circle) x circle) on_circle
          ∙ around_on n (sampled / c.fine)

  -- which is when the frame left there, but for what the delay is off from the way back
  pub sample_near : nat_abs (pos sampled -ℤ pos i.here) * 2 ≤ twice_off c n + nat_abs (pos c.back -ℤ pos c.out)
  sample_near = rw as_back (back_near c n)
    where
      as_back : nat_abs (pos sampled -ℤ pos i.here) ≡ nat_abs (pos (n * c.fine) -ℤ pos c.back)
      as_back =
          ap nat_abs (minus_is sampled i.here ∙ same sampled i.here c.back (n * c.fine) (omega (arith, before)) ∙ sym (sub_neg_is (n * c.fine) c.back))
          ∙ nat_abs_neg (sub_ℕ (n * c.fine) c.back) ∙ ap nat_abs (sym (minus_is (n * c.fine) c.back))
