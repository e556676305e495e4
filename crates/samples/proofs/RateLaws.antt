-- Laws of the limits, the gain and the rate, by which every proof above them goes.
use mathlib.Core.Path.{◌≡◌, refl, sym, ap, ◌∙◌}
use mathlib.Core.Bool.{Bool, true, false, cond}
use Prim.Native.Nat.{ℕ, ◌+◌, ◌*◌, ◌^◌, ◌<◌, ◌≤◌}
use native.Mathlib.Nat.{mul-le-mul_right}
use native.Mathlib.Omega.{arith}
use Rattle.std.proofs.Common.{Option, Some, None}
use borrow.Author.Tests.{le-leb, leb-true}
use lib.Dec.{leb}
use lib.IntN.{ℤ, pos, nat_abs, ◌-ℤ◌, ◌*ℤ◌, *ℤ-zero}
use Rattle.numbers.specs.Whole.{floor_div, Nearest}
use Rattle.times.specs.declared.LocalTime.{LocalTime}
use Rattle.samples.specs.Rate.{shortest_spread, longest_spread, per_gain, parts, Limits, limits_hold, gain_of, rate_of, scaled_of, advance_of, rate_within, steepest, neighbour_rate_of}
use Rattle.samples.specs.declared.Pair.{Pair}
use Rattle.numbers.proofs.Ring.{nat_abs_mul, nat_abs_add}
use Rattle.numbers.proofs.Floor.{floor_near, floor_small}
use Rattle.numbers.proofs.Nearest.{nearest_is, nearest_one, nearest_small}
use Rattle.times.proofs.TestLaws.{three_hold, refuted}

-- ---- the limits, as a fact and as a test

pub limits_true : (d : ℤ) (s : ℕ) → Limits d s → limits_hold d s ≡ true
limits_true d s k = rw (le-leb shortest_spread s k.low, le-leb s longest_spread k.high, le-leb (nat_abs d * per_gain) s k.near)

pub limits_told : (d : ℤ) (s : ℕ) → limits_hold d s ≡ true → Limits d s
limits_told d s e =
    let k = three_hold (leb shortest_spread s) (leb s longest_spread) (leb (nat_abs d * per_gain) s) e in
    record { low = leb-true _ _ k.0; high = leb-true _ _ k.1; near = leb-true _ _ k.2 }

-- ---- the gain, within and outside the limits, and what it tells

pub gain_within : (rise : ℤ) (s : ℕ) → Limits (rise -ℤ pos s) s → Some (rise -ℤ pos s) ≡ gain_of rise s
unfolding gain_of
gain_within rise s k = rw (limits_true (rise -ℤ pos s) s k)

pub gain_outside : (rise : ℤ) (s : ℕ) → (Limits (rise -ℤ pos s) s → ⊥) → None ≡ gain_of rise s
unfolding gain_of
gain_outside rise s f = rw (refuted (limits_hold (rise -ℤ pos s) s) (λ e. f (limits_told (rise -ℤ pos s) s e)))

-- a gain within the limits is the rise less the spread, and the limits hold of it
pub within_gain : (rise : ℤ) (s : ℕ) (d : ℤ) → Some d ≡ gain_of rise s → (d ≡ rise -ℤ pos s) × Limits d s
unfolding gain_of
within_gain rise s d e = go (limits_hold (rise -ℤ pos s) s) refl e
  where
    go : (t : Bool) → limits_hold (rise -ℤ pos s) s ≡ t → Some d ≡ cond t (Some (rise -ℤ pos s)) None → (d ≡ rise -ℤ pos s) × Limits d s
    go true k f = let g : d ≡ rise -ℤ pos s = cc in (g, rw g (limits_told (rise -ℤ pos s) s k))
    go false k f = let z : ◌≡◌ {A = ℕ} 0 1 = cc in absurd (omega arith)

-- a gain outside the limits: they do not hold
pub outside_gain : (rise : ℤ) (s : ℕ) → None ≡ gain_of rise s → Limits (rise -ℤ pos s) s → ⊥
outside_gain rise s e k =
    let f : None ≡ Some (rise -ℤ pos s) = e ∙ sym (gain_within rise s k) in
    let z : ◌≡◌ {A = ℕ} 0 1 = cc in
    omega arith

-- ---- the two roundings, each behind its rule's name: a change of rounding changes these two alone

-- the rate is the nearest whole number to d × 2^35 / S, a half going up, and no other number is
pub rate_near : (d : ℤ) (s : ℕ) → 0 < s → Nearest (d *ℤ pos parts) s (rate_of d s)
unfolding rate_of
rate_near d s h = nearest_is (d *ℤ pos parts) s h

pub rate_one : (d : ℤ) (s : ℕ) → 0 < s → (r : ℤ) → Nearest (d *ℤ pos parts) s r → rate_of d s ≡ r
unfolding rate_of
rate_one d s h = nearest_one (d *ℤ pos parts) s h

-- what a rate makes of a stretch is off by less than one
pub scaled_near : (r u : ℤ) → nat_abs (pos parts *ℤ scaled_of r u -ℤ r *ℤ u) < parts
unfolding scaled_of
scaled_near r u = floor_near (r *ℤ u) parts (omega arith)

-- and of no stretch nothing
pub scaled_none : (r : ℤ) → scaled_of r (pos 0) ≡ pos 0
unfolding scaled_of
scaled_none r = ap (λ (z : ℤ). floor_div z parts) (*ℤ-zero r)

-- ---- sizes

-- no rate within the limits is larger than the steepest
pub rate_small : (d : ℤ) (s : ℕ) → Limits d s → nat_abs (rate_of d s) ≤ steepest
unfolding rate_of
rate_small d s k =
    nearest_small (d *ℤ pos parts) s steepest (omega (arith, k.low)) (rw (nat_abs_mul d (pos parts)) (omega (arith, k.near, k.low)))

-- what a rate makes of a stretch within the longest spread is less than 2^28; the other clock moves on by less than a second
pub scaled_small : (rate u : ℤ) → nat_abs rate ≤ steepest → nat_abs u ≤ longest_spread → nat_abs (scaled_of rate u) < 2 ^ 28
unfolding scaled_of
scaled_small rate u hr hu =
    let h : nat_abs (rate *ℤ u) < 137438961 * parts = rw (nat_abs_mul rate u) (omega (arith, mul-le-mul_right (nat_abs u) hr, hu)) in
    omega (arith, floor_small (rate *ℤ u) parts 137438961 (omega arith) h)

pub advance_small : (rate u : ℤ) → nat_abs rate ≤ steepest → nat_abs u ≤ longest_spread → nat_abs (advance_of rate u) < 2 ^ 39 + 2 ^ 28
advance_small rate u hr hu = omega (arith, nat_abs_add u (scaled_of rate u), scaled_small rate u hr hu)

-- and no rate of a gain, nor a neighbour's
pub within_small : (gain : Option ℤ) (rise : ℤ) (s : ℕ) → gain ≡ gain_of rise s → nat_abs (rate_within gain s) ≤ steepest
within_small (Some d) rise s e = rate_small d s (within_gain rise s d e).1
within_small None rise s e = omega arith

pub neighbour_small : (pair : Option Pair) (local p : LocalTime) → nat_abs (neighbour_rate_of pair local p) ≤ steepest
unfolding neighbour_rate_of
neighbour_small None local p = omega arith
neighbour_small (Some stored) local p = within_small _ _ _ refl
