-- Which samples stay beside a new one, and what the test against the oldest that stays can tell. The limits hold from it, however the clock bends, unless the
-- spread is too long; so up to half a second three samples stand, and where frames lie more than a quarter of a second apart, one of any two samples in a row stands alone.
use mathlib.Core.Path.{◌≡◌, refl, ap, subst, ◌∙◌}
use mathlib.Core.Bool.{true}
use mathlib.Core.Logic.{◌⊎◌, inl, inr, ⊎_elim}
use Prim.Native.Nat.{ℕ, ◌+◌, ◌*◌, ◌^◌, ◌<◌, ◌≤◌}
use native.Mathlib.Omega.{arith}
use lib.IntN.{ℤ, pos, nat_abs, ◌+ℤ◌, ◌-ℤ◌}
use Rattle.std.proofs.Common.{None}
use Rattle.times.specs.Times.{circle, units}
use Rattle.samples.specs.Rate.{shortest_spread, longest_spread, per_gain}
use Rattle.samples.specs.Keep.{spread_of, rise_of, gained_of, beside_two, kept_of, ends_of}
use Rattle.samples.specs.Demands.{Alone, Farther}
use Rattle.samples.specs.declared.Sample.{Sample}
use Rattle.samples.specs.declared.Samples.{Samples}
use Rattle.samples.specs.declared.Samples.TheVariants.{One, Two, Three}
use Rattle.times.proofs.TimeLaws.{on_and_on}
use Rattle.numbers.proofs.Ring.{same, split, neg_pos, sub_add, sub_neg_is, nat_abs_add}
use Rattle.samples.proofs.RateLaws.{limits_true}
use Rattle.samples.proofs.KeepLaws.{Meet, recent_keeps, beside_two_is, kept_is, ends_few}

-- a second sample stays beside the first where the limits hold
pub second_stays : (a new : Sample) → Meet a new → kept_of (One a) true new ≡ Two a new
unfolding kept_of
second_stays a new met = rw (limits_true (gained_of a new) (spread_of a new) met)

module _ (a b new : Sample) (held : Meet a b) (met : Meet b new) where
  -- the spreads add up, round the circle
  spreads_add : spread_of a new ≡ spread_of a b + spread_of b new
  spreads_add =
      let turns = on_and_on a.local b.local new.local in
      within (spread_of a b) (spread_of b new) (spread_of a new) turns.0 turns.1 held.high met.high
    where
      within : (s t whole k : ℕ) → s + t ≡ whole + k * circle → s ≤ longest_spread → t ≤ longest_spread → whole ≡ s + t
      within s t whole k e h l = omega (arith, e, h, l)

  -- and so do the gains
  gains_add : gained_of a new ≡ gained_of a b +ℤ gained_of b new
  gains_add =
      ap (λ (s : ℕ). rise_of a new -ℤ pos s) spreads_add
      ∙ ring (pos (units a.grand)) (pos (units b.grand)) (pos (units new.grand)) (spread_of a b) (spread_of b new)
    where
      ring : (x y z : ℤ) (s t : ℕ) → z -ℤ x -ℤ pos (s + t) ≡ (y -ℤ x -ℤ pos s) +ℤ (z -ℤ y -ℤ pos t)
      ring x y z s t = rw (split x, split y, split z, neg_pos (s + t), neg_pos s, neg_pos t) (simp (sub_add, sub_neg_is) (omega (arith, same)))

  -- THE OLDEST'S TEST IS ONE OF LENGTH: whatever the clock gained before and after, the limits hold from end to end where the spread is not too long
  pub oldest_meets : spread_of a new ≤ longest_spread → Meet a new
  oldest_meets short = record { low = low; high = short; near = near }
    where
      low : shortest_spread ≤ spread_of a new
      low = omega (arith, spreads_add, held.low)

      sum : (d e whole s t : ℕ) → whole ≤ d + e → d * per_gain ≤ s → e * per_gain ≤ t → whole * per_gain ≤ s + t
      sum d e whole s t l h k = omega (arith, l, h, k)

      near : nat_abs (gained_of a new) * per_gain ≤ spread_of a new
      near =
          rw (gains_add, spreads_add)
          (sum (nat_abs (gained_of a b)) (nat_abs (gained_of b new)) _ _ _ (nat_abs_add (gained_of a b) (gained_of b new)) held.near met.near)

  -- so a new sample stays beside both, whether these two were kept or three
  both_stay : spread_of a new ≤ longest_spread → beside_two a b new ≡ Three a b new
  both_stay short = rw (limits_true (gained_of b new) (spread_of b new) met, limits_true (gained_of a new) (spread_of a new) (oldest_meets short))

  pub third_stays : spread_of a new ≤ longest_spread → kept_of (Two a b) true new ≡ Three a b new
  unfolding kept_of
  third_stays short = both_stay short

  pub later_stays : (z : Sample) → spread_of a new ≤ longest_spread → kept_of (Three z a b) true new ≡ Three a b new
  unfolding kept_of
  later_stays z short = both_stay short

  -- and alone where both stretches are longer than a quarter of a second
  far_apart : 2 ^ 38 < spread_of a b → 2 ^ 38 < spread_of b new → Meet a new → ⊥
  far_apart h k whole = omega (arith, spreads_add, whole.high)

-- FRAMES MORE THAN A QUARTER OF A SECOND APART: of any two samples in a row, one stands alone
pub either_alone : (old : Samples) (a b : Sample) → Farther (2 ^ 38) old a → 2 ^ 38 < spread_of a b → Alone (kept_of old true a) ⊎ Alone (kept_of (kept_of old true a) true b)
unfolding kept_of
either_alone old a b far onward =
    kept_is old true a (λ (s : Samples). Alone s ⊎ Alone (kept_of s true b)) (inl refl)
    (λ x o m. inr (then_alone x m (subst (λ (s : Samples). Farther (2 ^ 38) s a) o far)))
    (λ x y o my _. inr (then_alone y my (recent_keeps (λ (s : Samples). Farther (2 ^ 38) s a) (λ _ _ _ h. h) old x y o far)))
  where
    then_alone : (x : Sample) → Meet x a → 2 ^ 38 < spread_of x a → Alone (beside_two x a b)
    then_alone x m h = beside_two_is x a b Alone (λ mb whole. absurd (far_apart x a b m mb h onward whole)) refl

-- so one of the two leaves no line, and a Send on it is refused with 11
pub either_few : (old : Samples) (a b : Sample) → Farther (2 ^ 38) old a → 2 ^ 38 < spread_of a b
    → (ends_of (kept_of old true a) ≡ None) ⊎ (ends_of (kept_of (kept_of old true a) true b) ≡ None)
either_few old a b far onward = ⊎_elim (λ h. inl (ends_few _ (omega (arith, h)))) (λ h. inr (ends_few _ (omega (arith, h)))) (either_alone old a b far onward)
