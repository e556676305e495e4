-- Laws of the samples that are kept: where the limits hold grand time rose; what is kept, at most three, the newest of them the new one, and lawful; their ends.
use mathlib.Core.Path.{◌≡◌, refl, sym, ap, subst, ◌∙◌}
use mathlib.Core.Bool.{Bool, true, false, cond, ◌&&◌}
use Prim.Native.Nat.{ℕ, ◌+◌, ◌%◌, ◌<◌, ◌≤◌}
use native.Mathlib.Omega.{arith}
use lib.Dec.{lit<, lit≤}
use lib.IntN.{ℤ, pos, nat_abs, sub_ℕ, ◌-ℤ◌}
use Rattle.std.proofs.Common.{Some, None}
use mir.Syntax.{w32}
use mir.Val.{of_z}
use Rattle.times.specs.Times.{circle, second, since_of, units, error_of}
use Rattle.samples.specs.Rate.{Limits, steepest}
use Rattle.samples.specs.Keep.{spread_of, rise_of, gained_of, gain_between, rate_between, limits_between, beside_one, beside_two, kept_of, how_many, ends_of, LawfulSample, LawfulEnds, LawfulSamples}
use Rattle.samples.specs.Demands.{OldestIs, NewestIs}
use Rattle.samples.specs.declared.Sample.{Sample}
use Rattle.samples.specs.declared.Samples.{Samples}
use Rattle.samples.specs.declared.Samples.TheVariants.{Empty, One, Two, Three}
use Rattle.samples.specs.declared.Ends.{Ends}
use Rattle.numbers.proofs.Ring.{minus_is, neg_pos, sub_add, sub_ge, sub_ge2}
use Rattle.times.proofs.ErrorLaws.{error_bits}
use Rattle.times.proofs.TestLaws.{both_hold, refuted}
use Rattle.samples.proofs.RateLaws.{limits_true, limits_told, within_gain, outside_gain, rate_small}

-- where the limits hold, grand time rose, and by less than a second
pub limits_rise : (a b s : ℕ) → Limits (pos b -ℤ pos a -ℤ pos s) s → (a < b) × (b < a + second)
limits_rise a b s k =
    let e : pos b -ℤ pos a -ℤ pos s ≡ sub_ℕ (b + 0) (a + s) = rw (minus_is b a, neg_pos s, sub_add b a 0 s) in
    omega (arith, k.near, k.low, k.high, ap nat_abs e, sub_ge (b + 0) (a + s), sub_ge2 (b + 0) (a + s))

-- ---- what is kept

-- the limits hold from one sample to a later one
abbrev pub Meet : Sample → Sample → Type 0
Meet a b = Limits (gained_of a b) (spread_of a b)

-- there is a gain exactly where they do
pub gain_limits : (a b : Sample) (d : ℤ) → Some d ≡ gain_between a b → limits_between a b ≡ true
gain_limits a b d e =
    let g = within_gain (rise_of a b) (spread_of a b) d e in
    limits_true (gained_of a b) (spread_of a b) (rw g.0 at g.1)

pub no_gain_limits : (a b : Sample) → None ≡ gain_between a b → limits_between a b ≡ false
no_gain_limits a b e = refuted (limits_between a b) (λ h. outside_gain (rise_of a b) (spread_of a b) e (limits_told (gained_of a b) (spread_of a b) h))

-- the newest two of those that are kept
abbrev pub recent_of : Samples → Samples
recent_of Empty = Empty
recent_of (One a) = One a
recent_of (Two a b) = Two a b
recent_of (Three z a b) = Two a b

-- what holds of the samples that are kept, and of the newest two where it holds of three, holds of them
pub recent_keeps : (P : Samples → Type 0) → ((z a b : Sample) → P (Three z a b) → P (Two a b)) → (samples : Samples) (a b : Sample) → recent_of samples ≡ Two a b → P samples → P (Two a b)
recent_keeps P three samples a b e h = subst P e (go samples h)
  where
    go : (s : Samples) → P s → P (recent_of s)
    go Empty h = h
    go (One a) h = h
    go (Two a b) h = h
    go (Three z a b) h = three z a b h

module _ (old : Samples) (same : Bool) (new : Sample) where
  -- of another clock, nothing
  pub kept_other : same ≡ false → One new ≡ kept_of old same new
  unfolding kept_of
  kept_other e = rw e

  -- of the same clock, the newest two where they may stay
  pub kept_first : same ≡ true → old ≡ Empty → One new ≡ kept_of old same new
  unfolding kept_of
  kept_first e o = rw (e, o)

  pub kept_one : (a : Sample) → same ≡ true → old ≡ One a → beside_one a new ≡ kept_of old same new
  unfolding kept_of
  kept_one a e o = rw (e, o)

  pub kept_two : (a b : Sample) → same ≡ true → old ≡ Two a b → beside_two a b new ≡ kept_of old same new
  unfolding kept_of
  kept_two a b e o = rw (e, o)

  pub kept_three : (z a b : Sample) → same ≡ true → old ≡ Three z a b → beside_two a b new ≡ kept_of old same new
  unfolding kept_of
  kept_three z a b e o = rw (e, o)

-- what holds of the new sample alone, and of it beside those within the limits, holds of what is kept
pub beside_one_is : (a new : Sample) (P : Samples → Type 0) → (Meet a new → P (Two a new)) → P (One new) → P (beside_one a new)
beside_one_is a new P stays alone = go (limits_between a new) refl
  where
    go : (t : Bool) → limits_between a new ≡ t → P (cond t (Two a new) (One new))
    go true e = stays (limits_told _ _ e)
    go false e = alone

pub beside_two_is : (a b new : Sample) (P : Samples → Type 0) → (Meet b new → Meet a new → P (Three a b new)) → P (One new) → P (beside_two a b new)
beside_two_is a b new P stay alone = go (limits_between b new && limits_between a new) refl
  where
    go : (t : Bool) → limits_between b new && limits_between a new ≡ t → P (cond t (Three a b new) (One new))
    go true e =
        let both = both_hold (limits_between b new) (limits_between a new) e in
        stay (limits_told _ _ both.0) (limits_told _ _ both.1)
    go false e = alone

-- the new sample alone, or beside up to the newest two of those that were kept
pub kept_is : (old : Samples) (same : Bool) (new : Sample) (P : Samples → Type 0) → P (One new)
    → ((a : Sample) → old ≡ One a → Meet a new → P (Two a new))
    → ((a b : Sample) → recent_of old ≡ Two a b → Meet b new → Meet a new → P (Three a b new))
    → P (kept_of old same new)
unfolding kept_of
kept_is old false new P alone one two = alone
kept_is Empty true new P alone one two = alone
kept_is (One a) true new P alone one two = beside_one_is a new P (one a refl) alone
kept_is (Two a b) true new P alone one two = beside_two_is a b new P (two a b refl) alone
kept_is (Three z a b) true new P alone one two = beside_two_is a b new P (two a b refl) alone

-- at most three are kept, and the newest of them is the new one
pub kept_most : (old : Samples) (same : Bool) (new : Sample) → how_many (kept_of old same new) ≤ 3
kept_most old same new = kept_is old same new (λ (s : Samples). how_many s ≤ 3) (lit≤ tt) (λ _ _ _. lit≤ tt) (λ _ _ _ _ _. lit≤ tt)

pub kept_newest : (old : Samples) (same : Bool) (new : Sample) → NewestIs new (kept_of old same new)
kept_newest old same new = kept_is old same new (NewestIs new) refl (λ _ _ _. refl) (λ _ _ _ _ _. refl)

-- the two ends that are found are these
ends_are : (a b : Sample) (e : Ends) → Some (record { oldest = a; newest = b }) ≡ Some e → (a ≡ e.oldest) × (b ≡ e.newest)
ends_are a b e q =
    let k : ◌≡◌ {A = Ends} (record { oldest = a; newest = b }) e = cc in
    (ap (λ (x : Ends). x.oldest) k, ap (λ (x : Ends). x.newest) k)

-- the ends are the oldest and the newest of them
pub ends_outer : (samples : Samples) (e : Ends) → ends_of samples ≡ Some e → OldestIs e.oldest samples × NewestIs e.newest samples
unfolding ends_of
ends_outer Empty e q = absurd cc
ends_outer (One c) e q = absurd cc
ends_outer (Two c d) e q = ends_are c d e q
ends_outer (Three c d f) e q = ends_are c f e q

-- a line has no ends exactly where there are fewer than two samples
pub few_ends : (samples : Samples) → ends_of samples ≡ None → how_many samples < 2
unfolding ends_of
few_ends Empty q = lit< tt
few_ends (One a) q = lit< tt
few_ends (Two a b) q = absurd cc
few_ends (Three a b c) q = absurd cc

pub ends_few : (samples : Samples) → how_many samples < 2 → ends_of samples ≡ None
unfolding ends_of
ends_few Empty h = refl
ends_few (One a) h = refl
ends_few (Two a b) h = absurd (omega (arith, h))
ends_few (Three a b c) h = absurd (omega (arith, h))

pub both_ends : (samples : Samples) (e : Ends) → ends_of samples ≡ Some e → how_many samples < 2 → ⊥
both_ends samples e q h = let few = ends_few samples h in cc

-- what is kept is lawful again
pub kept_lawful : (old : Samples) (same : Bool) (new : Sample) → LawfulSamples old → LawfulSample new → LawfulSamples (kept_of old same new)
kept_lawful old same new h k =
    kept_is old same new LawfulSamples k (λ a o m. record { oldest = rw o at h; newest = k; limits = m })
    (λ a b o mb ma.
    let held = recent_keeps LawfulSamples (λ _ _ _ three. three.newer) old a b o h in
    record {
      older = held;
      newer = record { oldest = held.newest; newest = k; limits = mb };
      ends = record { oldest = held.oldest; newest = k; limits = ma };
    })

-- ---- a clock that stands still

-- what is kept of a clock that always showed the grand time g: none, or one sample alone
abbrev pub Still : ℕ → Samples → Type 0
Still g Empty = Unit {0}
Still g (One a) = units a.grand ≡ g
Still g (Two a b) = ⊥
Still g (Three a b c) = ⊥

-- two samples with the same grand time are never kept together
pub level_alone : (a new : Sample) → units a.grand ≡ units new.grand → Meet a new → ⊥
level_alone a new level m = omega (arith, level, (limits_rise (units a.grand) (units new.grand) (spread_of a new) m).0)

-- so one sample stands alone, whatever was held
pub still_kept : (g : ℕ) (old : Samples) (same : Bool) (new : Sample) → Still g old → units new.grand ≡ g → Still g (kept_of old same new)
still_kept g old same new h e =
    kept_is old same new (Still g) e (λ a o m. level_alone a new ((rw o at h) ∙ sym e) m) (λ a b o _ _. recent_keeps (Still g) (λ _ _ _ three. three) old a b o h)

-- and there is no line
pub still_few : (g : ℕ) (samples : Samples) → Still g samples → how_many samples < 2
still_few g Empty h = lit< tt
still_few g (One a) h = lit< tt
still_few g (Two a b) h = absurd h
still_few g (Three a b c) h = absurd h

-- ---- the numbers of a lawful sample

-- a later sample lies the spread after an earlier one, round the circle
pub sample_onward : (a b : Sample) → LawfulSample b → (a.local.0 + spread_of a b) % circle ≡ b.local.0
unfolding since_of
sample_onward a b h = omega (arith, h.local)

-- the bits of its errorTime are those of the signed number
pub sample_error : (a : Sample) → LawfulSample a → of_z w32 (error_of a.error) ≡ a.error.0
sample_error a h = error_bits a.error h.error

-- ---- the oldest and the newest

pub between_small : (a b : Sample) → LawfulEnds a b → nat_abs (rate_between a b) ≤ steepest
between_small a b w = rate_small (gained_of a b) (spread_of a b) w.limits

pub ends_lawful : (samples : Samples) (e : Ends) → LawfulSamples samples → ends_of samples ≡ Some e → LawfulEnds e.oldest e.newest
unfolding ends_of
ends_lawful Empty e w q = absurd cc
ends_lawful (One c) e w q = absurd cc
ends_lawful (Two c d) e w q = let k = ends_are c d e q in rw (k.0, k.1) at w
ends_lawful (Three c d f) e w q = let k = ends_are c f e q in rw (k.0, k.1) at w.ends
