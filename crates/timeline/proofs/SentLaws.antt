-- Laws of sent grand time and of the errorTime sent with it: document 01's formula, each case of the rule, never below zero, and demand 3.
use mathlib.Core.Path.{◌≡◌, refl, sym, ap, ◌∙◌, subst}
use mathlib.Core.Logic.{◌⊎◌, inl, inr, ⊎_elim}
use Prim.Native.Nat.{ℕ, suc, ◌+◌, ◌^◌, ◌<◌, ◌≤◌}
use native.Mathlib.Nat.{le_of_lt}
use native.Mathlib.Omega.{arith}
use borrow.Author.Tests.{lt-ltb, le-ltb, ltb-true}
use lib.Dec.{ltb}
use lib.IntN.{ℤ, pos, negsuc, nat_abs, ◌+ℤ◌, ◌-ℤ◌, ◌*ℤ◌, -ℤ-+ℤ_cancel, +ℤ_idr}
use lib.Signed.{mag}
use Rattle.std.proofs.Common.{Option, Some, None, Result, Ok, Err}
use Rattle.numbers.specs.Whole.{at_least_zero}
use Rattle.refusals.specs.declared.Refusal.{Refusal}
use Rattle.refusals.specs.declared.Refusal.TheVariants.{FewSamples, TooLate, BeyondRange}
use Rattle.times.specs.Times.{grand_end, since_of, units, InRange, moment_of, error_of, error_end, error_time_of}
use Rattle.times.specs.declared.LocalTime.{LocalTime}
use Rattle.times.specs.declared.GrandTime.{GrandTime}
use Rattle.times.specs.declared.ErrorTime.{ErrorTime}
use Rattle.samples.specs.Rate.{steepest, scaled_of}
use Rattle.samples.specs.Keep.{spread_of, rate_between, ends_of, LawfulEnds, LawfulSamples}
use Rattle.samples.specs.declared.Sample.{Sample}
use Rattle.samples.specs.declared.Samples.{Samples}
use Rattle.samples.specs.declared.Ends.{Ends}
use Rattle.timeline.specs.Line.{InReach, reading_at, bound, line_at, NearLine}
use Rattle.timeline.specs.Sent.{longest_elapsed, reach_of, sent_time, error_by, sent_error, sent_as_of, sent_through_of, sent_of}
use Rattle.timeline.specs.declared.Sent.{Sent}
use Rattle.numbers.proofs.Branches.{if_true, if_false, if_when}
use Rattle.numbers.proofs.Ring.{same, split, of_pos, neg_pos, minus_is, sub_lt, sub_ge, sub_add, sub_mul, sub_neg_is}
use Rattle.times.proofs.TimeLaws.{moment_is}
use Rattle.times.proofs.ErrorLaws.{error_size, error_is}
use Rattle.samples.proofs.RateLaws.{scaled_none, scaled_small}
use Rattle.samples.proofs.KeepLaws.{between_small, ends_lawful}
use Rattle.timeline.proofs.Bound.{reading_near}

-- ---- document 01's formula: g1 + (t - r1) + floor(rate × u / 2^35)

module _ (a b : Sample) (elapsed back : ℕ) where
  pub sent_formula : sent_time a b elapsed back ≡ pos (units b.grand) +ℤ pos elapsed +ℤ scaled_of (rate_between a b) (reach_of elapsed back)
  unfolding sent_time reading_at
  sent_formula = ring (pos (units b.grand)) (pos elapsed) (pos back) (scaled_of (rate_between a b) (reach_of elapsed back))
    where
      ring : (g e b q : ℤ) → g +ℤ (e -ℤ b +ℤ q) +ℤ b ≡ g +ℤ e +ℤ q
      ring g e b q = rw (split g, split e, split b, split q) (simp (sub_add, sub_neg_is) (omega (arith, same)))

  module _ (he : elapsed < longest_elapsed) (hb : back < longest_elapsed) where
    pub in_reach : InReach (reach_of elapsed back) back
    in_reach = record {
      read = rw (minus_is elapsed back) (le_of_lt (sub_lt elapsed back longest_elapsed (omega arith) (omega arith)));
      added = omega arith;
      reached = rw (-ℤ-+ℤ_cancel (pos elapsed) (pos back)) (omega arith);
    }

    -- demand 3 for the definitions
    pub time_near : LawfulEnds a b → NearLine bound a b (sent_time a b elapsed back) (reach_of elapsed back) back
    unfolding sent_time
    time_near w =
        rw (ring (spread_of a b) (reading_at a b (reach_of elapsed back)) (pos back) (line_at a b (reach_of elapsed back)))
        (reading_near a b (reach_of elapsed back) w in_reach.read)
      where
        ring : (s : ℕ) (z b l : ℤ) → pos s *ℤ (z +ℤ b) -ℤ (l +ℤ pos s *ℤ b) ≡ pos s *ℤ z -ℤ l
        ring s z b l = rw (of_pos s, split z, split b, split l) (simp (sub_add, sub_mul, sub_neg_is) (omega (arith, same)))

    -- the correction is no larger than the newest grand time
    correction_le : LawfulEnds a b → nat_abs (scaled_of (rate_between a b) (reach_of elapsed back)) ≤ units b.grand
    correction_le w =
        omega (
          arith,
          w.limits.low,
          w.limits.near,
          scaled_small (rate_between a b) (reach_of elapsed back) (between_small a b w) in_reach.read,
          spread_le (units b.grand) (units a.grand) (spread_of a b),
        )
      where
        -- a spread is at most the newest grand time and the size of the gain
        spread_le : (g1 g0 s : ℕ) → s ≤ g1 + nat_abs (pos g1 -ℤ pos g0 -ℤ pos s)
        spread_le g1 g0 s = rw (minus_is g1 g0, neg_pos s, sub_add g1 g0 0 s) (omega (arith, sub_ge (g1 + 0) (g0 + s)))

    -- a sent time is never below zero
    pub sent_units : LawfulEnds a b → pos (at_least_zero (sent_time a b elapsed back)) ≡ sent_time a b elapsed back
    sent_units w =
        rw sent_formula
        (plus_kept (units b.grand + elapsed) (scaled_of (rate_between a b) (reach_of elapsed back)) (omega (arith, correction_le w)))
      where
        plus_kept : (n : ℕ) (z : ℤ) → nat_abs z ≤ n → pos (at_least_zero (pos n +ℤ z)) ≡ pos n +ℤ z
        plus_kept n (pos k) h = refl
        plus_kept n (negsuc k) h = rw (le-ltb n (suc k) h)

-- ---- errorTime

-- over no stretch there is no rest
pub no_stretch : (rate : ℤ) (b : Sample) → error_by rate b 0 ≡ error_of b.error
no_stretch rate b = ap (λ (z : ℤ). error_of b.error +ℤ z) (scaled_none rate) ∙ +ℤ_idr (error_of b.error)

-- both parts of it together are small
pub error_small : (rate : ℤ) (b : Sample) (stretch : ℕ) → nat_abs rate ≤ steepest → stretch < longest_elapsed → nat_abs (error_of b.error) + nat_abs (scaled_of rate (pos stretch)) < 2 ^ 63
error_small rate b stretch hr h = omega (arith, error_size b.error, scaled_small rate (pos stretch) hr (omega arith))

-- ---- what a frame carries, case by case

module _ (samples : Samples) (t : LocalTime) (back stretch : ℕ) where
  pub sent-through : {e : Option Ends} → e ≡ ends_of samples → sent_through_of e t back stretch ≡ sent_of samples t back stretch
  unfolding sent_of
  sent-through e = ap (λ (x : Option Ends). sent_through_of x t back stretch) e

  pub sent_late : {ends : Ends} → Some ends ≡ ends_of samples → longest_elapsed ≤ since_of t ends.newest.local → Err TooLate ≡ sent_of samples t back stretch
  sent_late e h = if_false _ _ _ (le-ltb _ _ h) ∙ sent-through e

  pub sent-as : {ends : Ends} {m : Option GrandTime} {x : Option ErrorTime} → Some ends ≡ ends_of samples → since_of t ends.newest.local < longest_elapsed
      → m ≡ moment_of (sent_time ends.oldest ends.newest (since_of t ends.newest.local) back) → x ≡ error_time_of (sent_error ends.oldest ends.newest stretch) → sent_as_of m x ≡ sent_of samples t back stretch
  sent-as e h k l = (λ i. sent_as_of (k i) (l i)) ∙ if_true _ _ _ (lt-ltb _ _ h) ∙ sent-through e

  -- neither fits in a frame: the sent time is at the end of grand time or below zero, or errorTime leaves its bits
  abbrev pub Unfit : Ends → Type 0
  Unfit ends =
      ((n : ℕ) → sent_time ends.oldest ends.newest (since_of t ends.newest.local) back ≡ pos n → grand_end ≤ n)
      ⊎ (error_end ≤ mag (sent_error ends.oldest ends.newest stretch))

  -- what holds in each case holds of what a frame carries
  pub sent_is : (P : Result Sent Refusal → Type 0) → P (Err FewSamples) → P (Err TooLate)
      → ((ends : Ends) (times : Sent) → ends_of samples ≡ Some ends → since_of t ends.newest.local < longest_elapsed
      → InRange times.grand → pos (units times.grand) ≡ sent_time ends.oldest ends.newest (since_of t ends.newest.local) back
      → times.error.0 < 2 ^ 32 → error_of times.error ≡ sent_error ends.oldest ends.newest stretch → P (Ok times))
      → ((ends : Ends) → ends_of samples ≡ Some ends → since_of t ends.newest.local < longest_elapsed → Unfit ends → P (Err BeyondRange))
      → P (sent_of samples t back stretch)
  unfolding sent_of
  sent_is P few late at beyond = by (ends_of samples) refl
    where
      by : (e : Option Ends) → ends_of samples ≡ e → P (sent_through_of e t back stretch)
      by None k = few
      by (Some ends) k =
          if_when P (ltb (since_of t ends.newest.local) longest_elapsed)
          (λ q.
          let l = ltb-true _ _ q in
          let z = sent_time ends.oldest ends.newest (since_of t ends.newest.local) back in
          let y = sent_error ends.oldest ends.newest stretch in
          moment_is (λ (m : Option GrandTime). P (sent_as_of m (error_time_of y))) z
          (λ g r u.
          error_is (λ (x : Option ErrorTime). P (sent_as_of (Some g) x)) y
          (λ e s v. at ends (record { grand = g; error = e }) k l r u s v)
          (λ out. beyond ends k l (inr out)))
          (λ end. beyond ends k l (inl end)))
          (λ _. late)

  -- 13 is answered only where the sent time reaches the end of grand time, for the part below zero never occurs, or where errorTime leaves its bits
  pub sent_beyond : LawfulSamples samples → back < longest_elapsed → sent_of samples t back stretch ≡ Err BeyondRange
      → (ends : Ends) × (ends_of samples ≡ Some ends)
      × ((grand_end ≤ at_least_zero (sent_time ends.oldest ends.newest (since_of t ends.newest.local) back)) ⊎ (error_end ≤ mag (sent_error ends.oldest ends.newest stretch)))
  sent_beyond w hb =
      sent_is
      (λ (s : Result Sent Refusal). s ≡ Err BeyondRange → (ends : Ends) × (ends_of samples ≡ Some ends)
      × ((grand_end ≤ at_least_zero (sent_time ends.oldest ends.newest (since_of t ends.newest.local) back)) ⊎ (error_end ≤ mag (sent_error ends.oldest ends.newest stretch))))
      (λ q. absurd cc)
      (λ q. absurd cc)
      (λ _ _ _ _ _ _ _ _ q. absurd cc)
      (λ ends k l unfit _.
      (ends, k, ⊎_elim (λ end. inl (end _ (sym (sent_units ends.oldest ends.newest _ back l hb (ends_lawful samples ends w k))))) inr unfit))

-- ---- what times that are sent tell: the two ends of the samples, the moment on the line through them, and the errorTime

pub record Departure (samples : Samples) (t : LocalTime) (back stretch : ℕ) (g : GrandTime) (e : ErrorTime) : Type 0 where
  pub ends : Ends
  pub kept : ends_of samples ≡ Some ends
  pub soon : since_of t ends.newest.local < longest_elapsed
  pub range : InRange g
  pub time : pos (units g) ≡ sent_time ends.oldest ends.newest (since_of t ends.newest.local) back
  pub bits : e.0 < 2 ^ 32
  pub error : error_of e ≡ sent_error ends.oldest ends.newest stretch

module _ (samples : Samples) (t : LocalTime) (back stretch : ℕ) where
  pub departure : (times : Sent) → sent_of samples t back stretch ≡ Ok times → Departure samples t back stretch times.grand times.error
  departure times =
      sent_is samples t back stretch (λ (s : Result Sent Refusal). s ≡ Ok times → Departure samples t back stretch times.grand times.error)
      (λ q. absurd cc)
      (λ q. absurd cc)
      (λ ends found k l r z s v q.
      let same : found ≡ times = cc in
      subst (λ (x : Sent). Departure samples t back stretch x.grand x.error) same
      (record { ends = ends; kept = k; soon = l; range = r; time = z; bits = s; error = v }))
      (λ _ _ _ _ q. absurd cc)

  -- demand 3 for what a frame carries, whatever rest errorTime takes in
  pub sent_near : (g : GrandTime) (e : ErrorTime) (d : Departure samples t back stretch g e) → LawfulSamples samples → back < longest_elapsed
      → NearLine bound d.ends.oldest d.ends.newest (pos (units g)) (reach_of (since_of t d.ends.newest.local) back) back
  sent_near g e d w hb =
      subst (λ (z : ℤ). NearLine bound d.ends.oldest d.ends.newest z (reach_of (since_of t d.ends.newest.local) back) back) (sym d.time)
      (time_near d.ends.oldest d.ends.newest (since_of t d.ends.newest.local) back d.soon hb (ends_lawful samples d.ends w d.kept))
