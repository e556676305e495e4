-- Grand time and errorTime together: with the rest of backTime in errorTime they lie less than `departure_bound` units from the line at the departure itself, and no
-- smaller number would do; without it errorTime is the newest sample's, bit for bit.
use mathlib.Core.Path.{◌≡◌, sym, ap, ◌∙◌, subst}
use Prim.Native.Nat.{ℕ, ◌+◌, ◌-◌, ◌*◌, ◌^◌, ◌<◌, ◌≤◌}
use native.Mathlib.Omega.{arith}
use lib.Dec.{lit<, lit≤}
use lib.IntN.{ℤ, pos, nat_abs, ◌+ℤ◌, ◌-ℤ◌, ◌*ℤ◌, *ℤ-zero, +ℤ_idr}
use mir.Syntax.{w32}
use mir.Val.{of_z}
use Rattle.times.specs.Times.{second, since_of, units, error_of}
use Rattle.times.specs.declared.LocalTime.{LocalTime}
use Rattle.times.specs.declared.GrandTime.{GrandTime}
use Rattle.times.specs.declared.ErrorTime.{ErrorTime}
use Rattle.samples.specs.Rate.{parts, rate_of, scaled_of}
use Rattle.samples.specs.Keep.{spread_of, rise_of, gained_of, rate_between, LawfulEnds, LawfulSamples}
use Rattle.samples.specs.declared.Sample.{Sample}
use Rattle.samples.specs.declared.Samples.{Samples}
use Rattle.timeline.specs.Line.{reading_at, departure_bound, line_at, NearLine}
use Rattle.timeline.specs.Sent.{longest_elapsed, reach_of, sent_time, error_by, sent_error, DeparturesWithin}
use Rattle.numbers.proofs.Ring.{same, split, of_pos, sub_add, sub_mul, sub_neg_is, nat_abs_add}
use Rattle.times.proofs.ErrorLaws.{error_bits}
use Rattle.samples.proofs.RateLaws.{scaled_near}
use Rattle.samples.proofs.KeepLaws.{ends_lawful}
use Rattle.timeline.proofs.Bound.{sample, correction_near, line_error}
use Rattle.timeline.proofs.SentLaws.{Departure, sent_formula, no_stretch}

-- ---- the line at the departure itself

-- the newest grand time, the time elapsed since, and what the rate makes of the reach and of backTime
sum_formula : (a b : Sample) (elapsed back : ℕ) → let rate = rate_between a b in
    sent_time a b elapsed back +ℤ sent_error a b back -ℤ error_of b.error ≡ pos (units b.grand) +ℤ (pos elapsed +ℤ (scaled_of rate (reach_of elapsed back) +ℤ scaled_of rate (pos back)))
unfolding sent_error
sum_formula a b elapsed back =
    ap (λ (z : ℤ). z +ℤ error_by (rate_between a b) b back -ℤ error_of b.error) (sent_formula a b elapsed back)
    ∙ ring (pos (units b.grand)) (pos elapsed) (scaled_of (rate_between a b) (reach_of elapsed back)) (error_of b.error) (scaled_of (rate_between a b) (pos back))
  where
    ring : (g x q e p : ℤ) → g +ℤ x +ℤ q +ℤ (e +ℤ p) -ℤ e ≡ g +ℤ (x +ℤ (q +ℤ p))
    ring g x q e p = rw (split g, split x, split q, split e, split p) (simp (sub_add, sub_neg_is) (omega (arith, same)))

-- two floors, of the reach and of backTime, are less than two parts off what the rate makes of the time elapsed
floors_near : (rate : ℤ) (elapsed back : ℕ)
    → nat_abs (pos parts *ℤ (scaled_of rate (reach_of elapsed back) +ℤ scaled_of rate (pos back)) -ℤ rate *ℤ pos elapsed) < 2 * parts
floors_near rate elapsed back =
    let u = reach_of elapsed back in
    let q = scaled_of rate u in
    let p = scaled_of rate (pos back) in
    rw (ring parts q p rate (pos elapsed) (pos back))
    (omega (
      arith,
      nat_abs_add (pos parts *ℤ q -ℤ rate *ℤ u) (pos parts *ℤ p -ℤ rate *ℤ pos back),
      scaled_near rate u,
      scaled_near rate (pos back),
    ))
  where
    ring : (n : ℕ) (q p r x b : ℤ) → pos n *ℤ (q +ℤ p) -ℤ r *ℤ x ≡ (pos n *ℤ q -ℤ r *ℤ (x -ℤ b)) +ℤ (pos n *ℤ p -ℤ r *ℤ b)
    ring n q p r x b = rw (of_pos n, split q, split p, split r, split x, split b) (simp (sub_add, sub_mul, sub_neg_is) (omega (arith, same)))

pub departure_near : DeparturesWithin departure_bound
departure_near a b elapsed back w he hb =
    let s = spread_of a b in
    let rate = rate_between a b in
    let q = scaled_of rate (reach_of elapsed back) +ℤ scaled_of rate (pos back) in
    rw (sum_formula a b elapsed back, *ℤ-zero (pos s), +ℤ_idr (line_at a b (pos elapsed)), line_error s (pos (units b.grand)) (pos elapsed) q (rise_of a b))
    (correction_near 2 s (gained_of a b) (pos elapsed) q (omega (arith, w.limits.low)) (omega arith) (floors_near rate elapsed back))

-- ---- no smaller bound holds of every departure

-- a clock that gained 3 over 2^36 + 1: its rate is three halves and a little less, and goes down to 1
abbrev older : Sample
older = sample second 0

abbrev newer : Sample
newer = sample (second + 2 ^ 36 + 4) (2 ^ 36 + 1)

-- a departure and a backTime at which both floors lead down by one but for a part of 2^35: the two times together lie 10 units below the line, but for 30 parts of 2^36 + 1
abbrev elapsed : ℕ
elapsed = 2 ^ 39 - 2

abbrev back : ℕ
back = 2 ^ 38 - 1

pub departure_least : (k : ℕ) → DeparturesWithin k → departure_bound ≤ k
unfolding since_of rate_of scaled_of reading_at sent_time sent_error
departure_least k within =
    let ends : LawfulEnds older newer = record {
      oldest = record { grand = record { seconds = lit< tt; fraction = lit< tt }; local = lit< tt; error = lit< tt };
      newest = record { grand = record { seconds = lit< tt; fraction = lit< tt }; local = lit< tt; error = lit< tt };
      limits = record { low = lit≤ tt; high = lit≤ tt; near = lit≤ tt };
    } in
    let off : 10 * 2 ^ 36 - 20 < k * (2 ^ 36 + 1) = within older newer elapsed back ends (lit< tt) (lit< tt) in
    omega (arith, off)

-- ---- what a frame carries

module _ (samples : Samples) (t : LocalTime) (back stretch : ℕ) (g : GrandTime) (e : ErrorTime) (d : Departure samples t back stretch g e) (lawful : LawfulSamples samples) where
  abbrev lawful_ends : LawfulEnds d.ends.oldest d.ends.newest
  lawful_ends = ends_lawful samples d.ends lawful d.kept

  -- without the rest errorTime is the newest sample's, bit for bit
  pub sent_heard : stretch ≡ 0 → e.0 ≡ d.ends.newest.error.0
  unfolding sent_error
  sent_heard none =
      let rate = rate_between d.ends.oldest d.ends.newest in
      sym (error_bits e d.bits)
      ∙ ap (of_z w32) (d.error ∙ ap (error_by rate d.ends.newest) none ∙ no_stretch rate d.ends.newest)
      ∙ error_bits d.ends.newest.error lawful_ends.newest.error

  -- with it, that and what the rate makes of backTime
  pub sent_with_rest : stretch ≡ back → error_of e ≡ error_of d.ends.newest.error +ℤ scaled_of (rate_between d.ends.oldest d.ends.newest) (pos back)
  unfolding sent_error
  sent_with_rest all = d.error ∙ ap (error_by (rate_between d.ends.oldest d.ends.newest) d.ends.newest) all

  -- and both times together tell the line at the departure itself
  pub sent_departs : stretch ≡ back → back < longest_elapsed
      → NearLine departure_bound d.ends.oldest d.ends.newest (pos (units g) +ℤ error_of e -ℤ error_of d.ends.newest.error) (pos (since_of t d.ends.newest.local)) 0
  sent_departs all hb =
      subst (λ (z : ℤ). NearLine departure_bound d.ends.oldest d.ends.newest z (pos (since_of t d.ends.newest.local)) 0)
      (sym (λ i. d.time i +ℤ (d.error ∙ ap (sent_error d.ends.oldest d.ends.newest) all) i -ℤ error_of d.ends.newest.error))
      (departure_near d.ends.oldest d.ends.newest (since_of t d.ends.newest.local) back lawful_ends d.soon hb)
