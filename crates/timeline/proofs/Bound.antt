-- How far roundings lead from the exact line, once for every reading and for both versions: less than 8 units by the rate's, less than one more by each
-- floor. So a reading lies less than `bound` units from the line, and no smaller number would do. The line passes through both samples.
use mathlib.Core.Path.{◌≡◌, sym, ap, ◌∙◌}
use Prim.Native.Nat.{ℕ, ◌+◌, ◌-◌, ◌*◌, ◌^◌, ◌<◌, ◌≤◌}
use native.Mathlib.Nat.{mul-le-mul_left, mul-le-mul_right}
use native.Mathlib.Omega.{arith}
use lib.Dec.{lit<, lit≤}
use lib.IntN.{ℤ, pos, neg_ℤ, nat_abs, ◌+ℤ◌, ◌-ℤ◌, ◌*ℤ◌, *ℤ-zero, +ℤ_idr, +ℤ_assoc, +ℤ_comm}
use Rattle.times.specs.Times.{second, since_of, units, grand_of}
use Rattle.samples.specs.Rate.{parts, steepest, rate_of, scaled_of, advance_of}
use Rattle.samples.specs.Keep.{spread_of, rise_of, gained_of, rate_between, LawfulEnds}
use Rattle.samples.specs.declared.Sample.{Sample}
use Rattle.timeline.specs.Line.{longest_reach, InReach, reading_at, bound, line_at, ReadingsWithin}
use Rattle.numbers.proofs.Ring.{same, split, of_pos, neg_pos, sub_add, sub_mul, sub_neg_is, nat_abs_mul, nat_abs_add}
use Rattle.samples.proofs.RateLaws.{rate_near, scaled_near, scaled_small}

-- ---- the rate's rounding and k floors together: S times q differs from d × x by less than 8 + k times S, where q differs from rate × x / 2^35 by less than k

-- times 2^35, the difference is what each rounding adds to it
error_parts : (p s : ℕ) (q d u r : ℤ) → pos p *ℤ (pos s *ℤ q -ℤ d *ℤ u) ≡ pos s *ℤ (pos p *ℤ q -ℤ r *ℤ u) +ℤ u *ℤ (pos s *ℤ r -ℤ d *ℤ pos p)
error_parts p s q d u r =
    rw (of_pos p, of_pos s, split q, split d, split u, split r) (simp (sub_add, sub_mul, sub_neg_is) (omega (arith, same)))

pub correction_near : (k s : ℕ) (d x q : ℤ) → 0 < s → nat_abs x ≤ longest_reach → nat_abs (pos parts *ℤ q -ℤ rate_of d s *ℤ x) < k * parts
    → nat_abs (pos s *ℤ q -ℤ d *ℤ x) < (8 + k) * s
correction_near k s d x q hs hx hq =
    let r = rate_of d s in
    let scaling = pos parts *ℤ q -ℤ r *ℤ x in
    let rating = pos s *ℤ r -ℤ d *ℤ pos parts in
    omega (
      arith,
      nat_abs_mul (pos parts) (pos s *ℤ q -ℤ d *ℤ x),
      ap nat_abs (error_parts parts s q d x r),
      nat_abs_add (pos s *ℤ scaling) (x *ℤ rating),
      nat_abs_mul (pos s) scaling,
      nat_abs_mul x rating,
      mul-le-mul_left s hq,
      mul-le-mul_right (nat_abs rating) hx,
      (rate_near d s hs).near,
    )

-- ---- a reading

-- what is left of a reading less the line: the correction less d × x
pub line_error : (s : ℕ) (g x q rise : ℤ) → pos s *ℤ (g +ℤ (x +ℤ q)) -ℤ (pos s *ℤ g +ℤ rise *ℤ x) ≡ pos s *ℤ q -ℤ (rise -ℤ pos s) *ℤ x
line_error s g x q rise =
    rw (of_pos s, split g, split x, split q, split rise) (simp (sub_add, sub_mul, sub_neg_is, neg_pos) (omega (arith, same)))

pub reading_near : ReadingsWithin bound
unfolding reading_at
reading_near a b x w hx =
    rw (line_error (spread_of a b) (pos (units b.grand)) x (scaled_of (rate_between a b) x) (rise_of a b))
    (correction_near 1 (spread_of a b) (gained_of a b) x (scaled_of (rate_between a b) x) (omega (arith, w.limits.low)) hx (scaled_near (rate_between a b) x))

-- ---- no smaller bound holds of every reading

abbrev pub sample : ℕ → ℕ → Sample
sample g r = record { grand = grand_of g; local = record { 0 = r }; error = record { 0 = 0 } }

-- two samples between which a clock gained 1 over 2^36: its rate is a half, and goes up to 1
abbrev older : Sample
older = sample second 0

abbrev newer : Sample
newer = sample (second + 2 ^ 36 + 1) (2 ^ 36)

-- a distance before them at which both roundings lead down: the reading lies 8.5 units below the line, but for one part of 2^36
abbrev before : ℤ
before = neg_ℤ (pos (2 ^ 39 - 2 ^ 35 + 1))

pub bound_least : (k : ℕ) → ReadingsWithin k → bound ≤ k
unfolding since_of rate_of scaled_of reading_at
bound_least k within =
    let ends : LawfulEnds older newer = record {
      oldest = record { grand = record { seconds = lit< tt; fraction = lit< tt }; local = lit< tt; error = lit< tt };
      newest = record { grand = record { seconds = lit< tt; fraction = lit< tt }; local = lit< tt; error = lit< tt };
      limits = record { low = lit≤ tt; high = lit≤ tt; near = lit≤ tt };
    } in
    let off : 8 * 2 ^ 36 + 2 ^ 35 - 1 < k * 2 ^ 36 = within older newer before ends (lit≤ tt) in
    omega (arith, off)

-- ---- the line passes through both samples

pub line_newer : (a b : Sample) → line_at a b (pos 0) ≡ pos (spread_of a b) *ℤ pos (units b.grand)
line_newer a b =
    ap (λ (x : ℤ). pos (spread_of a b) *ℤ pos (units b.grand) +ℤ x) (*ℤ-zero (rise_of a b)) ∙ +ℤ_idr (pos (spread_of a b) *ℤ pos (units b.grand))

older_ring : (s g h : ℤ) → s *ℤ g +ℤ (g -ℤ h) *ℤ neg_ℤ s ≡ s *ℤ h
older_ring s g h = rw (split s, split g, split h) (simp (sub_add, sub_mul, sub_neg_is) (omega (arith, same)))

pub line_older : (a b : Sample) → line_at a b (neg_ℤ (pos (spread_of a b))) ≡ pos (spread_of a b) *ℤ pos (units a.grand)
line_older a b = older_ring (pos (spread_of a b)) (pos (units b.grand)) (pos (units a.grand))

-- ---- a reading is moved from the newest sample by less than a second

pub step_small : (rate x : ℤ) (more : ℕ) → nat_abs rate ≤ steepest → InReach x more → nat_abs (advance_of rate x +ℤ pos more) < second
step_small rate x more hr w =
    rw (ring x (scaled_of rate x) (pos more)) (omega (arith, w.reached, nat_abs_add (x +ℤ pos more) (scaled_of rate x), scaled_small rate x hr w.read))
  where
    ring : (x q m : ℤ) → x +ℤ q +ℤ m ≡ x +ℤ m +ℤ q
    ring x q m = +ℤ_assoc x q m ∙ ap (λ (y : ℤ). x +ℤ y) (+ℤ_comm q m) ∙ sym (+ℤ_assoc x m q)
