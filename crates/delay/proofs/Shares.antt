-- What latches and roundings leave of a round trip, in numbers alone: how far both ways of the delay may be off, share by share.
--
-- Let R be ours / theirs, and let each time be what its latch read and a rest below a unit. Then the round trip less R × turn is the cable both ways and
-- four rests; and over the pair, p's spread less R × S is four rests, of which those of the new localTime and p are the same. So with p's spread
-- over S in R's place, what the new latches leave counts only by the difference of 1 and turn / S.
use mathlib.Core.Path.{◌≡◌, sym, ap, ◌∙◌, subst}
use Prim.Native.Nat.{ℕ, suc, ◌+◌, ◌-◌, ◌*◌, ◌/◌, ◌<◌, ◌≤◌}
use native.Mathlib.Decide.{dec_le}
use native.Mathlib.Nat.{mul-le-mul_left, mul-le-mul_right, mul-lt-mul_of_pos_left, lt_of_mul-lt-mul_left, lt_of_not-le, sub-add_cancel, le_of_lt}
use native.Mathlib.Omega.{arith}
use lib.IntN.{ℤ, pos, negsuc, nat_abs, neg_ℤ, sub_ℕ, ◌+ℤ◌, ◌-ℤ◌, ◌*ℤ◌, +ℤ_idr}
use Rattle.numbers.specs.Whole.{floor_div, at_least_zero}
use Rattle.samples.specs.Rate.{per_gain, parts, Limits}
use Rattle.numbers.proofs.Ring.{same, split, of_pos, neg_pos, minus_is, sub_add, sub_mul, sub_neg_is, sub_lt, sub_ge, sub_ge2, nat_abs_mul, nat_abs_add, nat_abs_neg, less_is}
use Rattle.numbers.proofs.Floor.{floor_rest}

-- ---- the latches

-- A stretch that both clocks read: t units of ours and s of the neighbour's, k fine units to each. n of ours pass with m of the neighbour's, and ours has b
-- more. The rests below a unit are p0 and q0 at its start, p1 and q1 at its end
pub record Stretch (m n k b t s p0 p1 q0 q1 : ℕ) : Type 0 where
  pub ours0 : p0 < k
  pub ours1 : p1 < k
  pub theirs0 : q0 < k
  pub theirs1 : q1 < k
  pub balance : m * k * t + m * p1 + n * q0 ≡ m * b + n * k * s + m * p0 + n * q1

-- x passes here and y there
pub stretch_balance : (m n k x y b t s p0 p1 q0 q1 : ℕ) → m * x ≡ n * y → k * t + p1 ≡ x + b + p0 → k * s + q1 ≡ y + q0
    → m * k * t + m * p1 + n * q0 ≡ m * b + n * k * s + m * p0 + n * q1
stretch_balance m n k x y b t s p0 p1 q0 q1 rate here there =
    omega (arith, ap (λ (z : ℕ). m * z) here, ap (λ (z : ℕ). n * z) there)

-- rests p below m and q below n, times a spread s and a turn t: those on the left come to less than m + n, times the greater of s and t, above those on the right
module _ (m n p0 p1 q1 q2 : ℕ) (hp0 : p0 < m) (hp1 : p1 < m) (hq1 : q1 < n) (hq2 : q2 < n) where
  abbrev Less : ℕ → ℕ → Type 0
  Less s t = s * p0 + t * q2 + s * q1 + t * p1 < (n + m) * (s + (t - s)) + s * p1 + t * q1

  -- the turn is shorter than the spread by e, or longer
  shorter : (e t : ℕ) → 0 < e + t → Less (e + t) t
  shorter e t some =
      let most : e + t + (t - (e + t)) ≡ e + t = omega arith in
      rw most (omega (arith, mul-le-mul_left (e + t) hp0, mul-le-mul_left t hq2, mul-le-mul_left e hq1))

  longer : (e s : ℕ) → 0 < s → Less s (e + s)
  longer e s some =
      let most : s + (e + s - s) ≡ e + s = omega arith in
      rw most (omega (arith, mul-le-mul_left s hp0, mul-le-mul_left (e + s) hq2, mul-le-mul_left e hp1))

  rests_less : (s t : ℕ) → 0 < s → Less s t
  rests_less s t some = by (dec_le t s)
    where
      by : Dec (t ≤ s) → Less s t
      by (yes h) = subst (λ (x : ℕ). Less x t) (sub-add_cancel h) (shorter (s - t) t (omega arith))
      by (no h) = subst (λ (x : ℕ). Less s x) (sub-add_cancel (le_of_lt (lt_of_not-le h))) (longer (t - s) s some)

-- units count m and n here, d is the cable both ways, and each rest has its factor in it
module _ (m n d trip gone s t p0 p1 p2 q0 q1 q2 : ℕ)
    (trip-is : m * trip + p1 + q0 ≡ d + n * t + p0 + q1)
    (gone-is : m * gone + p1 + q2 ≡ 0 + n * s + p2 + q1) where
  -- of the trip times s and of the pair times t, d is left, but for the rests
  cable_left : m * (s * trip) + s * p1 + s * q0 + t * p2 + t * q1 ≡ m * (t * gone) + s * d + t * p1 + t * q2 + s * p0 + s * q1
  cable_left = omega (arith, ap (λ (z : ℕ). s * z) trip-is, ap (λ (z : ℕ). t * z) gone-is)

  latches_off : 0 < s → p0 < m → p1 < m → p2 < m → q0 < n → q1 < n → q2 < n
      → nat_abs (sub_ℕ (m * (s * trip)) (m * (t * gone) + s * d)) < (n + m) * (s + (t - s))
  latches_off some hp0 hp1 hp2 hq0 hq1 hq2 =
      sub_lt (m * (s * trip)) (m * (t * gone) + s * d) ((n + m) * (s + (t - s)))
      (omega (arith, cable_left, rests_less m n p0 p1 q1 q2 hp0 hp1 hq1 hq2 s t some))
      (omega (arith, cable_left, rests_less n m q0 q1 p1 p2 hq0 hq1 hp1 hp2 s t some))

-- ---- the roundings

-- the two floors, of the scaled turn and of the half, lead to opposite sides: together they are off by no more than one
pub floors_off : (w y : ℤ) (p : ℕ) → 0 < p → nat_abs (pos p *ℤ (pos 2 *ℤ floor_div w 2 -ℤ w) -ℤ (pos p *ℤ floor_div y p -ℤ y)) ≤ p
floors_off w y p above =
    let half = floor_rest w 2 (omega arith) in
    let scaled = floor_rest y p above in
    let h : pos 2 *ℤ floor_div w 2 -ℤ w ≡ sub_ℕ 0 half.0 = less_is (pos 2 *ℤ floor_div w 2) w 0 half.0 (+ℤ_idr w ∙ half.2) in
    let k : pos p *ℤ floor_div y p -ℤ y ≡ sub_ℕ 0 scaled.0 = less_is (pos p *ℤ floor_div y p) y 0 scaled.0 (+ℤ_idr y ∙ scaled.2) in
    rw (h, k, ring half.0 scaled.0)
    (omega (arith, sub_lt scaled.0 (p * half.0) (suc p) (omega (arith, scaled.1)) (omega (arith, mul-le-mul_left p half.1))))
  where
    ring : (c f : ℕ) → pos p *ℤ sub_ℕ 0 c -ℤ sub_ℕ 0 f ≡ sub_ℕ f (p * c)
    ring c f = rw (of_pos p) (simp (sub_add, sub_mul, sub_neg_is) (omega (arith, same)))

-- Both ways y of a delay, a scaled turn q and a rate r in p parts, each rounded
module _ (p s t trip gone : ℕ) (r q y : ℤ) where
  abbrev flooring : ℤ
  flooring = pos p *ℤ (y -ℤ (pos trip -ℤ (pos t +ℤ q))) -ℤ (pos p *ℤ q -ℤ r *ℤ pos t)

  abbrev rating : ℤ
  rating = pos s *ℤ r -ℤ (pos gone -ℤ pos s) *ℤ pos p

  -- y, times s, less the trip times s and the turn times p's spread
  abbrev rounding : ℤ
  rounding = pos s *ℤ y -ℤ sub_ℕ (s * trip) (t * gone)

  rounding_is : pos p *ℤ rounding ≡ pos s *ℤ flooring -ℤ pos t *ℤ rating
  rounding_is =
      rw (of_pos p, of_pos s, neg_pos s, of_pos t, of_pos trip, of_pos gone, split r, split q, split y)
      (simp (sub_add, sub_mul, sub_neg_is) (omega (arith, same)))

  roundings_off : nat_abs flooring ≤ p → nat_abs rating * 2 ≤ s → nat_abs rounding * (p * 2) ≤ s * (p * 2) + t * s
  roundings_off floors half = omega (
    arith,
    nat_abs_mul (pos p) rounding,
    ap nat_abs rounding_is,
    nat_abs_add (pos s *ℤ flooring) (neg_ℤ (pos t *ℤ rating)),
    nat_abs_neg (pos t *ℤ rating),
    nat_abs_mul (pos s) flooring,
    nat_abs_mul (pos t) rating,
    mul-le-mul_left s floors,
    mul-le-mul_left t half,
  )

-- the greater of 0 and z lies no farther than z from what is not below zero
pub no_farther : (k b : ℕ) (z : ℤ) → nat_abs (pos (at_least_zero z * 2 * k) -ℤ pos b) ≤ nat_abs (pos k *ℤ (pos 2 *ℤ z) -ℤ pos b)
no_farther k b (pos n) = rw (ap pos (order n)) (omega arith)
  where
    order : (n : ℕ) → n * 2 * k ≡ k * (2 * n)
    order n = omega arith
no_farther k b (negsuc n) =
    subst (λ (x : ℤ). nat_abs (pos (0 * k) -ℤ pos b) ≤ nat_abs x) (sym (ring (2 * suc n)))
    (rw (minus_is (0 * k) b) (omega (arith, sub_lt (0 * k) b (suc b) (omega arith) (omega arith), sub_ge 0 (k * (2 * suc n) + b))))
  where
    ring : (x : ℕ) → pos k *ℤ neg_ℤ (pos x) -ℤ pos b ≡ sub_ℕ 0 (k * x + b)
    ring x = rw (neg_pos x, of_pos k, neg_pos b) (simp (sub_add, sub_mul) (omega (arith, same)))

-- ---- all together

common_factor : (m k b : ℕ) (y : ℤ) → nat_abs (pos (m * k) *ℤ y -ℤ pos (m * b)) ≡ m * nat_abs (pos k *ℤ y -ℤ pos b)
common_factor m k b y = ap nat_abs ring ∙ nat_abs_mul (pos m) (pos k *ℤ y -ℤ pos b)
  where
    ring : pos (m * k) *ℤ y -ℤ pos (m * b) ≡ pos m *ℤ (pos k *ℤ y -ℤ pos b)
    ring = rw (of_pos (m * k), of_pos m, of_pos k, neg_pos b, neg_pos (m * b), split y) (simp (sub_add, sub_mul) (omega (arith, same)))

-- what the latches and the roundings put between both ways of a delay and the cable both ways
latches_roundings : (m s t trip gone d : ℕ) (y : ℤ)
    → pos s *ℤ (pos m *ℤ y -ℤ pos d) ≡ sub_ℕ (m * (s * trip)) (m * (t * gone) + s * d) +ℤ pos m *ℤ (pos s *ℤ y -ℤ sub_ℕ (s * trip) (t * gone))
latches_roundings m s t trip gone d y = rw (of_pos s, of_pos m, neg_pos d, split y) (simp (sub_add, sub_mul, sub_neg_is) (omega (arith, same)))

module _ (m n k b trip t p0 p1 q0 q1 : ℕ) (run : (0 < n) × (0 < m)) (round : Stretch m n k b trip t p0 p1 q0 q1) (y : ℤ) where
  -- twice what a delay is off, where y is both ways of it
  abbrev near : ℕ
  near = nat_abs (pos k *ℤ y -ℤ pos b)

  -- with a pair, whose stretch ends where the round trip does
  module _ (gone s p2 q2 : ℕ) (some : 0 < s) (pair : Stretch m n k 0 gone s p2 p1 q2 q1) where
    latching : nat_abs (sub_ℕ (m * k * (s * trip)) (m * k * (t * gone) + s * (m * b))) < (n * k + m * k) * (s + (t - s))
    latching =
        latches_off (m * k) (n * k) (m * b) trip gone s t (m * p0) (m * p1) (m * p2) (n * q0) (n * q1) (n * q2) round.balance (omega (arith, pair.balance)) some
        (ours round.ours0) (ours round.ours1) (ours pair.ours0) (theirs round.theirs0) (theirs round.theirs1) (theirs pair.theirs0)
      where
        ours : {x : ℕ} → x < k → m * x < m * k
        ours h = mul-lt-mul_of_pos_left h run.1

        theirs : {x : ℕ} → x < k → n * x < n * k
        theirs h = mul-lt-mul_of_pos_left h run.0

    pub shares_off : (p : ℕ) (r q : ℤ) → 0 < p → nat_abs (flooring p s t trip gone r q y) ≤ p → nat_abs (rating p s t trip gone r q y) * 2 ≤ s
        → near * (m * s * (p * 2)) < ((n + m) * s * (p * 2) + (n + m) * (t - s) * (p * 2) + m * s * t + m * s * (p * 2)) * k
    shares_off p r q above floors half =
        sum near (nat_abs (sub_ℕ (m * k * (s * trip)) (m * k * (t * gone) + s * (m * b)))) (nat_abs (rounding p s t trip gone r q y)) (t - s)
        (omega (
          arith,
          ap (λ (x : ℕ). s * x) (common_factor m k b y),
          nat_abs_mul (pos s) (pos (m * k) *ℤ y -ℤ pos (m * b)),
          ap nat_abs (latches_roundings (m * k) s t trip gone (m * b) y),
          nat_abs_add (sub_ℕ (m * k * (s * trip)) (m * k * (t * gone) + s * (m * b))) (pos (m * k) *ℤ rounding p s t trip gone r q y),
          nat_abs_mul (pos (m * k)) (rounding p s t trip gone r q y),
        ))
        latching (roundings_off p s t trip gone r q y floors half)
      where
        sum : (off latches roundings e : ℕ) → s * (m * off) ≤ latches + m * k * roundings → latches < (n * k + m * k) * (s + e) → roundings * (p * 2) ≤ s * (p * 2) + t * s
            → off * (m * s * (p * 2)) < ((n + m) * s * (p * 2) + (n + m) * e * (p * 2) + m * s * t + m * s * (p * 2)) * k
        sum off latches roundings e both few half = omega (arith, above, mul-le-mul_right (p * 2) both, mul-le-mul_right (p * 2) few, mul-le-mul_left (m * k) half)

  -- with a rate of 0, where the half's floor alone puts y off
  pub unrated_off : nat_abs (y -ℤ (pos trip -ℤ pos t)) ≤ 1 → near * m < (n + m + nat_abs (pos n -ℤ pos m) * t + m) * k
  unrated_off floor =
      sum near (nat_abs latches) (nat_abs floored) (nat_abs rate)
      (omega (
        arith,
        common_factor m k b y,
        ap nat_abs ring,
        nat_abs_add latches (pos (m * k) *ℤ floored +ℤ pos (k * t) *ℤ rate),
        nat_abs_add (pos (m * k) *ℤ floored) (pos (k * t) *ℤ rate),
        nat_abs_mul (pos (m * k)) floored,
        nat_abs_mul (pos (k * t)) rate,
      ))
      (sub_lt (m * k * trip) (m * b + n * k * t) ((n + m) * k)
      (omega (arith, round.balance, mul-lt-mul_of_pos_left round.ours0 run.1, mul-le-mul_left n round.theirs1))
      (omega (arith, round.balance, mul-lt-mul_of_pos_left round.ours1 run.1, mul-le-mul_left n round.theirs0)))
      floor
    where
      latches : ℤ
      latches = sub_ℕ (m * k * trip) (m * b + n * k * t)

      floored : ℤ
      floored = y -ℤ (pos trip -ℤ pos t)

      rate : ℤ
      rate = pos n -ℤ pos m

      ring : pos (m * k) *ℤ y -ℤ pos (m * b) ≡ sub_ℕ (m * k * trip) (m * b + n * k * t) +ℤ (pos (m * k) *ℤ (y -ℤ (pos trip -ℤ pos t)) +ℤ pos (k * t) *ℤ (pos n -ℤ pos m))
      ring =
          rw (of_pos (m * k), neg_pos (m * b), of_pos trip, neg_pos t, of_pos (k * t), of_pos n, neg_pos m, split y)
          (simp (sub_add, sub_mul, sub_neg_is) (omega (arith, same)))

      sum : (off latching flooring rating : ℕ) → m * off ≤ latching + (m * k * flooring + k * t * rating) → latching < (n + m) * k → flooring ≤ 1
          → off * m < (n + m + rating * t + m) * k
      sum off latching flooring rating all few one = omega (arith, all, few, mul-le-mul_left (m * k) one)

-- ---- in whole units

-- by the limits on a pair the clocks go at nearly one rate: ours by less than 4,000 while the neighbour's goes by 3,999
pub clocks_near : (m n k gone s p1 p2 q1 q2 : ℕ) → 0 < m → Stretch m n k 0 gone s p2 p1 q2 q1 → Limits (pos gone -ℤ pos s) s → n * (per_gain - 1) < m * per_gain
clocks_near m n k gone s p1 p2 q1 q2 above pair limits = lt_of_not-le far
  where
    units : n * s < m * gone + m + n
    units = lt_of_mul-lt-mul_left k (omega (arith, pair.balance, mul-lt-mul_of_pos_left pair.ours1 above, mul-le-mul_left n pair.theirs0))

    gained : gone * per_gain ≤ s * (per_gain + 1)
    gained = omega (arith, limits.near, ap nat_abs (minus_is gone s), sub_ge2 gone s)

    far : m * per_gain ≤ n * (per_gain - 1) → ⊥
    far h = omega (arith, units, mul-le-mul_left m gained, mul-le-mul_right s h, mul-le-mul_left n limits.low)

-- with such clocks, a turn of at most `longest`, and beyond the spread of at most so many times the spread: the shares are at most b units
pub shares_within : (m n s t e longest times b : ℕ) → n * (per_gain - 1) < m * per_gain → t ≤ longest → e ≤ times * s
    → (per_gain * 2 - 1) * (1 + times) * (parts * 2) + (per_gain - 1) * longest + (per_gain - 1) * (parts * 2) ≤ (per_gain - 1) * b * (parts * 2)
    → (n + m) * s * (parts * 2) + (n + m) * e * (parts * 2) + m * s * t + m * s * (parts * 2) ≤ b * (m * s * (parts * 2))
shares_within m n s t e longest times b near turn beyond enough = omega (
  arith,
  mul-le-mul_right s near,
  mul-le-mul_right e near,
  mul-le-mul_left m beyond,
  mul-le-mul_left (m * s) turn,
  mul-le-mul_left (m * s) enough,
)

-- twice what a is off from one of o and b is at most twice what it is off from their mean, and what they differ by
pub mean_near : (a o b : ℕ) → nat_abs (pos a -ℤ pos o) * 2 ≤ nat_abs (pos (a * 2) -ℤ pos (o + b)) + nat_abs (pos o -ℤ pos b)
mean_near a o b =
    rw (minus_is a o, minus_is (a * 2) (o + b), minus_is o b)
    (off (nat_abs (sub_ℕ (a * 2) (o + b))) (nat_abs (sub_ℕ o b)) (omega (arith, sub_ge (a * 2) (o + b), sub_ge2 (a * 2) (o + b), sub_ge o b, sub_ge2 o b)))
  where
    off : (x y : ℕ) → (a * 2 ≤ o * 2 + (x + y)) × (o * 2 ≤ a * 2 + (x + y)) → nat_abs (sub_ℕ a o) * 2 ≤ x + y
    off x y h = omega (arith, sub_lt a o (suc ((x + y) / 2)) (omega arith) (omega arith))
