-- Laws of the parts of a second: a part and its least fraction, each by the other; what both keep of their ranges; and a ratio that is given in smaller numbers.
use Rattle.std.proofs.Common.{◌≡◌, ℕ, ◌+◌, ◌-◌, ◌*◌, ◌/◌, ◌<◌, ◌≤◌, sym, ap, ◌∙◌, mul-le-mul_right, div-lt_iff_lt-mul, mul-lt-mul_of_pos_right, mul-pos, lt_of_not-le, le-div_iff_mul-le, arith}
use native.Mathlib.Nat.{lt-div-mul-add, mul-add-div_right, mul-div-mul_right}
use Rattle.times.specs.Parts.{part_of, least_of, LeastInPart}

-- ---- p parts are u units, and no part is shorter than a unit

module _ (p u : ℕ) (some : 0 < p) (whole : p ≤ u) where
  units_some : 0 < u
  units_some = omega arith

  -- a fraction has come to a part exactly if it is no less than the part's least one
  pub part_reached : (n fraction : ℕ) → n ≤ part_of p u fraction → least_of p u n ≤ fraction
  unfolding part_of least_of
  part_reached n f h =
      let k : n * u ≤ f * p = (le-div_iff_mul-le units_some).0 h in
      let l : n * u + (p - 1) < (f + 1) * p = omega arith in
      omega (arith, (div-lt_iff_lt-mul some).1 l)

  pub least_reached : (n fraction : ℕ) → least_of p u n ≤ fraction → n ≤ part_of p u fraction
  unfolding part_of least_of
  least_reached n f h =
      let m : (n * u + (p - 1)) / p < f + 1 = omega arith in
      let k : n * u + (p - 1) < (f + 1) * p = (div-lt_iff_lt-mul some).0 m in
      let l : n * u ≤ f * p = omega arith in
      (le-div_iff_mul-le units_some).1 l

  -- the next part's least fraction is a later one
  next_least : (n : ℕ) → least_of p u n < least_of p u (n + 1)
  unfolding least_of
  next_least n =
      let l : (n * u + (p - 1)) / p * p ≤ n * u + (p - 1) = (le-div_iff_mul-le some).0 (omega arith) in
      let k : ((n * u + (p - 1)) / p + 1) * p ≤ (n + 1) * u + (p - 1) = omega arith in
      omega (arith, (le-div_iff_mul-le some).1 k)

  -- so it lies in its part, and is the least that does
  pub least_part : (n : ℕ) → LeastInPart p u n (least_of p u n)
  least_part n =
      let f = least_of p u n in
      let low : n ≤ part_of p u f = least_reached n f (omega arith) in
      let high : part_of p u f < n + 1 = lt_of_not-le (λ h. omega (arith, part_reached (n + 1) f h, next_least n)) in
      record { within = omega arith; least = λ other e. part_reached n other (omega arith) }

  -- and nothing else is
  pub least_one : (n fraction : ℕ) → LeastInPart p u n fraction → fraction ≡ least_of p u n
  least_one n f l =
      let k = least_part n in
      omega (arith, l.least (least_of p u n) k.within, k.least f l.within)

  -- a fraction lies less than its part's length after the least one of it
  pub part_near : (fraction : ℕ) → fraction * p < least_of p u (part_of p u fraction) * p + u
  unfolding part_of least_of
  part_near f =
      let n = f * p / u in
      let low : f * p < n * u + u = lt-div-mul-add units_some in
      let high : n * u + (p - 1) < (n * u + (p - 1)) / p * p + p = lt-div-mul-add some in
      omega arith

  -- a second of u units has p parts, and each of them begins within it
  pub part_lt : (fraction : ℕ) → fraction < u → part_of p u fraction < p
  unfolding part_of
  part_lt f h = (div-lt_iff_lt-mul units_some).1 (omega (arith, mul-lt-mul_of_pos_right h some))

  pub least_lt : (n : ℕ) → n < p → least_of p u n < u
  unfolding least_of
  least_lt n h = (div-lt_iff_lt-mul some).1 (omega (arith, mul-le-mul_right u h))

  -- whole seconds of u units and p parts, and a fraction and its part
  pub part_whole : (seconds fraction : ℕ) → seconds * p + part_of p u fraction ≡ (seconds * u + fraction) * p / u
  unfolding part_of
  part_whole s f = sym (ap (λ (x : ℕ). x / u) (omega arith) ∙ mul-add-div_right units_some (s * p) (f * p))

-- ---- the same ratio in smaller numbers: what both have in common is left out

module _ (p u k : ℕ) (shared : 0 < k) where
  pub part_common : (fraction : ℕ) → part_of p u fraction ≡ part_of (p * k) (u * k) fraction
  unfolding part_of
  part_common f = sym (ap (λ (x : ℕ). x / (u * k)) (omega arith) ∙ mul-div-mul_right (f * p) u shared)

  -- the least of a part is the least of the same part
  pub least_common : 0 < p → p ≤ u → (n : ℕ) → least_of p u n ≡ least_of (p * k) (u * k) n
  least_common some whole n =
      let l = least_part p u some whole n in
      least_one (p * k) (u * k) (mul-pos some shared) (mul-le-mul_right k whole) n (least_of p u n)
      (record {
        within = sym (part_common (least_of p u n)) ∙ l.within;
        least = λ f e. l.least f (part_common f ∙ e);
      })
