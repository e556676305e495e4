-- The nearest whole number to a fraction, a half going up: that it is that, that nothing else is, and what it bounds.
use mathlib.Core.Path.{◌≡◌, refl, ◌∙◌, subst}
use Prim.Native.Nat.{ℕ, suc, ◌+◌, ◌-◌, ◌*◌, ◌<◌, ◌≤◌}
use native.Mathlib.Decide.{dec_le}
use native.Mathlib.Nat.{lt_of_mul-lt-mul_left, lt_of_not-le}
use native.Mathlib.Omega.{arith}
use lib.IntN.{ℤ, pos, negsuc, nat_abs, sub_ℕ, ◌+ℤ◌, ◌-ℤ◌, ◌*ℤ◌, -ℤ-+ℤ_cancel}
use lib.Signed.{◌<ℤ◌}
use Rattle.numbers.specs.Whole.{floor_div, nearest_div, Nearest}
use Rattle.numbers.proofs.Ring.{same, of_pos, of_neg, nat_abs_mul, nat_abs_add, sub_lt, sub_above, less_is, less_back}
use Rattle.numbers.proofs.Floor.{floor_rest, floor_one}

-- with h the half of m, rounded down, added to z
module _ (z : ℤ) (m h : ℕ) (above : 0 < m) (low : h * 2 ≤ m) (high : m ≤ h * 2 + 1) where
  -- h less a rest below m is at most half of m in size, and above zero where it is just half
  rest_near : (k : ℕ) → k < m → nat_abs (sub_ℕ h k) * 2 ≤ m
  rest_near k l = omega (arith, sub_lt h k (suc h) (omega arith) (omega arith))

  rest_upper : (k : ℕ) → k < m → nat_abs (sub_ℕ h k) * 2 ≡ m → pos 0 <ℤ sub_ℕ h k
  rest_upper k l e = by (dec_le h k)
    where
      by : Dec (h ≤ k) → pos 0 <ℤ sub_ℕ h k
      by (yes after) = absurd (omega (arith, sub_lt h k (suc (k - h)) (omega arith) (omega arith)))
      by (no before) = sub_above h k (lt_of_not-le before)

  -- the floor is the nearest to z / m, and nothing else is
  half_is : Nearest z m (floor_div (z +ℤ pos h) m)
  half_is =
      let r = floor_div (z +ℤ pos h) m in
      let rest = floor_rest (z +ℤ pos h) m above in
      let off : pos m *ℤ r -ℤ z ≡ sub_ℕ h rest.0 = less_is (pos m *ℤ r) z h rest.0 rest.2 in
      record { near = rw off (rest_near rest.0 rest.1); upper = rw off (rest_upper rest.0 rest.1) }

  half_one : (r : ℤ) → Nearest z m r → floor_div (z +ℤ pos h) m ≡ r
  half_one r w = by (pos m *ℤ r -ℤ z) refl w.near w.upper
    where
      leaves : (k : ℕ) → k < m → pos m *ℤ r -ℤ z ≡ sub_ℕ h k → floor_div (z +ℤ pos h) m ≡ r
      leaves k l off = floor_one (z +ℤ pos h) m r k l (less_back (pos m *ℤ r) z h k off)

      by : (e : ℤ) → pos m *ℤ r -ℤ z ≡ e → nat_abs e * 2 ≤ m → (nat_abs e * 2 ≡ m → pos 0 <ℤ e) → floor_div (z +ℤ pos h) m ≡ r
      by (pos n) off near upper = leaves (h - n) (omega arith) (off ∙ of_pos n ∙ same n 0 h (h - n) (omega arith))
      by (negsuc n) off near upper =
          let less : suc n * 2 ≡ m → ⊥ = λ e. (upper e).lt in
          leaves (h + suc n) (omega arith) (off ∙ of_neg n ∙ same 0 (suc n) h (h + suc n) (omega arith))

pub nearest_is : (z : ℤ) (m : ℕ) → 0 < m → Nearest z m (nearest_div z m)
nearest_is z m above = half_is z m _ above (omega arith) (omega arith)

pub nearest_one : (z : ℤ) (m : ℕ) → 0 < m → (r : ℤ) → Nearest z m r → nearest_div z m ≡ r
nearest_one z m above = half_one z m _ above (omega arith) (omega arith)

-- a number less than k and a half times m in size is nearest to at most k in size
pub nearest_small : (z : ℤ) (m k : ℕ) → 0 < m → nat_abs z * 2 < (k * 2 + 1) * m → nat_abs (nearest_div z m) ≤ k
nearest_small z m k above below =
    let y = pos m *ℤ nearest_div z m in
    let size : nat_abs y ≤ nat_abs (y -ℤ z) + nat_abs z = subst (λ (x : ℤ). nat_abs x ≤ nat_abs (y -ℤ z) + nat_abs z) (-ℤ-+ℤ_cancel y z) (nat_abs_add (y -ℤ z) z) in
    let less : m * nat_abs (nearest_div z m) < m * suc k = omega (arith, nat_abs_mul (pos m) (nearest_div z m), size, (nearest_is z m above).near) in
    omega (arith, lt_of_mul-lt-mul_left m less)
