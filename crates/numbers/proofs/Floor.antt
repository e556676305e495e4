-- What floor division keeps: it leaves a rest below the divisor, and nothing else does; it is off by less than one, and it bounds sizes.
use mathlib.Core.Path.{◌≡◌, sym, ap, ◌∙◌}
use Prim.Native.Nat.{ℕ, suc, ◌+◌, ◌-◌, ◌*◌, ◌/◌, ◌%◌, ◌<◌, ◌≤◌}
use native.Mathlib.Nat.{div-add-mod, mod-lt, le_of_lt, div-lt_iff_lt-mul}
use native.Mathlib.Omega.{arith}
use lib.Arith.{digits_div}
use lib.IntN.{ℤ, pos, negsuc, nat_abs, ◌+ℤ◌, ◌-ℤ◌, ◌*ℤ◌, +ℤ_idr}
use Rattle.numbers.specs.Whole.{floor_div}
use Rattle.numbers.proofs.Ring.{same, of_pos, of_neg, neg_pos, sub_lt, sub_add, less_is}

-- z is m times the floor of z / m and a rest below m
pub floor_rest : (z : ℤ) (m : ℕ) → 0 < m → (k : ℕ) × (k < m) × (z ≡ pos m *ℤ floor_div z m +ℤ pos k)
floor_rest (pos n) m h = (n % m, mod-lt n h, ap pos (sym (div-add-mod n m)))
floor_rest (negsuc n) m h =
    let k = m - suc (n % m) in
    let l = mod-lt n h in
    let e : negsuc n ≡ pos m *ℤ negsuc (n / m) +ℤ pos k =
    rw (neg_pos (m * suc (n / m)), of_pos k, sub_add 0 (m * suc (n / m)) k 0, of_neg n) (same 0 (suc n) (0 + k) (m * suc (n / m) + 0) (omega (arith, div-add-mod n m, l))) in
    (k, omega (arith, l), e)

-- and no other whole number leaves such a rest
pub floor_one : (z : ℤ) (m : ℕ) (r : ℤ) (k : ℕ) → k < m → z ≡ pos m *ℤ r +ℤ pos k → floor_div z m ≡ r
floor_one z m r k h e = ap (λ (x : ℤ). floor_div x m) e ∙ by r
  where
    by : (r : ℤ) → floor_div (pos m *ℤ r +ℤ pos k) m ≡ r
    by (pos n) = ap pos (ap (λ (x : ℕ). x / m) (omega arith) ∙ digits_div n h)
    by (negsuc n) = ap (λ (x : ℤ). floor_div x m) below ∙ ap negsuc (digits_div n (omega arith))
      where
        below : pos m *ℤ negsuc n +ℤ pos k ≡ negsuc (n * m + (m - suc k))
        below =
            rw (neg_pos (m * suc n), of_pos k, sub_add 0 (m * suc n) k 0, of_neg (n * m + (m - suc k)))
            (same (0 + k) (m * suc n + 0) 0 (suc (n * m + (m - suc k))) (omega arith))

-- m times the floor of z / m differs from z by less than m
pub floor_near : (z : ℤ) (m : ℕ) → 0 < m → nat_abs (pos m *ℤ floor_div z m -ℤ z) < m
floor_near z m h =
    let rest = floor_rest z m h in
    rw (less_is (pos m *ℤ floor_div z m) z 0 rest.0 (+ℤ_idr z ∙ rest.2)) (sub_lt 0 rest.0 m (omega arith) (omega (arith, rest.1)))

-- a number below k times m in size has a floor of at most k in size
pub floor_small : (z : ℤ) (m k : ℕ) → 0 < m → nat_abs z < k * m → nat_abs (floor_div z m) ≤ k
floor_small (pos n) m k hm h = le_of_lt ((div-lt_iff_lt-mul hm).1 h)
floor_small (negsuc n) m k hm h = (div-lt_iff_lt-mul hm).1 (le_of_lt h)
