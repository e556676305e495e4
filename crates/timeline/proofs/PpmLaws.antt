-- Drift in parts per million is exact: the float is rate × 1,000,000 / 2^35 with nothing rounded, and it is what the program computes.
use mathlib.Core.Path.{◌≡◌, refl, sym, ap, ◌∙◌}
use mathlib.Core.Bool.{Bool, true, false, not}
use Prim.Native.Nat.{ℕ, zero, suc, ◌+◌, ◌-◌, ◌*◌, ◌^◌, ◌<◌, ◌≤◌}
use native.Mathlib.Nat.{mul_assoc, lt_of_lt_of_le}
use native.Mathlib.Omega.{arith}
use lib.Dec.{T, lit<, lit≤, le→leb, lt→ltb}
use lib.Pow.{pow_mono, shl_lt}
use lib.IntN.{ℤ, pos, negsuc, neg_ℤ, nat_abs, ◌*ℤ◌}
use lib.Signed.{non_neg}
use lib.Ieee.{Float, nan, inf, fin, binary64, low, emax, up, down, round, of_int, div, of_bits, unlike, in_float}
use lib.Ieee.Exact.{HasValue, round_exact}
use lib.Ieee.Back.{round_whole}
use lib.Ieee.Fits.{down_pos}
use lib.Ieee.Scale.{round_same}
use Rattle.samples.specs.Rate.{parts, steepest}
use Rattle.timeline.specs.Drift.{million, ppm_of}
use Rattle.numbers.proofs.Ring.{nat_abs_mul}

-- ---- nothing is rounded

-- the places that a 64-bit float has beyond parts of 2^35
abbrev spare : ℕ
spare = low binary64 - 35

-- a whole number of at most 53 bits, in parts of 2^35
parts_exact : (s : Bool) (n : ℕ) → n < 2 ^ 53 → HasValue (round binary64 s n parts) s n parts
parts_exact s n h =
    round_exact binary64 s n parts n spare (lit< tt) h
    (lt_of_lt_of_le (shl_lt 53 spare h) (pow_mono {i = 53 + spare} {j = low binary64 + suc (emax binary64)} (lit≤ tt)))
    (sym (mul_assoc n (2 ^ spare) parts))

-- the drift has the sign of the rate, and its size is |rate| × 1,000,000 / 2^35
pub ppm_exact : (r : ℤ) → nat_abs r ≤ steepest → HasValue (ppm_of r) (not (non_neg r)) (nat_abs r * million) parts
unfolding ppm_of
ppm_exact r h = parts_exact (not (non_neg r)) (nat_abs r * million) (omega arith)

-- ---- what the program computes is that float

-- the bits of 2^35 as a 64-bit float
abbrev one_bits : ℕ
one_bits = 0x4220_0000_0000_0000

-- a rate in parts per million, as a whole number, is one that a 64-bit float holds
pub ppm_small : (r : ℤ) → nat_abs r ≤ steepest → nat_abs (r *ℤ pos million) ≤ 2 ^ 53
ppm_small r h = rw (nat_abs_mul r (pos million)) (omega arith)

pub float_holds : (z : ℤ) → nat_abs z ≤ 2 ^ 53 → T (in_float binary64 z)
unfolding in_float
float_holds (pos n) h = le→leb n (2 ^ 53) h
float_holds (negsuc n) h = lt→ltb n (2 ^ 53) h

whole_exact : (z : ℤ) → nat_abs z ≤ 2 ^ 53 → HasValue (of_int binary64 z) (not (non_neg z)) (nat_abs z) 1
unfolding of_int
whole_exact (pos n) h = round_whole binary64 false n h
whole_exact (negsuc n) h = round_whole binary64 true (suc n) h

quotient_is : (x : Float) (s : Bool) (n : ℕ) → HasValue x s n 1 → div binary64 x (of_bits binary64 one_bits) ≡ round binary64 s n parts
unfolding div of_bits
quotient_is nan s n v = absurd v
quotient_is (inf t) s n v = absurd v
quotient_is (fin t m e) s n v =
    ap (λ (b : Bool). round binary64 b (m * up e * 1) (parts * down e)) (unlike_false t ∙ v.0)
    ∙ round_same binary64 s (m * up e * 1) (parts * down e) n parts (omega (arith, down_pos e)) (lit< tt) (omega (arith, v.1))
  where
    unlike_false : (t : Bool) → unlike t false ≡ t
    unlike_false true = refl
    unlike_false false = refl

-- a factor above zero keeps the sign
sign_kept : (r : ℤ) (k : ℕ) → 0 < k → non_neg (r *ℤ pos k) ≡ non_neg r
sign_kept (pos n) k h = refl
sign_kept (negsuc n) zero h = absurd (omega arith)
sign_kept (negsuc n) (suc k) h = ap (λ (i : ℕ). non_neg (neg_ℤ (pos i))) (product_suc n k)
  where
    product_suc : (n k : ℕ) → suc n * suc k ≡ suc (n * suc k + k)
    product_suc n k = omega arith

pub ppm_is : (r : ℤ) → nat_abs r ≤ steepest → div binary64 (of_int binary64 (r *ℤ pos million)) (of_bits binary64 one_bits) ≡ ppm_of r
unfolding ppm_of
ppm_is r h =
    let z = r *ℤ pos million in
    quotient_is (of_int binary64 z) (not (non_neg z)) (nat_abs z) (whole_exact z (ppm_small r h))
    ∙ ap (λ (b : Bool). round binary64 (not b) (nat_abs z) parts) (sign_kept r million (lit< tt))
    ∙ ap (λ (n : ℕ). round binary64 (not (non_neg r)) n parts) (nat_abs_mul r (pos million))
