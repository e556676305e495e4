-- Signed machine numbers: what the proof of a function on i64 asks of them.
use mathlib.Core.Path.{◌≡◌, refl, sym, ap, ◌∙◌, subst}
use mathlib.Core.Bool.{true, false, true≢false}
use Prim.Native.Nat.{ℕ, zero, suc, ◌+◌, ◌*◌, ◌^◌, ◌<◌}
use native.Mathlib.Omega.{arith}
use borrow.Author.Tests.{le-ltb}
use lib.IntN.{ℤ, pos, negsuc, nat_abs, neg_ℤ, ◌+ℤ◌, ◌-ℤ◌, ◌*ℤ◌}
use lib.Signed.{mag, lt_z, shr_z}
use mir.Syntax.{w64}
use mir.Val.{SFits, to_z, of_z}
use mir.ValLaws.{to_z-of_z}
use Rattle.numbers.specs.Whole.{floor_div}
use Rattle.numbers.proofs.Ring.{nat_abs_mul, nat_abs_add, nat_abs_neg, mag_le, minus_is, sub_lt}

-- a number read back from its bits
pub back : (z : ℤ) → SFits w64 z → to_z w64 (of_z w64 z) ≡ z
back z f = to_z-of_z w64 z f

pub back_n : (n : ℕ) → n < 2 ^ 63 → to_z w64 n ≡ pos n
back_n n h = to_z-of_z w64 (pos n) (record { sfits = h })

pub sfits : {z : ℤ} → mag z < 2 ^ 63 → SFits w64 z
sfits h = record { sfits = h }

-- below zero, or not, by the machine's test
pub is_neg : (z : ℤ) → lt_z z (pos 0) ≡ true → z ≡ negsuc (mag z)
is_neg (pos n) h = absurd (true≢false (sym h ∙ le-ltb n 0 (omega arith)))
is_neg (negsuc n) h = refl

pub is_pos : (z : ℤ) → lt_z z (pos 0) ≡ false → z ≡ pos (mag z)
is_pos (pos n) h = refl
is_pos (negsuc n) h = absurd (true≢false h)

-- -1 - z
pub flip_neg : (n : ℕ) → negsuc 0 -ℤ negsuc n ≡ pos n
flip_neg n = rw (le-ltb (suc n) 1 (omega arith)) (ap pos (omega arith))

pub flip_pos : (n : ℕ) → negsuc 0 -ℤ pos n ≡ negsuc n
flip_pos zero = refl
flip_pos (suc n) = ap (λ (k : ℕ). negsuc (suc k)) (omega arith)

-- a shift to the right is floor_div by a power of two
pub floor_is : (z : ℤ) (m : ℕ) → shr_z z m ≡ floor_div z m
floor_is (pos n) m = refl
floor_is (negsuc n) m = refl

-- a product fits where the product of the sizes does
pub product_fits : (a b : ℤ) → nat_abs a * nat_abs b < 2 ^ 63 → SFits w64 (a *ℤ b)
product_fits a b h = sfits (omega (arith, mag_le (a *ℤ b), nat_abs_mul a b, h))

-- what the machine reads back of a product of two numbers that it read back
pub product_back : (a b : ℤ) → SFits w64 a → SFits w64 b → SFits w64 (a *ℤ b) → to_z w64 (of_z w64 (to_z w64 (of_z w64 a) *ℤ to_z w64 (of_z w64 b))) ≡ a *ℤ b
product_back a b fa fb f = rw (back a fa, back b fb, back (a *ℤ b) f)

-- what a test z < 0 tells of z, in each arm
pub taken_neg : (z : ℤ) → SFits w64 z → lt_z (to_z w64 (of_z w64 z)) (pos 0) ≡ true → z ≡ negsuc (mag z)
taken_neg z f t = is_neg z (subst (λ (y : ℤ). lt_z y (pos 0) ≡ true) (back z f) t)

pub left_pos : (z : ℤ) → SFits w64 z → lt_z (to_z w64 (of_z w64 z)) (pos 0) ≡ false → z ≡ pos (mag z)
left_pos z f t = is_pos z (subst (λ (y : ℤ). lt_z y (pos 0) ≡ false) (back z f) t)

-- the difference of two naturals fits
pub minus_fits : (a b : ℕ) → a < 2 ^ 63 → b < 2 ^ 63 → SFits w64 (pos a -ℤ pos b)
minus_fits a b ha hb = sfits (omega (arith, mag_le (pos a -ℤ pos b), subst (λ (y : ℤ). nat_abs y < 2 ^ 63) (sym (minus_is a b)) (sub_lt a b (2 ^ 63) (omega arith) (omega arith))))

-- a natural moved by the size of x, down where x is below zero and up where not, is moved by x
pub moved_down : (g n : ℕ) (x : ℤ) → lt_z x (pos 0) ≡ true → n ≡ nat_abs x → pos g -ℤ pos n ≡ pos g +ℤ x
moved_down g n (pos k) t e = absurd (true≢false (sym t ∙ le-ltb k 0 (omega arith)))
moved_down g n (negsuc k) t e = rw e

pub moved_up : (g n : ℕ) (x : ℤ) → lt_z x (pos 0) ≡ false → n ≡ nat_abs x → pos (g + n) ≡ pos g +ℤ x
moved_up g n (pos k) t e = rw e
moved_up g n (negsuc k) t e = absurd (true≢false t)

-- a signed result of a call, as the next place reads it
pub got : {z y : ℤ} → mag z < 2 ^ 63 → z ≡ y → to_z w64 (of_z w64 z) ≡ y
got {z} h e = back z (sfits h) ∙ e

-- a sum and a difference fit where the sum of the sizes does
pub sum_fits : (a b : ℤ) → nat_abs a + nat_abs b < 2 ^ 63 → SFits w64 (a +ℤ b)
sum_fits a b h = sfits (omega (arith, mag_le (a +ℤ b), nat_abs_add a b))

pub less_fits : (a b : ℤ) → nat_abs a + nat_abs b < 2 ^ 63 → SFits w64 (a -ℤ b)
less_fits a b h = sum_fits a (neg_ℤ b) (omega (arith, nat_abs_neg b))
