-- Laws of errorTime: its signed number and its 32 bits are each other's inverse, and a number has an errorTime exactly from -2^31 to 2^31 - 1.
use Rattle.std.proofs.Common.{◌≡◌, ℕ, suc, ◌-◌, ◌^◌, ◌<◌, ◌≤◌, Bool, true, false, ltb, ℤ, pos, negsuc, ◌-ℤ◌, nat_abs, Option, Some, None, sym, refl, ap, ◌∙◌, arith, w32, of_z, ltb-false, ltb-true, le-ltb, lt-ltb}
use lib.Signed.{mag}
use mir.Val.{sel}
use mir.ValLaws.{to_z_pos, to_z-neg, to_z-Fits, to_z-of_z, of_z-to_z}
use Rattle.times.specs.Times.{error_of, error_end, error_time_of}
use Rattle.times.specs.declared.ErrorTime.{ErrorTime}
use Rattle.numbers.proofs.Branches.{if_true, if_false, if_when}
use Rattle.numbers.proofs.Ring.{same, of_neg, minus_is}

-- ---- the signed number and the bits

-- of the bits below 2^31 they are the number, of the others 2^32 less
pub error_high : (n : ℕ) → n < error_end → pos n ≡ error_of (record { 0 = n })
error_high n h = sym (to_z_pos w32 n h)

pub error_low : (n : ℕ) → error_end ≤ n → n < 2 ^ 32 → pos n -ℤ pos (2 ^ 32) ≡ error_of (record { 0 = n })
error_low n l h =
    let k = 2 ^ 32 - suc n in
    let bits : 2 ^ 32 - suc k ≡ n = omega arith in
    minus_is n (2 ^ 32) ∙ same n (2 ^ 32) 0 (suc k) (omega arith) ∙ sym (of_neg k) ∙ sym (to_z-neg w32 k (omega arith)) ∙ ap (λ (m : ℕ). error_of (record { 0 = m })) bits

-- the bits of an errorTime's number are its own, and the number of a number's bits is that number
pub error_bits : (e : ErrorTime) → e.0 < 2 ^ 32 → of_z w32 (error_of e) ≡ e.0
error_bits e h = of_z-to_z w32 e.0 (record { fits = h })

pub error_number : (z : ℤ) → mag z < error_end → error_of (record { 0 = of_z w32 z }) ≡ z
error_number z h = to_z-of_z w32 z (record { sfits = h })

-- no errorTime is larger than 2^31 in size
pub error_size : (e : ErrorTime) → nat_abs (error_of e) ≤ error_end
error_size e = by (ltb e.0 error_end) refl
  where
    by : (b : Bool) → ltb e.0 error_end ≡ b → nat_abs (sel b (pos e.0) (negsuc (2 ^ 32 - suc e.0))) ≤ error_end
    by true q = omega (arith, ltb-true e.0 error_end q)
    by false q = omega (arith, ltb-false e.0 error_end q)

-- ---- the errorTime of a number

error_within : (z : ℤ) → mag z < error_end → Some (record { 0 = of_z w32 z }) ≡ error_time_of z
unfolding error_time_of
error_within z h = if_true _ _ _ (lt-ltb _ _ h)

error_beyond : (z : ℤ) → error_end ≤ mag z → None ≡ error_time_of z
unfolding error_time_of
error_beyond z h = if_false _ _ _ (le-ltb _ _ h)

-- what holds of an errorTime with that number, and of None where the number is too large, holds of it
pub error_is : (P : Option ErrorTime → Type 0) (z : ℤ) → ((e : ErrorTime) → e.0 < 2 ^ 32 → error_of e ≡ z → P (Some e)) → (error_end ≤ mag z → P None) → P (error_time_of z)
unfolding error_time_of
error_is P z is beyond =
    if_when P (ltb (mag z) error_end)
    (λ e. let h = ltb-true (mag z) error_end e in is (record { 0 = of_z w32 z }) (bits_small z h) (error_number z h))
    (λ e. beyond (ltb-false (mag z) error_end e))
  where
    bits_small : (z : ℤ) → mag z < error_end → of_z w32 z < 2 ^ 32
    bits_small (pos n) h = omega arith
    bits_small (negsuc n) h = omega arith

-- an errorTime's number is one of its numbers
pub error_back : (e : ErrorTime) → e.0 < 2 ^ 32 → Some e ≡ error_time_of (error_of e)
error_back e h =
    (λ i. Some (record { 0 = sym (error_bits e h) i })) ∙ error_within (error_of e) (to_z-Fits w32 e.0 (record { fits = h })).sfits
