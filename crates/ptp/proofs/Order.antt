-- The order of refusals of Export, Import and the scales: the number given is the lowest that applies.
use Rattle.std.proofs.Common.{◌≡◌, refl, ap, [], ◌∷◌, ℕ, ◌^◌, ◌≤◌, arith, ℤ, pos, negsuc, nat_abs, ◌+ℤ◌, ◌-ℤ◌, Result, Ok, Err}
use Rattle.refusals.specs.Answer.{answer_number}
use Rattle.refusals.specs.Order.{given, Lowest, First, nowhere, here}
use Rattle.refusals.specs.declared.Refusal.{Refusal}
use Rattle.refusals.specs.declared.Refusal.TheVariants.{OutOfRange}
use Rattle.times.specs.declared.GrandTime.{GrandTime}
use Rattle.ptp.specs.Timestamp.{ptp_time_of, export_of, grand_time_of, import_of}
use Rattle.ptp.specs.Scale.{second_of, scaled_of, on_scale, as_gps, gps_of, as_utc, utc_of, as_ntp, ntp_of}
use Rattle.ptp.specs.Order.{export_conditions, import_conditions, scale_conditions}
use Rattle.ptp.specs.declared.PtpTime.{PtpTime}
use Rattle.ptp.specs.declared.PtpSecond.{PtpSecond}
use Rattle.refusals.proofs.Order.{first_lowest, same_number, less_fails, fails_same, first_else, check, check_both, checked}

-- ---- timestamps

-- 2 where a condition holds, and else none
pub export_lowest : (g : GrandTime) → Lowest (export_conditions g) (answer_number (export_of g))
unfolding export_of
export_lowest g =
    first_lowest 1 refl
    (checked answer_number (Ok (ptp_time_of g)) (Err OutOfRange) refl refl (check_both (less_fails g.0 (2 ^ 40)) (check (less_fails g.1 (2 ^ 40)))))

pub import_lowest : (t : PtpTime) → Lowest (import_conditions t) (answer_number (import_of t))
unfolding import_of
import_lowest t =
    first_lowest 1 refl
    (checked answer_number (Ok (grand_time_of t)) (Err OutOfRange) refl refl (check_both (less_fails t.0.0 (2 ^ 40)) (check (less_fails t.1 (10 ^ 9)))))

-- ---- scales

-- 13 by the second of the scale
second_order : (z : ℤ) → First (answer_number (second_of z)) (given 13 ((n : ℕ) → z ≡ pos n → 2 ^ 48 ≤ n) ∷ [])
second_order (pos m) =
    first_else answer_number (fails_same (λ h n e. omega (arith, h, ap nat_abs e)) (λ h. h m refl) (less_fails m (2 ^ 48))) (λ _. nowhere refl)
second_order (negsuc m) =
    let below : (n : ℕ) → negsuc m ≡ pos n → 2 ^ 48 ≤ n = λ n e. let z : ◌≡◌ {A = ℕ} 0 1 = cc in absurd (omega arith) in
    here _ _ below refl

-- 2 for the PTP second first
scaled_order : (ptp : ℕ) (z : ℤ) → First (answer_number (scaled_of ptp z)) (scale_conditions ptp z)
unfolding scaled_of
scaled_order ptp z = first_else answer_number (less_fails ptp (2 ^ 48)) (λ _. second_order z)

-- each scale's number is that of its second
module _ {S : Type 0} (as_second : ℕ → S) where
  scale_number : (scaled : Result ℕ Refusal) → answer_number scaled ≡ answer_number (on_scale as_second scaled)
  scale_number (Ok n) = refl
  scale_number (Err refusal) = refl

  scale_lowest : (ptp : ℕ) (z : ℤ) → Lowest (scale_conditions ptp z) (answer_number (on_scale as_second (scaled_of ptp z)))
  scale_lowest ptp z = first_lowest 1 refl (same_number (scale_number (scaled_of ptp z)) (scaled_order ptp z))

-- GPS = PTP - 315,964,819, UTC = PTP - leapSeconds, NTP = PTP + 2,208,988,800 - leapSeconds
pub gps_lowest : (s : PtpSecond) → Lowest (scale_conditions s.0 (pos s.0 -ℤ pos 315964819)) (answer_number (gps_of s))
unfolding gps_of
gps_lowest s = scale_lowest as_gps s.0 (pos s.0 -ℤ pos 315964819)

pub utc_lowest : (s : PtpSecond) (leapSeconds : ℤ) → Lowest (scale_conditions s.0 (pos s.0 -ℤ leapSeconds)) (answer_number (utc_of s leapSeconds))
unfolding utc_of
utc_lowest s leapSeconds = scale_lowest as_utc s.0 (pos s.0 -ℤ leapSeconds)

pub ntp_lowest : (s : PtpSecond) (leapSeconds : ℤ) → Lowest (scale_conditions s.0 (pos s.0 +ℤ pos 2208988800 -ℤ leapSeconds)) (answer_number (ntp_of s leapSeconds))
unfolding ntp_of
ntp_lowest s leapSeconds = scale_lowest as_ntp s.0 (pos s.0 +ℤ pos 2208988800 -ℤ leapSeconds)
