-- The promise of each call from its equation.
use Rattle.std.proofs.Common.{◌≡◌, refl, Bool, true, false, cond, ◌&&◌, ℕ, arith, ltb, ℤ, pos, negsuc, nat_abs, Result, Ok, Err}
use Rattle.refusals.specs.Refusals.{out_of_range, beyond_range}
use Rattle.refusals.specs.Chain.{unless}
use Rattle.refusals.specs.Promises.{AnswerPromise}
use Rattle.refusals.specs.declared.Refusal.{Refusal}
use Rattle.refusals.specs.declared.Refusal.TheVariants.{OutOfRange, BeyondRange}
use Rattle.times.specs.Times.{second}
use Rattle.times.specs.declared.GrandTime.{GrandTime}
use Rattle.ptp.specs.Timestamp.{billion, ptp_time_of, export_of, export_refusal, grand_time_of, import_of, import_refusal}
use Rattle.ptp.specs.Scale.{seconds_end, second_of, scaled_of, on_scale, is_second, scale_refusal, on_gps, as_gps, gps_of, gps_refusal, gps_given, on_utc, as_utc, utc_of, utc_refusal, utc_given, on_ntp, as_ntp, ntp_of, ntp_refusal, ntp_given}
use Rattle.ptp.specs.declared.PtpSecond.{PtpSecond}
use Rattle.ptp.specs.declared.PtpTime.{PtpTime}
use Rattle.ptp.specs.declared.GpsSecond.{GpsSecond}
use Rattle.ptp.specs.declared.UtcSecond.{UtcSecond}
use Rattle.ptp.specs.declared.NtpSecond.{NtpSecond}
use Rattle.refusals.proofs.PromiseLaws.{Told, as_told}

-- ---- the number and the value of what a definition says

-- two tests, each refused with 2
two_tests : {A : Type 0} (given : A) (x y : Bool) → Told given (cond (x && y) (Ok given) (Err OutOfRange)) (unless x out_of_range (unless y out_of_range 0))
two_tests given true true = (refl, refl)
two_tests given true false = (refl, refl)
two_tests given false y = (refl, refl)

-- the second of a scale
scale_told : {S : Type 0} (as_second : ℕ → S) (ptp : ℕ) (z : ℤ) → Told (as_second (nat_abs z)) (on_scale as_second (scaled_of ptp z)) (scale_refusal ptp z)
unfolding scaled_of
scale_told as_second ptp z = by (ltb ptp seconds_end)
  where
    second_told : (z : ℤ) → Told (as_second (nat_abs z)) (on_scale as_second (second_of z)) (unless (is_second z) beyond_range 0)
    second_told (pos n) = within (ltb n seconds_end)
      where
        within : (b : Bool) → Told (as_second n) (on_scale as_second (cond b (Ok n) (Err BeyondRange))) (unless b beyond_range 0)
        within true = (refl, refl)
        within false = (refl, refl)
    second_told (negsuc n) = (refl, refl)

    by : (b : Bool) → Told (as_second (nat_abs z)) (on_scale as_second (cond b (second_of z) (Err OutOfRange))) (unless b out_of_range (unless (is_second z) beyond_range 0))
    by true = second_told z
    by false = (refl, refl)

-- where no refusal is met, the scale's second is no less than 0: its size is itself
pub second_given : (ptp : ℕ) (z : ℤ) → scale_refusal ptp z ≡ 0 → pos (nat_abs z) ≡ z
second_given ptp (pos n) e = refl
second_given ptp (negsuc n) e = absurd (by (ltb ptp seconds_end) e)
  where
    by : (b : Bool) → unless b out_of_range beyond_range ≡ 0 → ⊥
    by true q = omega (arith, q)
    by false q = omega (arith, q)

-- ---- what is handed back is as wanted, and so it is as promised

pub export_out : (g : GrandTime) {r : Result PtpTime Refusal} → r ≡ export_of g → AnswerPromise (export_of g) (export_refusal g) (ptp_time_of g) r
unfolding export_of
export_out g = as_told (ptp_time_of g) (two_tests (ptp_time_of g) (ltb g.0 second) (ltb g.1 second))

pub import_out : (t : PtpTime) {r : Result GrandTime Refusal} → r ≡ import_of t → AnswerPromise (import_of t) (import_refusal t) (grand_time_of t) r
unfolding import_of
import_out t = as_told (grand_time_of t) (two_tests (grand_time_of t) (ltb t.0.0 second) (ltb t.1 billion))

pub gps_out : (s : PtpSecond) {r : Result GpsSecond Refusal} → r ≡ gps_of s → AnswerPromise (gps_of s) (gps_refusal s) (gps_given s) r
unfolding gps_of
gps_out s = as_told (gps_given s) (scale_told as_gps s.0 (on_gps s))

pub utc_out : (s : PtpSecond) (leap : ℤ) {r : Result UtcSecond Refusal} → r ≡ utc_of s leap → AnswerPromise (utc_of s leap) (utc_refusal s leap) (utc_given s leap) r
unfolding utc_of
utc_out s leap = as_told (utc_given s leap) (scale_told as_utc s.0 (on_utc s leap))

pub ntp_out : (s : PtpSecond) (leap : ℤ) {r : Result NtpSecond Refusal} → r ≡ ntp_of s leap → AnswerPromise (ntp_of s leap) (ntp_refusal s leap) (ntp_given s leap) r
unfolding ntp_of
ntp_out s leap = as_told (ntp_given s leap) (scale_told as_ntp s.0 (on_ntp s leap))
