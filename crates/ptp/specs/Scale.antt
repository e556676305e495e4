-- PTP seconds on the scales of GPS, UTC and NTP.
use Rattle.std.specs.Prelude.{Bool, false, cond, ℕ, ◌^◌, ltb, ℤ, pos, negsuc, nat_abs, ◌+ℤ◌, ◌-ℤ◌, Result, Ok, Err}
use Rattle.std.specs.Result.{result_map_both}
use Rattle.refusals.specs.Refusals.{done, out_of_range, beyond_range}
use Rattle.refusals.specs.Chain.{unless}
use Rattle.refusals.specs.declared.Refusal.{Refusal}
use Rattle.refusals.specs.declared.Refusal.TheVariants.{OutOfRange, BeyondRange}
use Rattle.ptp.specs.declared.PtpSecond.{PtpSecond}
use Rattle.ptp.specs.declared.GpsSecond.{GpsSecond}
use Rattle.ptp.specs.declared.UtcSecond.{UtcSecond}
use Rattle.ptp.specs.declared.NtpSecond.{NtpSecond}

-- where the seconds of every scale end: they have 48 bits
abbrev pub seconds_end : ℕ
seconds_end = 2 ^ 48

-- 13 for a second below zero or from 2^48 on
abbrev pub second_of : ℤ → Result ℕ Refusal
second_of (pos n) = cond (ltb n seconds_end) (Ok n) (Err BeyondRange)
second_of (negsuc n) = Err BeyondRange

-- a PTP second and its second on a scale: 2 for the one first, then 13 for the other
unfoldable pub scaled_of : ℕ → ℤ → Result ℕ Refusal
scaled_of ptp z = cond (ltb ptp seconds_end) (second_of z) (Err OutOfRange)

-- the answer with its second as one of the scale, which `as_second` makes of a number
abbrev pub on_scale : {S : Type 0} → (ℕ → S) → Result ℕ Refusal → Result S Refusal
on_scale as_second scaled = result_map_both as_second (λ refusal. refusal) scaled

-- z is a second of a scale: no less than 0, and below 2^48
abbrev pub is_second : ℤ → Bool
is_second (pos n) = ltb n seconds_end
is_second (negsuc n) = false

-- the number of the refusal, by a PTP second and its second on a scale: 2 for the one first, then 13 for the other, or 0
abbrev pub scale_refusal : ℕ → ℤ → ℕ
scale_refusal ptp z = unless (ltb ptp seconds_end) out_of_range (unless (is_second z) beyond_range done)

-- ---- GPS = PTP - 315,964,819

abbrev pub gps_offset : ℕ
gps_offset = 315964819

-- the second of the scale, before its range is looked at
abbrev pub on_gps : PtpSecond → ℤ
on_gps s = pos s.0 -ℤ pos gps_offset

abbrev pub as_gps : ℕ → GpsSecond
as_gps n = record { 0 = n }

unfoldable pub gps_of : PtpSecond → Result GpsSecond Refusal
gps_of s = on_scale as_gps (scaled_of s.0 (on_gps s))

-- the number of the refusal, and the second where there is none
abbrev pub gps_refusal : PtpSecond → ℕ
gps_refusal s = scale_refusal s.0 (on_gps s)

abbrev pub gps_given : PtpSecond → GpsSecond
gps_given s = as_gps (nat_abs (on_gps s))

-- ---- UTC = PTP - leapSeconds

-- the second of the scale, before its range is looked at
abbrev pub on_utc : PtpSecond → ℤ → ℤ
on_utc s leapSeconds = pos s.0 -ℤ leapSeconds

abbrev pub as_utc : ℕ → UtcSecond
as_utc n = record { 0 = n }

unfoldable pub utc_of : PtpSecond → ℤ → Result UtcSecond Refusal
utc_of s leapSeconds = on_scale as_utc (scaled_of s.0 (on_utc s leapSeconds))

-- the number of the refusal, and the second where there is none
abbrev pub utc_refusal : PtpSecond → ℤ → ℕ
utc_refusal s leapSeconds = scale_refusal s.0 (on_utc s leapSeconds)

abbrev pub utc_given : PtpSecond → ℤ → UtcSecond
utc_given s leapSeconds = as_utc (nat_abs (on_utc s leapSeconds))

-- ---- NTP = PTP + 2,208,988,800 - leapSeconds

abbrev pub ntp_offset : ℕ
ntp_offset = 2208988800

-- the second of the scale, before its range is looked at
abbrev pub on_ntp : PtpSecond → ℤ → ℤ
on_ntp s leapSeconds = pos s.0 +ℤ pos ntp_offset -ℤ leapSeconds

abbrev pub as_ntp : ℕ → NtpSecond
as_ntp n = record { 0 = n }

unfoldable pub ntp_of : PtpSecond → ℤ → Result NtpSecond Refusal
ntp_of s leapSeconds = on_scale as_ntp (scaled_of s.0 (on_ntp s leapSeconds))

-- the number of the refusal, and the second where there is none
abbrev pub ntp_refusal : PtpSecond → ℤ → ℕ
ntp_refusal s leapSeconds = scale_refusal s.0 (on_ntp s leapSeconds)

abbrev pub ntp_given : PtpSecond → ℤ → NtpSecond
ntp_given s leapSeconds = as_ntp (nat_abs (on_ntp s leapSeconds))
