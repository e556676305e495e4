-- Timestamps of a PTP analyser: the PTP time of a grand time, and the grand time of a PTP time.
use Rattle.std.specs.Prelude.{cond, ◌&&◌, ℕ, ◌^◌, ltb, Result, Ok, Err}
use Rattle.refusals.specs.Refusals.{done, out_of_range}
use Rattle.refusals.specs.Chain.{unless}
use Rattle.refusals.specs.declared.Refusal.{Refusal}
use Rattle.refusals.specs.declared.Refusal.TheVariants.{OutOfRange}
use Rattle.times.specs.Times.{second}
use Rattle.times.specs.Parts.{part_of, least_of}
use Rattle.times.specs.declared.GrandTime.{GrandTime}
use Rattle.ptp.specs.declared.PtpTime.{PtpTime}

-- the nanoseconds of a second
abbrev pub billion : ℕ
billion = 10 ^ 9

-- ---- outward

-- the nanosecond of a fraction: floor(fraction × 10^9 / 2^40)
abbrev pub nanosecond_of : ℕ → ℕ
nanosecond_of fraction = part_of billion second fraction

-- the seconds as they are
abbrev pub ptp_time_of : GrandTime → PtpTime
ptp_time_of g = record { 0 = record { 0 = g.0 }; 1 = nanosecond_of g.1 }

-- 2 for seconds or a fraction out of range
unfoldable pub export_of : GrandTime → Result PtpTime Refusal
export_of g = cond (ltb g.0 second && ltb g.1 second) (Ok (ptp_time_of g)) (Err OutOfRange)

-- the number of the refusal, by the grand time: 2 for seconds or a fraction out of range, or 0
abbrev pub export_refusal : GrandTime → ℕ
export_refusal g = unless (ltb g.0 second) out_of_range (unless (ltb g.1 second) out_of_range done)

-- ---- inward

-- the least fraction whose nanosecond this is: nanosecond × 2^40 / 10^9, rounded up; `fraction_least` says that it is the least
abbrev pub fraction_of : ℕ → ℕ
fraction_of nanosecond = least_of billion second nanosecond

abbrev pub grand_time_of : PtpTime → GrandTime
grand_time_of t = record { 0 = t.0.0; 1 = fraction_of t.1 }

-- 2 for seconds that grand time has not, or for a nanosecond that a second has not
unfoldable pub import_of : PtpTime → Result GrandTime Refusal
import_of t = cond (ltb t.0.0 second && ltb t.1 billion) (Ok (grand_time_of t)) (Err OutOfRange)

-- the number of the refusal, by the PTP time: 2 for seconds or a nanosecond out of range, or 0
abbrev pub import_refusal : PtpTime → ℕ
import_refusal t = unless (ltb t.0.0 second) out_of_range (unless (ltb t.1 billion) out_of_range done)
