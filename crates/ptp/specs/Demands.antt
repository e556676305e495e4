-- What the theorems on timestamps and scales say.
use Rattle.std.specs.Prelude.{◌≡◌, ◌⊎◌, ℕ, ◌+◌, ◌*◌, ◌<◌, ◌≤◌, ℤ, pos, ◌+ℤ◌, ◌-ℤ◌, Result}
use Rattle.std.proofs.Math.Option.{none, some}
use Rattle.refusals.specs.Answer.{answer_number, answer_value}
use Rattle.refusals.specs.declared.Refusal.{Refusal}
use Rattle.times.specs.Times.{second, units, InRange}
use Rattle.times.specs.Parts.{LeastInPart}
use Rattle.times.specs.declared.GrandTime.{GrandTime}
use Rattle.ptp.specs.Timestamp.{billion, ptp_time_of, grand_time_of}
use Rattle.ptp.specs.Scale.{seconds_end, gps_offset, ntp_offset}
use Rattle.ptp.specs.declared.PtpTime.{PtpTime}
use Rattle.ptp.specs.declared.GpsSecond.{GpsSecond}
use Rattle.ptp.specs.declared.UtcSecond.{UtcSecond}
use Rattle.ptp.specs.declared.NtpSecond.{NtpSecond}

-- ---- timestamps

-- a PTP time that Import takes: seconds that grand time has, and a nanosecond that a second has
pub record Importable (t : PtpTime) : Type 0 where
  pub seconds : t.0.0 < second
  pub nanosecond : t.1 < billion

-- each answer, with what holds just where it is given
abbrev pub ExportAnswers : GrandTime → Result PtpTime Refusal → Type 0
ExportAnswers g a =
    ((answer_number a ≡ 2) × (answer_value a ≡ none) × (InRange g → ⊥))
    ⊎ ((answer_number a ≡ 0) × (answer_value a ≡ some (ptp_time_of g)) × InRange g)

abbrev pub ImportAnswers : PtpTime → Result GrandTime Refusal → Type 0
ImportAnswers t a =
    ((answer_number a ≡ 2) × (answer_value a ≡ none) × (Importable t → ⊥))
    ⊎ ((answer_number a ≡ 0) × (answer_value a ≡ some (grand_time_of t)) × Importable t)

-- a PTP time as one number of nanoseconds
abbrev pub nanoseconds : PtpTime → ℕ
nanoseconds t = t.0.0 * billion + t.1

-- the least fraction that is exported as a nanosecond: it is, and no smaller one is
abbrev pub LeastFraction : ℕ → ℕ → Type 0
LeastFraction nanosecond fraction = LeastInPart billion second nanosecond fraction

-- a grand time that is no later than another, and less than 1,100 U earlier: that is, less than a nanosecond
abbrev pub nanosecond_units : ℕ
nanosecond_units = 1100

pub record JustBefore (earlier later : GrandTime) : Type 0 where
  pub before : units earlier ≤ units later
  pub near : units later < units earlier + nanosecond_units

-- ---- scales

-- 13 where z, the second of the scale, is none in its range; else that second, whose number `count` tells
abbrev pub SecondAnswers : {S : Type 0} → (S → ℕ) → ℤ → Result S Refusal → Type 0
SecondAnswers {S} count z a =
    ((answer_number a ≡ 13) × (answer_value a ≡ none) × ((n : ℕ) → z ≡ pos n → seconds_end ≤ n))
    ⊎ ((answer_number a ≡ 0) × ((s : S) × (answer_value a ≡ some s) × (count s < seconds_end) × (z ≡ pos (count s))))

-- 2 for the PTP second first
abbrev pub ScaleAnswers : {S : Type 0} → (S → ℕ) → ℕ → ℤ → Result S Refusal → Type 0
ScaleAnswers {S} count ptp z a =
    ((answer_number a ≡ 2) × (answer_value a ≡ none) × (seconds_end ≤ ptp))
    ⊎ ((ptp < seconds_end) × SecondAnswers count z a)

-- the number of each scale's second
abbrev pub gps_count : GpsSecond → ℕ
gps_count g = g.0

abbrev pub utc_count : UtcSecond → ℕ
utc_count u = u.0

abbrev pub ntp_count : NtpSecond → ℕ
ntp_count n = n.0

-- the inverse of each scale, over whole numbers
abbrev pub from_gps : GpsSecond → ℤ
from_gps g = pos g.0 +ℤ pos gps_offset

abbrev pub from_utc : UtcSecond → ℤ → ℤ
from_utc u leapSeconds = pos u.0 +ℤ leapSeconds

abbrev pub from_ntp : NtpSecond → ℤ → ℤ
from_ntp n leapSeconds = pos n.0 +ℤ leapSeconds -ℤ pos ntp_offset
