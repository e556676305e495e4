-- The lines of replay over times alone, X, I, G, U and N, for a PTP analyser: what a line gives, and what is printed.
use Rattle.std.specs.Prelude.{ℕ, cond, List, [], ◌∷◌, eqb, ℤ, Result, Ok, Err}
use Rattle.std.specs.Int.{w16}
use Rattle.std.proofs.Common.{to_z}
use Rattle.refusals.specs.Refusals.{done, bad_line, number_of}
use Rattle.refusals.specs.declared.Refusal.{Refusal}
use Rattle.times.specs.declared.GrandTime.{GrandTime}
use Rattle.numbers.specs.Bytes.{number_at}
use Rattle.hexadecimal.specs.Character.{space, newline}
use Rattle.columns.specs.Columns.{columns_text, line1, line_time}
use Rattle.forms.specs.Form.{number_in}
use Rattle.forms.specs.declared.Form.{Form}
use Rattle.replay_grammar.specs.Row.{letter_x, letter_i, letter_g, letter_u, letter_n}
use Rattle.ptp.specs.Timestamp.{export_of, import_of}
use Rattle.ptp.specs.Scale.{gps_of, utc_of, ntp_of}
use Rattle.ptp.specs.declared.PtpSecond.{PtpSecond}
use Rattle.ptp.specs.declared.PtpTime.{PtpTime}
use Rattle.ptp.specs.Demands.{gps_count, utc_count, ntp_count}
use Rattle.ptp.specs.declared.GpsSecond.{GpsSecond}
use Rattle.ptp.specs.declared.UtcSecond.{UtcSecond}
use Rattle.ptp.specs.declared.NtpSecond.{NtpSecond}

-- ---- arguments

-- the PTP second of a line
abbrev pub second_in : Form → PtpSecond
second_in f = record { 0 = number_in f 0 }

-- its leap seconds: two bytes at the start of the line's, in two's complement
abbrev pub leap_in : List ℕ → ℤ
leap_in s = to_z w16 (number_at s 0 2)

-- ---- answers

-- a PTP time: seconds in 6 bytes, nanoseconds in 4
abbrev pub timestamp_text : PtpTime → List ℕ
timestamp_text t = columns_text (1 ∷ 0 ∷ 6 ∷ 0 ∷ 4 ∷ 0 ∷ []) (done ∷ space ∷ t.0.0 ∷ space ∷ t.1 ∷ newline ∷ [])

abbrev pub export_text : Result PtpTime Refusal → List ℕ
export_text (Ok t) = timestamp_text t
export_text (Err refusal) = line1 (number_of refusal)

abbrev pub import_text : Result GrandTime Refusal → List ℕ
import_text (Ok g) = line_time done g.0 g.1
import_text (Err refusal) = line1 (number_of refusal)

-- a second of any scale
abbrev pub second_text : ℕ → List ℕ
second_text n = columns_text (1 ∷ 0 ∷ 6 ∷ 0 ∷ []) (done ∷ space ∷ n ∷ newline ∷ [])

-- what a scale answers, by the number of its second
abbrev pub scale_text : {S : Type 0} → (S → ℕ) → Result S Refusal → List ℕ
scale_text count (Ok s) = second_text (count s)
scale_text count (Err refusal) = line1 (number_of refusal)

abbrev pub gps_text : Result GpsSecond Refusal → List ℕ
gps_text answer = scale_text gps_count answer

abbrev pub utc_text : Result UtcSecond Refusal → List ℕ
utc_text answer = scale_text utc_count answer

abbrev pub ntp_text : Result NtpSecond Refusal → List ℕ
ntp_text answer = scale_text ntp_count answer

-- the letter's call; that the line is bad where no call has the letter
unfoldable pub times_text : ℕ → Form → List ℕ
times_text letter f =
    cond (eqb letter letter_x) (export_text (export_of (record { 0 = number_in f 0; 1 = number_in f 1 })))
    (cond (eqb letter letter_i) (import_text (import_of (record { 0 = second_in f; 1 = number_in f 1 })))
    (cond (eqb letter letter_g) (gps_text (gps_of (second_in f)))
    (cond (eqb letter letter_u) (utc_text (utc_of (second_in f) (leap_in f.bytes)))
    (cond (eqb letter letter_n) (ntp_text (ntp_of (second_in f) (leap_in f.bytes)))
    (line1 bad_line)))))
