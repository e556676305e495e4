-- Timestamps and scales at the edges: tables of cases that we chose, each with what the request's rules give.
use Rattle.std.specs.Prelude.{List, [], ◌∷◌, ℕ, ◌-◌, ◌^◌, ℤ, pos, negsuc, Result, Ok, Err}
use Rattle.refusals.specs.Edge.{Edge}
use Rattle.refusals.specs.declared.Refusal.{Refusal}
use Rattle.refusals.specs.declared.Refusal.TheVariants.{OutOfRange, BeyondRange}
use Rattle.times.specs.declared.GrandTime.{GrandTime}
use Rattle.ptp.specs.Timestamp.{export_of, import_of}
use Rattle.ptp.specs.Scale.{gps_of, utc_of, ntp_of}
use Rattle.ptp.specs.declared.PtpSecond.{PtpSecond}
use Rattle.ptp.specs.declared.PtpTime.{PtpTime}
use Rattle.ptp.specs.declared.GpsSecond.{GpsSecond}
use Rattle.ptp.specs.declared.UtcSecond.{UtcSecond}
use Rattle.ptp.specs.declared.NtpSecond.{NtpSecond}

-- ---- Export: a second and a fraction; the nanosecond

abbrev exported : ℕ → ℕ → ℕ → Edge (Result PtpTime Refusal)
exported second fraction nanosecond = record {
  got = export_of (record { 0 = second; 1 = fraction });
  says = Ok (record { 0 = record { 0 = second }; 1 = nanosecond });
}

abbrev unexported : ℕ → ℕ → Edge (Result PtpTime Refusal)
unexported second fraction = record { got = export_of (record { 0 = second; 1 = fraction }); says = Err OutOfRange }

unfoldable pub exports : List (Edge (Result PtpTime Refusal))
exports =
    exported 0 0 0
    -- the first nanosecond ends after 1,099.51 U
    ∷ exported 0 1099 0
    ∷ exported 0 1100 1
    -- the last fraction and the last second
    ∷ exported 0 (2 ^ 40 - 1) 999999999
    ∷ exported (2 ^ 40 - 1) 0 0
    ∷ unexported 0 (2 ^ 40)
    ∷ unexported (2 ^ 40) 0
    ∷ []

-- ---- Import: a second and a nanosecond; the fraction

abbrev imported : ℕ → ℕ → ℕ → Edge (Result GrandTime Refusal)
imported second nanosecond fraction = record {
  got = import_of (record { 0 = record { 0 = second }; 1 = nanosecond });
  says = Ok (record { 0 = second; 1 = fraction });
}

abbrev unimported : ℕ → ℕ → Edge (Result GrandTime Refusal)
unimported second nanosecond = record { got = import_of (record { 0 = record { 0 = second }; 1 = nanosecond }); says = Err OutOfRange }

unfoldable pub imports : List (Edge (Result GrandTime Refusal))
imports =
    imported 0 0 0
    ∷ imported 0 1 1100
    -- 1,099.51 U before the second ends, rounded up
    ∷ imported 0 999999999 (2 ^ 40 - 1099)
    ∷ imported (2 ^ 40 - 1) 0 0
    ∷ unimported 0 (10 ^ 9)
    ∷ unimported (2 ^ 40) 0
    ∷ []

-- ---- scales: a PTP second; the scale's

abbrev second : ℕ → PtpSecond
second n = record { 0 = n }

abbrev gps : ℕ → Result GpsSecond Refusal → Edge (Result GpsSecond Refusal)
gps n says = record { got = gps_of (second n); says = says }

unfoldable pub gps_edges : List (Edge (Result GpsSecond Refusal))
gps_edges =
    gps 0 (Err BeyondRange)
    ∷ gps 315964818 (Err BeyondRange)
    ∷ gps 315964819 (Ok (record { 0 = 0 }))
    ∷ gps (2 ^ 48 - 1) (Ok (record { 0 = 2 ^ 48 - 315964820 }))
    ∷ gps (2 ^ 48) (Err OutOfRange)
    ∷ []

-- leap seconds of today, the least and the most
abbrev leap : ℤ
leap = pos 37

abbrev least_leap : ℤ
least_leap = negsuc 32767

abbrev most_leap : ℤ
most_leap = pos 32767

abbrev utc : ℕ → ℤ → Result UtcSecond Refusal → Edge (Result UtcSecond Refusal)
utc n leapSeconds says = record { got = utc_of (second n) leapSeconds; says = says }

unfoldable pub utc_edges : List (Edge (Result UtcSecond Refusal))
utc_edges =
    utc 36 leap (Err BeyondRange)
    ∷ utc 37 leap (Ok (record { 0 = 0 }))
    ∷ utc (2 ^ 48 - 1) leap (Ok (record { 0 = 2 ^ 48 - 38 }))
    ∷ utc (2 ^ 48) leap (Err OutOfRange)
    ∷ utc 0 least_leap (Ok (record { 0 = 32768 }))
    ∷ utc (2 ^ 48 - 32769) least_leap (Ok (record { 0 = 2 ^ 48 - 1 }))
    ∷ utc (2 ^ 48 - 32768) least_leap (Err BeyondRange)
    ∷ utc (2 ^ 48) least_leap (Err OutOfRange)
    ∷ utc 32766 most_leap (Err BeyondRange)
    ∷ utc 32767 most_leap (Ok (record { 0 = 0 }))
    ∷ utc (2 ^ 48 - 1) most_leap (Ok (record { 0 = 2 ^ 48 - 32768 }))
    ∷ utc (2 ^ 48) most_leap (Err OutOfRange)
    ∷ []

abbrev ntp : ℕ → ℤ → Result NtpSecond Refusal → Edge (Result NtpSecond Refusal)
ntp n leapSeconds says = record { got = ntp_of (second n) leapSeconds; says = says }

unfoldable pub ntp_edges : List (Edge (Result NtpSecond Refusal))
ntp_edges =
    ntp 0 leap (Ok (record { 0 = 2208988763 }))
    ∷ ntp (2 ^ 48 - 2208988764) leap (Ok (record { 0 = 2 ^ 48 - 1 }))
    ∷ ntp (2 ^ 48 - 2208988763) leap (Err BeyondRange)
    ∷ ntp (2 ^ 48) leap (Err OutOfRange)
    ∷ ntp 0 least_leap (Ok (record { 0 = 2209021568 }))
    ∷ ntp (2 ^ 48 - 2209021569) least_leap (Ok (record { 0 = 2 ^ 48 - 1 }))
    ∷ ntp (2 ^ 48 - 2209021568) least_leap (Err BeyondRange)
    ∷ ntp 0 most_leap (Ok (record { 0 = 2208956033 }))
    ∷ ntp (2 ^ 48 - 2208956034) most_leap (Ok (record { 0 = 2 ^ 48 - 1 }))
    ∷ ntp (2 ^ 48 - 2208956033) most_leap (Err BeyondRange)
    ∷ []
