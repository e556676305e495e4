-- When Export, Import and the scales refuse: each condition by itself, with its number.
use Rattle.std.specs.Prelude.{◌≡◌, List, [], ◌∷◌, ℕ, ◌^◌, ◌≤◌, ℤ, pos}
use Rattle.refusals.specs.Order.{Condition, given}
use Rattle.times.specs.declared.GrandTime.{GrandTime}
use Rattle.ptp.specs.declared.PtpTime.{PtpTime}

-- Export: seconds or fraction at or above 2^40
abbrev pub export_conditions : GrandTime → List Condition
export_conditions g = given 2 (2 ^ 40 ≤ g.0) ∷ given 2 (2 ^ 40 ≤ g.1) ∷ []

-- Import: seconds at or above 2^40, nanoseconds at or above 10^9
abbrev pub import_conditions : PtpTime → List Condition
import_conditions t = given 2 (2 ^ 40 ≤ t.0.0) ∷ given 2 (10 ^ 9 ≤ t.1) ∷ []

-- a scale, by the PTP second and by z, the second of the scale: the one at or above 2^48, the other below zero or at or above 2^48
abbrev pub scale_conditions : ℕ → ℤ → List Condition
scale_conditions ptp z = given 2 (2 ^ 48 ≤ ptp) ∷ given 13 ((n : ℕ) → z ≡ pos n → 2 ^ 48 ≤ n) ∷ []
