-- Export and Import, one after the other: what comes back, that it is the least, and that export keeps the order.
use mathlib.Core.Path.{◌≡◌, refl, sym, ap, ◌∙◌, subst}
use mathlib.Core.Logic.{inl, inr}
use Prim.Native.Nat.{ℕ, ◌+◌, ◌*◌, ◌/◌, ◌<◌, ◌≤◌}
use native.Mathlib.Omega.{arith}
use Rattle.std.proofs.Common.{Ok}
use Rattle.times.specs.Times.{second, units, InRange}
use Rattle.times.specs.declared.GrandTime.{GrandTime}
use Rattle.ptp.specs.Timestamp.{billion, nanosecond_of, fraction_of, ptp_time_of, export_of, grand_time_of, import_of}
use Rattle.ptp.specs.Demands.{Importable, ExportAnswers, ImportAnswers, nanoseconds, LeastFraction, nanosecond_units, JustBefore}
use Rattle.ptp.specs.declared.PtpTime.{PtpTime}
use Rattle.times.proofs.PartLaws as parts
use Rattle.times.proofs.PartLaws.{part_reached, least_part, part_near, part_whole}
use Rattle.ptp.proofs.TimestampLaws.{nanosecond_lt, fraction_lt, export_at, export_answers, import_at, import_answers}

-- ---- fractions and nanoseconds

-- rounded up, a nanosecond's fraction is the least of those that are exported as it
pub fraction_least : (nanosecond : ℕ) → LeastFraction nanosecond (fraction_of nanosecond)
fraction_least = least_part billion second (omega arith) (omega arith)

-- and the only one that is the least
pub least_one : (nanosecond fraction : ℕ) → LeastFraction nanosecond fraction → fraction ≡ fraction_of nanosecond
least_one = parts.least_one billion second (omega arith) (omega arith)

-- a fraction lies less than 1,100 U after the least one of its nanosecond
fraction_near : (fraction : ℕ) → (fraction_of (nanosecond_of fraction) ≤ fraction) × (fraction < fraction_of (nanosecond_of fraction) + nanosecond_units)
fraction_near fraction = (
  part_reached billion second (omega arith) (omega arith) (nanosecond_of fraction) fraction (omega arith),
  omega (arith, part_near billion second (omega arith) (omega arith) fraction),
)

-- ---- what an answer tells

pub exported : (g : GrandTime) (t : PtpTime) → export_of g ≡ Ok t → InRange g × (ptp_time_of g ≡ t)
exported g t e = go (subst (ExportAnswers g) e (export_answers g))
  where
    go : ExportAnswers g (Ok t) → InRange g × (ptp_time_of g ≡ t)
    go (inl (q, n, f)) = absurd (omega (arith, q))
    go (inr (d, q, r)) = (r, let k : ptp_time_of g ≡ t = cc in k)

pub imported : (t : PtpTime) (g : GrandTime) → import_of t ≡ Ok g → Importable t × (grand_time_of t ≡ g)
imported t g e = go (subst (ImportAnswers t) e (import_answers t))
  where
    go : ImportAnswers t (Ok g) → Importable t × (grand_time_of t ≡ g)
    go (inl (q, n, f)) = absurd (omega (arith, q))
    go (inr (d, q, r)) = (r, let k : grand_time_of t ≡ g = cc in k)

-- ---- the theorems on both calls

-- export after import is the same second and nanosecond
pub export_import : (t : PtpTime) (g : GrandTime) → import_of t ≡ Ok g → export_of g ≡ Ok t
export_import t g e =
    let (r, q) = imported t g e in
    let range : InRange (grand_time_of t) = record { seconds = r.seconds; fraction = fraction_lt t.1 r.nanosecond } in
    ap export_of (sym q) ∙ sym (export_at (grand_time_of t) range (sym (fraction_least t.1).within))

-- import after export is never later than the original, and less than 1,100 U earlier
pub import_export : (g : GrandTime) (t : PtpTime) → export_of g ≡ Ok t → (h : GrandTime) × (import_of t ≡ Ok h) × JustBefore h g
import_export g t e =
    let (r, q) = exported g t e in
    let range : Importable (ptp_time_of g) = record { seconds = r.seconds; nanosecond = nanosecond_lt g.1 r.fraction } in
    let near = fraction_near g.1 in
    (grand_time_of (ptp_time_of g), ap import_of (sym q) ∙ sym (import_at (ptp_time_of g) range refl), record { before = omega arith; near = omega arith })

-- import gives the least: no earlier grand time is exported as the same PTP time
pub import_least : (t : PtpTime) (g h : GrandTime) → import_of t ≡ Ok g → export_of h ≡ Ok t → units g ≤ units h
import_least t g h e k =
    let (r, q) = imported t g e in
    let (s, p) = exported h t k in
    let second : h.0 ≡ g.0 = ap (λ (x : PtpTime). x.0.0) p ∙ ap (λ (x : GrandTime). x.0) q in
    let least : fraction_of t.1 ≤ h.1 = (fraction_least t.1).least h.1 (ap (λ (x : PtpTime). x.1) p) in
    let fraction : fraction_of t.1 ≡ g.1 = ap (λ (x : GrandTime). x.1) q in
    omega arith

-- the PTP time as one number is the grand time as one number, brought to nanoseconds and rounded down
pub export_whole : (g : GrandTime) → nanoseconds (ptp_time_of g) ≡ units g * billion / second
export_whole g = part_whole billion second (omega arith) (omega arith) g.0 g.1

-- a later grand time has no earlier PTP time
pub export_order : (a b : GrandTime) (s t : PtpTime) → export_of a ≡ Ok s → export_of b ≡ Ok t → units a ≤ units b → nanoseconds s ≤ nanoseconds t
export_order a b s t e k h =
    omega (arith, export_whole a, export_whole b, ap nanoseconds (exported a s e).1, ap nanoseconds (exported b t k).1, h)
