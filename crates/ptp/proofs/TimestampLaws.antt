-- Laws of timestamps: what the shared 2^9 leaves of the two products, what lies in a nanosecond, and the answers of both calls.
use mathlib.Core.Path.{◌≡◌, refl, sym, ◌∙◌}
use mathlib.Core.Bool.{true, ◌&&◌, true≢false}
use mathlib.Core.Logic.{inl, inr}
use Prim.Native.Nat.{ℕ, ◌^◌, ◌<◌}
use native.Mathlib.Omega.{arith}
use borrow.Author.Tests.{lt-ltb, ltb-true}
use lib.Dec.{ltb}
use Rattle.std.proofs.Common.{Ok}
use Rattle.times.specs.Times.{second, InRange}
use Rattle.times.specs.Parts.{part_of, least_of}
use Rattle.times.specs.declared.GrandTime.{GrandTime}
use Rattle.ptp.specs.Timestamp.{billion, nanosecond_of, fraction_of, export_of, import_of}
use Rattle.ptp.specs.Demands.{Importable, ExportAnswers, ImportAnswers}
use Rattle.ptp.specs.declared.PtpTime.{PtpTime}
use Rattle.numbers.proofs.Branches.{if_true, if_when}
use Rattle.times.proofs.TestLaws.{both_hold}
use Rattle.times.proofs.PartLaws.{part_common, least_common, part_lt, least_lt}

-- ---- 10^9 = 1,953,125 × 2^9 and 2^40 = 2^31 × 2^9: with 2^9 taken out of both, the products have at most 61 bits

pub nanosecond_is : (fraction : ℕ) → part_of 1953125 (2 ^ 31) fraction ≡ nanosecond_of fraction
nanosecond_is = part_common 1953125 (2 ^ 31) (2 ^ 9) (omega arith)

pub fraction_is : (nanosecond : ℕ) → least_of 1953125 (2 ^ 31) nanosecond ≡ fraction_of nanosecond
fraction_is = least_common 1953125 (2 ^ 31) (2 ^ 9) (omega arith) (omega arith) (omega arith)

-- ---- what lies in a nanosecond

-- fractions of a second have nanoseconds of a second, and the other way round
pub nanosecond_lt : (fraction : ℕ) → fraction < second → nanosecond_of fraction < billion
nanosecond_lt = part_lt billion second (omega arith) (omega arith)

pub fraction_lt : (nanosecond : ℕ) → nanosecond < billion → fraction_of nanosecond < second
fraction_lt = least_lt billion second (omega arith) (omega arith)

-- ---- the answers of Export and Import

-- two tests in a row hold just where both numbers are below their ends
both_below : (a m b n : ℕ) → a < m → b < n → ltb a m && ltb b n ≡ true
both_below a m b n h k = rw (lt-ltb a m h, lt-ltb b n k)

below_both : (a m b n : ℕ) → ltb a m && ltb b n ≡ true → (a < m) × (b < n)
below_both a m b n e = let k = both_hold (ltb a m) (ltb b n) e in (ltb-true a m k.0, ltb-true b n k.1)

module _ (g : GrandTime) where
  pub export_at : {n : ℕ} → InRange g → n ≡ nanosecond_of g.1 → Ok (record { 0 = record { 0 = g.0 }; 1 = n }) ≡ export_of g
  unfolding export_of
  export_at r e = (λ i. Ok (record { 0 = record { 0 = g.0 }; 1 = e i })) ∙ if_true _ _ _ (both_below _ _ _ _ r.seconds r.fraction)

  pub export_answers : ExportAnswers g (export_of g)
  unfolding export_of
  export_answers =
      if_when (ExportAnswers g) (ltb g.0 second && ltb g.1 second)
      (λ e. let k = below_both g.0 second g.1 second e in inr (refl, refl, record { seconds = k.0; fraction = k.1 }))
      (λ e. inl (refl, refl, λ r. true≢false (sym (both_below _ _ _ _ r.seconds r.fraction) ∙ e)))

module _ (t : PtpTime) where
  pub import_at : {n : ℕ} → Importable t → n ≡ fraction_of t.1 → Ok (record { 0 = t.0.0; 1 = n }) ≡ import_of t
  unfolding import_of
  import_at r e = (λ i. Ok (record { 0 = t.0.0; 1 = e i })) ∙ if_true _ _ _ (both_below _ _ _ _ r.seconds r.nanosecond)

  pub import_answers : ImportAnswers t (import_of t)
  unfolding import_of
  import_answers =
      if_when (ImportAnswers t) (ltb t.0.0 second && ltb t.1 billion)
      (λ e. let k = below_both t.0.0 second t.1 billion e in inr (refl, refl, record { seconds = k.0; nanosecond = k.1 }))
      (λ e. inl (refl, refl, λ r. true≢false (sym (both_below _ _ _ _ r.seconds r.nanosecond) ∙ e)))
