-- The promise of Stamp from its equation; and two outcomes that it allows are equal.
use mathlib.Core.Path.{◌≡◌, refl, sym, ap, ◌∙◌}
use mathlib.Core.Bool.{Bool, true, false, cond, false≢true}
use Prim.Native.Nat.{ℕ}
use native.Mathlib.Omega.{arith}
use lib.Dec.{ltb, leb}
use lib.IntN.{ℤ, pos, negsuc, nat_abs}
use Rattle.std.proofs.Common.{Option, Some, None, Result, Err}
use Rattle.refusals.specs.Refusals.{done, no_clock, few_samples, beyond_range}
use Rattle.refusals.specs.Chain.{unless}
use Rattle.refusals.specs.Answer.{answer_number, answer_value}
use Rattle.refusals.specs.declared.Refusal.{Refusal}
use Rattle.refusals.specs.declared.Refusal.TheVariants.{OutOfRange, TooLate}
use Rattle.times.specs.Times.{circle, grand_end, units, grand_of, moment_of}
use Rattle.times.specs.declared.LocalTime.{LocalTime}
use Rattle.times.specs.declared.GrandTime.{GrandTime}
use Rattle.samples.specs.Keep.{ends_of}
use Rattle.samples.specs.declared.Samples.{Samples}
use Rattle.samples.specs.declared.Ends.{Ends}
use Rattle.timeline.specs.Line.{longest_reach}
use Rattle.choice.specs.declared.Candidate.{Candidate}
use Rattle.bridge.specs.Chosen.{chosen_of}
use Rattle.bridge.specs.Send.{chosen_samples}
use Rattle.bridge.specs.declared.Bridge.{Bridge}
use Rattle.recorder.specs.Stamp.{latched, too_far, stamp_as, stamp_through, stamp_by_of, stamp_of, is_clock, has_ends, distance_from, reading_from, is_grand, chosen_ends_of, stamp_refusal, stamp_given_of}
use Rattle.recorder.specs.Promises.{StampPromise}
use Rattle.refusals.proofs.PromiseLaws.{Told, test_told}
use Rattle.frame.proofs.FrameLaws.{none}

-- ---- the number and the grand time of what the definition says

-- by what is read: 13, or 0
abbrev reading_refusal : ℤ → ℕ
reading_refusal z = unless (is_grand z) beyond_range done

moment_told : (z : ℤ) → Told (grand_of (nat_abs z)) (stamp_as (moment_of z)) (reading_refusal z)
unfolding moment_of
moment_told (pos n) = by (ltb n grand_end)
  where
    by : (t : Bool) → Told (grand_of n) (stamp_as (cond t (Some (grand_of n)) None)) (unless t beyond_range done)
    by true = (refl, refl)
    by false = (refl, refl)
moment_told (negsuc n) = (refl, refl)

-- by the ends of a clock's samples: 11, 12, and the rest
abbrev ends_refusal : Option Ends → LocalTime → ℕ
ends_refusal e latch =
    unless (has_ends e) few_samples (unless (leb (nat_abs (distance_from e latch)) longest_reach) too_far (reading_refusal (reading_from e latch)))

through_told : (e : Option Ends) (latch : LocalTime) → Told (grand_of (nat_abs (reading_from e latch))) (stamp_through e latch) (ends_refusal e latch)
through_told None latch = (refl, refl)
through_told (Some e) latch =
    let z = reading_from (Some e) latch in
    test_told (grand_of (nat_abs z)) (stamp_as (moment_of z)) (Err TooLate) (moment_told z) (refl, refl) (leb (nat_abs (distance_from (Some e) latch)) longest_reach)

-- by the choice: 10, and the rest
chosen_told : (c : Option Candidate) (samples : Samples) (latch : LocalTime)
    → Told (grand_of (nat_abs (reading_from (ends_of samples) latch))) (stamp_by_of c samples latch) (unless (is_clock c) no_clock (ends_refusal (ends_of samples) latch))
chosen_told None samples latch = (refl, refl)
chosen_told (Some c) samples latch = through_told (ends_of samples) latch

-- by the latch: 2, and the rest
stamp_told : (b : Bridge) (latch : ℕ) → Told (stamp_given_of b latch) (stamp_of b latch) (stamp_refusal b latch)
unfolding stamp_of stamp_refusal stamp_given_of
stamp_told b latch =
    let t = latched latch in
    let samples = chosen_samples b in
    test_told (grand_of (nat_abs (reading_from (ends_of samples) t))) (stamp_by_of (chosen_of b) samples t) (Err OutOfRange) (chosen_told (chosen_of b) samples t) (refl, refl) (ltb latch circle)

-- where no refusal is met, the units of that grand time are the reading
pub stamp-given : (b : Bridge) (latch : ℕ) → stamp_refusal b latch ≡ 0 → pos (units (stamp_given_of b latch)) ≡ reading_from (chosen_ends_of b) (latched latch)
unfolding stamp_refusal stamp_given_of
stamp-given b latch e =
    let a = none (ltb latch circle) 1 _ e in
    let c = none (is_clock (chosen_of b)) 9 _ a.1 in
    let d = none (has_ends (chosen_ends_of b)) 10 _ c.1 in
    let f = none (leb (nat_abs (distance_from (chosen_ends_of b) (latched latch))) longest_reach) 11 _ d.1 in
    by (reading_from (chosen_ends_of b) (latched latch)) (none (is_grand (reading_from (chosen_ends_of b) (latched latch))) 12 _ f.1).0
  where
    by : (z : ℤ) → is_grand z ≡ true → pos (units (grand_of (nat_abs z))) ≡ z
    by (pos n) q = ap pos (omega arith)
    by (negsuc n) q = absurd (false≢true q)

-- ---- what is handed back is as wanted, and so it is as promised; and two outcomes

pub stamp_out : (b : Bridge) (latch : ℕ) (s : Result GrandTime Refusal) → s ≡ stamp_of b latch → StampPromise b latch s
stamp_out b latch s e =
    let told = stamp_told b latch in
    record { answer = e; number = ap answer_number e ∙ told.0; time = ap answer_value e ∙ told.1 }

pub stamp_one : (b : Bridge) (latch : ℕ) (x y : Result GrandTime Refusal) → StampPromise b latch x → StampPromise b latch y → x ≡ y
stamp_one b latch x y p q = p.answer ∙ sym q.answer
