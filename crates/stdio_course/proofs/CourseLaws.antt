-- How a run goes on, case by case.
use mathlib.Core.Path.{◌≡◌, refl, sym, ap, ◌∙◌}
use mathlib.Core.Bool.{Bool, true, false, true≢false}
use mathlib.Core.Logic.{◌⊎◌, inl, inr, ⊎_elim}
use Prim.Native.Nat.{ℕ, zero, suc, ◌<◌, ◌≤◌}
use native.Mathlib.Omega.{arith}
use Rattle.std.proofs.Common.{Option, Some, None}
use Rattle.stdio_course.specs.declared.Course.{Course}
use Rattle.stdio_course.specs.declared.Course.TheVariants.{On, Ended, InputLost, OutputLost}
use Rattle.stdio_course.specs.Course.{course_after, reads_on, onward_after}

-- ---- after a read

-- answers that were not written
pub lost_output : (got : Option ℕ) → OutputLost ≡ course_after got false
lost_output got = refl

-- answers that were, to a read that failed, to one of no bytes, and to one of some
pub failed_read : InputLost ≡ course_after None true
failed_read = refl

pub empty_read : Ended ≡ course_after (Some 0) true
empty_read = refl

pub some_read : (n : ℕ) → 0 < n → On ≡ course_after (Some n) true
some_read zero h = absurd (omega arith)
some_read (suc n) h = refl

-- ---- within the bytes of a read

-- a turn's bytes are left behind, whether its output is lost or not
pub onward_moves : (wrote : Bool) (from rest size : ℕ) → from < size → from < rest → rest ≤ size → (from < onward_after wrote rest size) × (onward_after wrote rest size ≤ size)
onward_moves true from rest size h k l = (k, l)
onward_moves false from rest size h k l = (h, omega arith)

-- where bytes are left, the output was not lost
pub onward_wrote : (wrote : Bool) (rest size : ℕ) → onward_after wrote rest size < size → wrote ≡ true
onward_wrote true rest size h = refl
onward_wrote false rest size h = absurd (omega arith)

-- and then they go on where the turn left them
pub onward_rest : (wrote : Bool) (rest size : ℕ) → wrote ≡ true → onward_after wrote rest size ≡ rest
onward_rest wrote rest size e = ap (λ (w : Bool). onward_after w rest size) e

-- ---- at the end

-- the last write at the end of the input
pub closes : (r course : Course) (wrote : Bool) → course ≡ Ended → r ≡ course_after (Some 0) wrote → (r ≡ course) ⊎ (r ≡ OutputLost)
closes r course true e h = inl (h ∙ sym e)
closes r course false e h = inr h

-- a run whose input goes on was not closed
pub still_on : (r course : Course) → (r ≡ course) ⊎ (r ≡ OutputLost) → r ≡ On → course ≡ On
still_on r course w e = ⊎_elim (λ h. sym h ∙ e) (λ h. absurd (true≢false (ap reads_on (sym e ∙ h)))) w

-- and reads on
pub on_reads : (course : Course) → course ≡ On → reads_on course ≡ true
on_reads course e = ap reads_on e
