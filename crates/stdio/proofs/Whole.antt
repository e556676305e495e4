-- However reads cut the input: what the bytes of all of them lead to and print, up to its end.
use mathlib.Core.Path.{◌≡◌, refl, sym, ap, ◌∙◌, subst}
use mathlib.Core.Bool.{Bool, true, false, true≢false}
use mathlib.Core.Logic.{◌⊎◌, ⊎_elim}
use mathlib.Core.List.{List, [], ◌++◌}
use Prim.Native.Nat.{ℕ, zero, suc}
use lib.ListN.{take}
use Rattle.std.proofs.Common.{Option, Some, None, unwrap_or, ◌≤◌, arith}
use Rattle.std.specs.Prelude.{IfSome}
use Rattle.std.specs.Io.KnownBytes.{Appends, Consumes, IsAtEnd}
use Rattle.std.proofs.KnownBytes.{Appends-nil, Appends-trans, Consumes-nil, Consumes-trans, Consumes-whole}
use Rattle.session_programs.specs.Programs.{Rules, ProgramLaws}
use Rattle.session.specs.declared.Session.{Session}
use Rattle.session.specs.Lines.{fed_of}
use Rattle.session.specs.Input.{lines_after, lines_text, rest_text}
use Rattle.session.specs.Session.{line_of, Ready, Leaves}
use Rattle.session.proofs.InputLaws.{kept_rest}
use Rattle.session.proofs.TwoReads.{two_reads, turns_none}
use Rattle.session.proofs.WholeInput.{fed_lines}
use Rattle.stdio_course.specs.declared.Course.{Course}
use Rattle.stdio_course.specs.declared.Course.TheVariants.{On, Ended, InputLost, OutputLost}
use Rattle.stdio_course.specs.Course.{course_after, reads_on}
use Rattle.stdio.specs.Run.{Gave, Answered}

-- ---- how a run goes on

-- it has lost nothing
abbrev pub going : Course → Bool
going On = true
going Ended = true
going InputLost = false
going OutputLost = false

pub on_of : (course : Course) → reads_on course ≡ true → course ≡ On
on_of On e = refl
on_of Ended e = absurd (true≢false (sym e))
on_of InputLost e = absurd (true≢false (sym e))
on_of OutputLost e = absurd (true≢false (sym e))

on_not_ended : On ≡ Ended → ⊥
on_not_ended e = true≢false (ap reads_on e)

-- a run that was closed at the end of the input had come there
pub was_ended : (r course : Course) → (r ≡ course) ⊎ (r ≡ OutputLost) → r ≡ Ended → course ≡ Ended
was_ended r course w e = ⊎_elim (λ h. sym h ∙ e) (λ h. absurd (true≢false (ap going (sym e ∙ h)))) w

-- a read that ends the input gives no bytes
ended_none : (m : ℕ) → course_after (Some m) true ≡ Ended → m ≡ 0
ended_none zero e = refl
ended_none (suc m) e = absurd (on_not_ended e)

-- ---- what was read

-- the bytes that were read, the session that they lead to, and what they print, which is what was written; after a read that ends the input there are no others
pub record Told (p : Rules) (s₀ : Session) (had held : Option (List ℕ)) (course : Course) (s : Session) (has holds : Option (List ℕ)) : Type 0 where
  pub done : List ℕ
  pub read : Consumes had has done
  pub leaves : Leaves (fed_of p s₀.bridge (line_of s₀) done) s
  pub wrote : Appends held holds (fed_of p s₀.bridge (line_of s₀) done).text
  pub at_end : course ≡ Ended → IsAtEnd has

-- before the first read
pub told_none : (p : Rules) (s : Session) (had held : Option (List ℕ)) → Ready s → Told p s had held On s had held
unfolding fed_of
told_none p s had held r = record {
  done = [];
  read = Consumes-nil had;
  leaves = turns_none p s [] r;
  wrote = Appends-nil held;
  at_end = λ e. absurd (on_not_ended e);
}

-- no more bytes of a buffer are answered than a read gave
pub read_within : (got : Option ℕ) (k n : ℕ) → k ≡ unwrap_or got 0 → IfSome got (λ m. m ≤ n) → k ≤ n
read_within None k n e w = omega arith
read_within (Some m) k n e w = omega (arith, w)

-- one read more, what it gave being answered, or its output lost
pub told_more : (p : Rules) → ProgramLaws p → (s₀ : Session) (had held : Option (List ℕ)) (s : Session) (has holds : Option (List ℕ)) (got : Option ℕ) (k : ℕ) (wrote : Bool) (s₁ : Session) (bytes : List ℕ) (has₁ holds₁ : Option (List ℕ))
    → k ≡ unwrap_or got 0 → Told p s₀ had held On s has holds → Gave got has has₁ bytes
    → (wrote ≡ true → Leaves (fed_of p s.bridge (line_of s) (take k bytes)) s₁)
    → (wrote ≡ true → Appends holds holds₁ (fed_of p s.bridge (line_of s) (take k bytes)).text)
    → going (course_after got wrote) ≡ true → Told p s₀ had held (course_after got wrote) s₁ has₁ holds₁
told_more p laws s₀ had held s has holds got k false s₁ bytes has₁ holds₁ f t g l w e = absurd (true≢false (sym e))
told_more p laws s₀ had held s has holds None k true s₁ bytes has₁ holds₁ f t g l w e = absurd (true≢false (sym e))
told_more p laws s₀ had held s has holds (Some m) k true s₁ bytes has₁ holds₁ f t g l w e =
    let leaves = l refl in
    let both = two_reads p laws s₀.bridge (line_of s₀) t.done (take k bytes) _ _ s s₁ t.leaves refl leaves refl in record {
      done = t.done ++ take k bytes;
      read = Consumes-trans _ _ _ _ _ t.read (rw f g.0);
      leaves = both.0;
      wrote = subst (λ (x : List ℕ). Appends held holds₁ x) both.1 (Appends-trans _ _ _ _ _ t.wrote (w refl));
      at_end = λ z. g.1 (ended_none m z);
    }

-- at the end of the input, with what is left of a line: the whole of it is answered
pub told_whole : (p : Rules) → ProgramLaws p → (s₀ : Session) (had held : Option (List ℕ)) (s : Session) (has holds holds₁ : Option (List ℕ)) → s₀.bridge ≡ p.start → line_of s₀ ≡ []
    → Told p s₀ had held Ended s has holds → Appends holds holds₁ (rest_text p s.bridge (line_of s)) → Answered p had held holds₁
told_whole p laws s₀ had held s has holds holds₁ first none t w =
    let f = fed_of p s₀.bridge (line_of s₀) t.done in
    let rest = (λ i. rest_text p (t.leaves.next i) (t.leaves.line i)) ∙ kept_rest p laws f.next f.line in
    let text =
    ap (λ (x : List ℕ). f.text ++ x) rest ∙ fed_lines p t.done (line_of s₀) s₀.bridge ∙ (λ i. lines_text p (first i) (lines_after (none i) t.done)) in
    Consumes-whole had has t.done (λ (xs : List ℕ). Appends held holds₁ (lines_text p p.start (lines_after [] xs))) t.read (t.at_end refl)
    (subst (λ (x : List ℕ). Appends held holds₁ x) text (Appends-trans _ _ _ _ _ t.wrote w))
