-- Laws of a line: its letter and its form, and which letters are Setup's.
use mathlib.Core.Path.{◌≡◌, refl, sym}
use mathlib.Core.Bool.{Bool, true, false, cond, true≢false}
use mathlib.Core.List.{List, [], ◌∷◌}
use mathlib.Core.Logic.{◌⊎◌, inl, inr}
use Prim.Native.Nat.{ℕ, ◌<◌}
use native.Mathlib.Omega.{arith}
use borrow.Author.Tests.{eqb-true, ne_eqb}
use lib.ListN.{length}
use lib.Dec.{eqb}
use Rattle.std.proofs.Common.{Some, None}
use Rattle.numbers.proofs.Branches.{if_false}
use Rattle.forms.specs.Form.{buffer_bytes}
use Rattle.forms.proofs.FormTheorem.{form_bytes}
use Rattle.forms.specs.declared.Form.{Form}
use Rattle.replay_grammar.specs.Row.{letter_s, letter_p, letter_v, letter_l, letter_o, letter_r, letter_a, letter_t}
use Rattle.replay_grammar.specs.Line.{may_be_line, letter_of, form_in, form_for, asks_by, asks}

-- a letter of Setup: S, P or V
abbrev pub SetupLetter : ℕ → Type 0
SetupLetter letter = (letter ≡ letter_s) ⊎ ((letter ≡ letter_p) ⊎ (letter ≡ letter_v))

-- of the letters that do not ask, those that are none of the others are Setup's
pub setup_letter : (letter : ℕ) → (letter ≡ letter_l → ⊥) → (letter ≡ letter_o → ⊥) → (letter ≡ letter_r → ⊥) → (letter ≡ letter_a → ⊥) → (letter ≡ letter_t → ⊥)
    → asks_by letter ≡ false → SetupLetter letter
unfolding asks_by
setup_letter letter l o r a t e =
    by (eqb letter letter_s) refl (eqb letter letter_p) refl (eqb letter letter_v) refl
    (rw (ne_eqb letter letter_l l, ne_eqb letter letter_o o, ne_eqb letter letter_r r, ne_eqb letter letter_a a, ne_eqb letter letter_t t) at e)
  where
    by : (s : Bool) → eqb letter letter_s ≡ s → (p : Bool) → eqb letter letter_p ≡ p → (v : Bool) → eqb letter letter_v ≡ v
        → cond s false (cond p false (cond v false true)) ≡ false → SetupLetter letter
    by true k p q v w n = inl (eqb-true letter letter_s k)
    by false k true q v w n = inr (inl (eqb-true letter letter_p q))
    by false k false q true w n = inr (inr (eqb-true letter letter_v w))
    by false k false q false w n = absurd (true≢false n)

-- ---- a line that has a letter and its form

pub line_some : (s : List ℕ) → may_be_line s ≡ true → 0 < length s
unfolding may_be_line
line_some [] e = absurd (true≢false (sym e))
line_some (x ∷ s) e = omega arith

-- a text that has a form has a letter
pub form_some : (s : List ℕ) {f : Form} → Some f ≡ form_for s → 0 < length s
unfolding form_for
form_some s e = by (may_be_line s) refl e
  where
    by : {f : Form} (t : Bool) → may_be_line s ≡ t → Some f ≡ cond t (form_in s) None → 0 < length s
    by true l n = line_some s l
    by false l n = absurd (cc)

-- and its bytes are as many as a form has
pub form_room : (s : List ℕ) {f : Form} → Some f ≡ form_for s → length f.bytes ≡ buffer_bytes
unfolding form_for
form_room s e = by (may_be_line s) e
  where
    by : {f : Form} (t : Bool) → Some f ≡ cond t (form_in s) None → length f.bytes ≡ buffer_bytes
    by true n = form_bytes _ _ n
    by false n = absurd (cc)

-- the letter says whether the line asks
pub asks_letter : (s : List ℕ) → 0 < length s → asks_by (letter_of s) ≡ asks s
unfolding asks
asks_letter s h = if_false _ _ _ (ne_eqb (length s) 0 (λ e. omega arith))
