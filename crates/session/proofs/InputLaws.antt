-- Laws of the end of the input: what is left of a line is answered as if a newline ended it, and an empty rest is no line.
use mathlib.Core.Path.{◌≡◌, refl, ap}
use mathlib.Core.List.{List, [], ◌∷◌, append-nil}
use Prim.Native.Nat.{ℕ, ◌<◌}
use native.Mathlib.Omega.{arith}
use lib.ListN.{length, take}
use Rattle.hexadecimal.specs.Character.{newline}
use Rattle.bridge.specs.declared.Bridge.{Bridge}
use Rattle.answer.specs.Answer.{Answer}
use Rattle.session_programs.specs.Programs.{Rules, ProgramLaws}
use Rattle.session.specs.Lines.{kept_bytes, fed_of}
use Rattle.session.specs.Input.{lines_after, rest_text}
use Rattle.session.proofs.FedLaws.{kept_answers}

-- ---- the lines of an input

-- a line that the end of the input ends is the one that a newline would
pub end_as_newline : (c : ℕ) (line : List ℕ) → lines_after (c ∷ line) [] ≡ lines_after (c ∷ line) (newline ∷ [])
unfolding lines_after
end_as_newline c line = refl

-- the empty rest after the last newline is no line, though an empty line that a newline ends is one
pub newline_last : (line : List ℕ) → lines_after line (newline ∷ []) ≡ line ∷ []
unfolding lines_after
newline_last line = refl

-- an empty input has no line
pub empty_input : lines_after [] [] ≡ []
unfolding lines_after
empty_input = refl

-- ---- what is left of a line

-- a newline ends what is left, where something is
pub newline_ends : (p : Rules) (b : Bridge) (line : List ℕ) → 0 < length line → (fed_of p b line (newline ∷ [])).text ≡ rest_text p b line
unfolding fed_of
newline_ends p b [] h = absurd (omega arith)
newline_ends p b (c ∷ line) h = append-nil (p.answer b (c ∷ line)).text

-- an empty rest prints nothing
pub no_rest : (p : Rules) (b : Bridge) (line : List ℕ) → length line ≡ 0 → [] ≡ rest_text p b line
no_rest p b [] e = refl
no_rest p b (c ∷ line) e = absurd (omega arith)

-- what is kept of the rest prints what the whole rest does
pub kept_rest : (p : Rules) → ProgramLaws p → (b : Bridge) (line : List ℕ) → rest_text p b (take kept_bytes line) ≡ rest_text p b line
kept_rest p laws b [] = refl
kept_rest p laws b (c ∷ line) = ap (λ (a : Answer). a.text) (kept_answers p laws b (c ∷ line))
