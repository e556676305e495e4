-- What a whole input prints: its lines by document 01, and what the end of the input adds to those that ended before it.
use Rattle.std.specs.Prelude.{◌≡◌, cond, List, [], ◌∷◌, ◌++◌, ℕ, eqb}
use Rattle.hexadecimal.specs.Character.{newline}
use Rattle.bridge.specs.declared.Bridge.{Bridge}
use Rattle.session_programs.specs.Programs.{Rules}
use Rattle.session.specs.declared.Session.{Session}
use Rattle.session.specs.Lines.{fed_of}
use Rattle.session.specs.Session.{line_of, Leaves}

-- ---- document 01's words

-- the lines that the end of the input ends: an empty rest is no line
abbrev pub rest_lines : List ℕ → List (List ℕ)
rest_lines [] = []
rest_lines (c ∷ rest) = (c ∷ rest) ∷ []

-- the lines of an input of which `line` came before: each is ended by a newline or by the end of the input
unfoldable pub lines_after : List ℕ → List ℕ → List (List ℕ)
lines_after line [] = rest_lines line
lines_after line (c ∷ s) = cond (eqb c newline) (line ∷ lines_after [] s) (lines_after (line ++ (c ∷ [])) s)

-- what lines print, each in the state that the one before it leaves
unfoldable pub lines_text : Rules → Bridge → List (List ℕ) → List ℕ
lines_text p b [] = []
lines_text p b (line ∷ lines) = (p.answer b line).text ++ lines_text p (p.answer b line).next lines

-- ---- as it is read

-- what the end of the input prints for what is left of a line
abbrev pub rest_text : Rules → Bridge → List ℕ → List ℕ
rest_text p b [] = []
rest_text p b (c ∷ rest) = (p.answer b (c ∷ rest)).text

-- a piece of the input, with the session that it leaves and what it prints
pub record Piece : Type 0 where
  pub bytes : List ℕ
  pub after : Session
  pub text : List ℕ

-- the bytes of all the pieces
abbrev pub input_of : List Piece → List ℕ
input_of [] = []
input_of (piece ∷ pieces) = piece.bytes ++ input_of pieces

-- what they print
abbrev pub printed_of : List Piece → List ℕ
printed_of [] = []
printed_of (piece ∷ pieces) = piece.text ++ printed_of pieces

-- the session that the last one leaves
abbrev pub session_after : Session → List Piece → Session
session_after s [] = s
session_after s (piece ∷ pieces) = session_after piece.after pieces

-- a piece that is read where a session stands: the session that it leaves, and what it prints
pub record Reads (p : Rules) (s : Session) (piece : Piece) : Type 0 where
  pub leaves : Leaves (fed_of p s.bridge (line_of s) piece.bytes) piece.after
  pub prints : piece.text ≡ (fed_of p s.bridge (line_of s) piece.bytes).text

-- pieces one after the other, each where the one before it leaves the session
unfoldable pub ReadAll : Rules → Session → List Piece → Type 0
ReadAll p s [] = Unit {0}
ReadAll p s (piece ∷ pieces) = Reads p s piece × ReadAll p piece.after pieces
