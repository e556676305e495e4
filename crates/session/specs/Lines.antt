-- What lines one after the other lead to and print, and what is kept of a line.
use Rattle.std.specs.Prelude.{◌≡◌, cond, List, [], ◌∷◌, ◌++◌, ℕ, ◌+◌, ◌-◌, ◌<◌, ◌≤◌, eqb, length, take, drop}
use Rattle.hexadecimal.specs.Character.{newline}
use Rattle.hexadecimal.specs.Search.{found_at}
use Rattle.bridge.specs.declared.Bridge.{Bridge}
use Rattle.replay_grammar.specs.Line.{longest_line}
use Rattle.session_programs.specs.Programs.{Rules}

-- what is kept of a line: one byte more than the longest line of any program has
abbrev pub kept_bytes : ℕ
kept_bytes = longest_line + 1

-- the bytes from one place to another
abbrev pub part : List ℕ → ℕ → ℕ → List ℕ
part bytes from to = take (to - from) (drop from bytes)

-- where the first line of the bytes from a place on ends
abbrev pub line_end : List ℕ → ℕ → ℕ
line_end bytes from = found_at newline bytes from

-- the state after the lines that end in some bytes, the line that is left, and the text printed
pub record Fed : Type 0 where
  pub next : Bridge
  pub line : List ℕ
  pub text : List ℕ

-- no line ended
abbrev pub left : Bridge → List ℕ → Fed
left b line = record { next = b; line = line; text = [] }

-- a text is printed before
abbrev pub saying : List ℕ → Fed → Fed
saying text f = record { next = f.next; line = f.line; text = text ++ f.text }

-- the last line ended
abbrev pub ended : Bridge → List ℕ → Fed
ended b text = record { next = b; line = []; text = text }

-- bytes, where `line` came before them
unfoldable pub fed_of : Rules → Bridge → List ℕ → List ℕ → Fed
fed_of p b line [] = left b line
fed_of p b line (c ∷ s) =
    cond (eqb c newline) (saying (p.answer b line).text (fed_of p (p.answer b line).next [] s)) (fed_of p b (line ++ (c ∷ [])) s)

-- what is kept of a line once more of it is read
abbrev pub kept_text : List ℕ → List ℕ → List ℕ
kept_text was more = take kept_bytes (was ++ more)

-- the line that is shown to a program: what is held, or where nothing is, the line of the bytes
abbrev pub shown_of : List ℕ → List ℕ → List ℕ
shown_of [] fresh = fresh
shown_of (c ∷ held) fresh = c ∷ held

-- a line of which `kept` is kept ends in the bytes from `from` on: its newline is among them, and where nothing is kept it is empty
pub record Ends (kept bytes : List ℕ) (from : ℕ) : Type 0 where
  pub inside : line_end bytes from < length bytes
  pub empty : length kept ≡ 0 → line_end bytes from ≡ from

-- it goes on within the bytes, and fills no more than the output
pub record Within (from rest filled : ℕ) (bytes out : List ℕ) : Type 0 where
  pub onward : from ≤ rest
  pub inside : rest ≤ length bytes
  pub fits : filled ≤ length out
