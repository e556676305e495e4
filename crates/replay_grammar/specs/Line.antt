-- A line of replay: its letter, what its fields say, and whether it leaves the state as it is.
use Rattle.std.specs.Prelude.{ℕ, Option, None, Bool, true, false, cond, List, length, drop, get_or, leb, eqb}
use Rattle.forms.specs.Form.{form_of}
use Rattle.forms.specs.declared.Form.{Form}
use Rattle.replay_grammar.specs.Row.{letter_s, letter_p, letter_v, letter_l, letter_o, letter_r, letter_a, letter_t, row_of}

-- the longest line that can be one, B with two frames of 128 bytes: the letter, and twice a space and 256 digits.
-- The others have at most, with every number at its 16 digits: S and P 230, V 249, L 18, O 69, R 292, A 18, C 1, T 52, D 18, F 258, W 203, E 18, K 18, H 18; X and I 35, G 18, U and N 23
abbrev pub longest_line : ℕ
longest_line = 515

-- there is a letter, and no more than any line has
unfoldable pub may_be_line : List ℕ → Bool
may_be_line s = cond (eqb (length s) 0) false (leb (length s) longest_line)

-- the letter, and what the rest says by the letter's row
abbrev pub letter_of : List ℕ → ℕ
letter_of s = get_or s 0 0

abbrev pub form_in : List ℕ → Option Form
form_in s = form_of (row_of (letter_of s)) (drop 1 s)

-- that of a text that may be none; nothing where it is none
unfoldable pub form_for : List ℕ → Option Form
form_for s = cond (may_be_line s) (form_in s) None

-- no call of this letter changes the state
unfoldable pub asks_by : ℕ → Bool
asks_by letter =
    cond (eqb letter letter_s) false
    (cond (eqb letter letter_p) false
    (cond (eqb letter letter_v) false
    (cond (eqb letter letter_l) false
    (cond (eqb letter letter_o) false
    (cond (eqb letter letter_r) false
    (cond (eqb letter letter_a) false
    (cond (eqb letter letter_t) false
    true)))))))

-- no text, or a letter that changes nothing
unfoldable pub asks : List ℕ → Bool
asks s = cond (eqb (length s) 0) true (asks_by (letter_of s))
