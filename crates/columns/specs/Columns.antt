-- A line of text by columns: numbers as number_bytes, and single characters.
use Rattle.std.specs.Prelude.{ℕ, zero, suc, ◌+◌, ◌*◌, ◌%◌, ◌≤◌, ◌≡◌, List, [], ◌∷◌, ◌++◌, length, drop}
use Rattle.hexadecimal.specs.Character.{space, newline, no_bytes_mark}
use Rattle.numbers.specs.Bytes.{number_bytes}
use Rattle.hexadecimal.specs.Print.{text_of}

-- the most bytes on a line
abbrev pub most_bytes : ℕ
most_bytes = 128

-- the longest line: an answer, a space, that many bytes as number_bytes, a newline
abbrev pub longest_answer : ℕ
longest_answer = 260

-- ---- columns

-- the w low bytes of v as number_bytes; at the width 0 the character v itself
unfoldable pub column_text : ℕ → ℕ → List ℕ
column_text zero v = v % 256 ∷ []
column_text (suc w) v = text_of (number_bytes (suc w) v)

-- the columns of those widths and values, up to the end of the shorter list
unfoldable pub columns_text : List ℕ → List ℕ → List ℕ
columns_text [] vs = []
columns_text (w ∷ ws) [] = []
columns_text (w ∷ ws) (v ∷ vs) = column_text w v ++ columns_text ws vs

-- how many characters a column of that width takes
abbrev pub column_room : ℕ → ℕ
column_room zero = 1
column_room (suc w) = suc w * 2

-- how many characters columns of those widths take
abbrev pub room : List ℕ → ℕ
room [] = 0
room (w ∷ ws) = column_room w + room ws

-- ---- bytes

-- bytes, or the mark of none
abbrev pub bytes_text : List ℕ → List ℕ
bytes_text [] = no_bytes_mark ∷ []
bytes_text (x ∷ xs) = text_of (x ∷ xs)

unfoldable pub bytes_line : List ℕ → List ℕ
bytes_line bytes = bytes_text bytes ++ (newline ∷ [])

-- ---- lines of one byte, of two, of three, and of one byte and then bytes or a grand time

abbrev pub line1 : ℕ → List ℕ
line1 a = columns_text (1 ∷ 0 ∷ []) (a ∷ newline ∷ [])

abbrev pub line2 : ℕ → ℕ → List ℕ
line2 a b = columns_text (1 ∷ 0 ∷ 1 ∷ 0 ∷ []) (a ∷ space ∷ b ∷ newline ∷ [])

abbrev pub line3 : ℕ → ℕ → ℕ → List ℕ
line3 a b c = columns_text (1 ∷ 0 ∷ 1 ∷ 0 ∷ 1 ∷ 0 ∷ []) (a ∷ space ∷ b ∷ space ∷ c ∷ newline ∷ [])

abbrev pub line_with : ℕ → List ℕ → List ℕ
line_with a bytes = columns_text (1 ∷ 0 ∷ []) (a ∷ space ∷ []) ++ bytes_line bytes

-- seconds and fraction have 40 bits each
abbrev pub line_time : ℕ → ℕ → ℕ → List ℕ
line_time a seconds fraction = columns_text (1 ∷ 0 ∷ 5 ∷ 5 ∷ 0 ∷ []) (a ∷ space ∷ seconds ∷ fraction ∷ newline ∷ [])

-- ---- what a function that prints promises

-- the text stands at the start of the output, whose rest is as it was
pub record Prints (text : List ℕ) (len : ℕ) (was left : List ℕ) : Type 0 where
  pub size : len ≡ length text
  pub bytes : left ≡ text ++ drop (length text) was
  pub fits : len ≤ longest_answer
