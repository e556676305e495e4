-- Hexadecimal digits of either case, and the numbers and bytes that they make.
use Rattle.std.specs.Prelude.{ℕ, ◌+◌, ◌-◌, ◌*◌, ◌%◌, Bool, true, false, cond, List, [], ◌∷◌, length, ◌==◌, nat_le, nat_lt}

-- what stands for the value of a character that is no digit
abbrev pub no_digit : ℕ
no_digit = 16

-- the characters that are digits: 0 to 9, A to F and a to f
abbrev pub digit0 : ℕ
digit0 = 48

abbrev pub digit9 : ℕ
digit9 = 57

abbrev pub capital_a : ℕ
capital_a = 65

abbrev pub capital_f : ℕ
capital_f = 70

abbrev pub small_a : ℕ
small_a = 97

abbrev pub small_f : ℕ
small_f = 102

-- the value of the first letter
abbrev pub ten : ℕ
ten = 10

-- c is one of the characters from a to b
abbrev pub within : ℕ → ℕ → ℕ → Bool
within a b c = cond (nat_le a c) (nat_le c b) false

-- the value of a digit: of 0 to 9, of A to F, of a to f
unfoldable pub value_of : ℕ → ℕ
value_of c =
    cond (within digit0 digit9 c) (c - digit0)
    (cond (within capital_a capital_f c) (c - (capital_a - ten))
    (cond (within small_a small_f c) (c - (small_a - ten)) no_digit))

abbrev pub is_digit : ℕ → Bool
is_digit c = nat_lt (value_of c) no_digit

-- every character is a digit
unfoldable pub all_digits : List ℕ → Bool
all_digits [] = true
all_digits (c ∷ s) = cond (is_digit c) (all_digits s) false

-- s is n digits
unfoldable pub exactly : ℕ → List ℕ → Bool
exactly n s = cond (length s == n) (all_digits s) false

-- the number that the digits s make where they follow those of v
unfoldable pub worth : ℕ → List ℕ → ℕ
worth v [] = v
worth v (c ∷ s) = worth (v * 16 + value_of c % 16) s

-- the byte that two digits make, and a byte for each two digits
unfoldable pub byte_of : ℕ → ℕ → ℕ
byte_of a b = value_of a % 16 * 16 + value_of b % 16

unfoldable pub pairs : List ℕ → List ℕ
pairs [] = []
pairs (a ∷ []) = []
pairs (a ∷ b ∷ s) = byte_of a b ∷ pairs s
