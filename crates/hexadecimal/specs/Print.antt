-- Bytes as text: two capital digits each.
use Rattle.std.specs.Prelude.{ℕ, ◌+◌, ◌-◌, ◌*◌, ◌/◌, ◌%◌, cond, List, [], ◌∷◌, ◌++◌, length, take, drop, nat_lt, slice_set}
use Rattle.hexadecimal.specs.Digit.{digit0, capital_a, ten}

-- the capital digit of a number below 16
unfoldable pub capital_of : ℕ → ℕ
capital_of n = cond (nat_lt n ten) (digit0 + n) (capital_a - ten + n)

-- two digits for each byte
unfoldable pub text_of : List ℕ → List ℕ
text_of [] = []
text_of (b ∷ s) = capital_of (b / 16) ∷ capital_of (b % 16) ∷ text_of s

-- xs with the digits of b from `at` on
unfoldable pub with_byte_of : List ℕ → ℕ → ℕ → List ℕ
with_byte_of xs at b = slice_set (slice_set xs at (capital_of (b / 16))) (at + 1) (capital_of (b % 16))

-- xs with the digits of the bytes from `at` on
abbrev pub with_text : List ℕ → ℕ → List ℕ → List ℕ
with_text xs at bytes = take at xs ++ (text_of bytes ++ drop (at + length bytes * 2) xs)
