-- Numbers and their bytes, most significant first.
use Rattle.std.specs.Prelude.{ℕ, zero, suc, ◌+◌, ◌*◌, ◌/◌, ◌%◌, ◌<◌, List, [], ◌∷◌, ◌++◌, take, drop, get_or}

-- the number that the bytes xs make where they follow those of v
abbrev pub onto : ℕ → List ℕ → ℕ
onto v [] = v
onto v (x ∷ xs) = onto (v * 256 + x) xs

-- the number whose bytes are the n of s from a on
abbrev pub number_at : List ℕ → ℕ → ℕ → ℕ
number_at s a n = onto 0 (take n (drop a s))

-- the n low bytes of v
abbrev pub number_bytes : ℕ → ℕ → List ℕ
number_bytes zero v = []
number_bytes (suc n) v = number_bytes n (v / 256) ++ (v % 256 ∷ [])

-- xs with the n low bytes of v from a on
abbrev pub spliced : List ℕ → ℕ → ℕ → ℕ → List ℕ
spliced xs a n v = take a xs ++ (number_bytes n v ++ drop (a + n) xs)

-- every number of the list is a byte
abbrev pub Bytes : List ℕ → Type 0
Bytes s = (i : ℕ) → get_or s i 0 < 256
