-- Numbers side by side in bytes, by a table of their widths.
use Rattle.std.specs.Prelude.{ℕ, ◌+◌, ◌^◌, ◌<◌, List, [], ◌∷◌, ◌++◌}
use Rattle.numbers.specs.Bytes.{number_at, number_bytes}

-- the bytes that the whole table takes
abbrev pub total : List ℕ → ℕ
total [] = 0
total (w ∷ ws) = w + total ws

-- the numbers of those widths that stand in s from a on
unfoldable pub parted : List ℕ → ℕ → List ℕ → List ℕ
parted [] a s = []
parted (w ∷ ws) a s = number_at s a w ∷ parted ws (a + w) s

-- the bytes of the values, each at its width, and then those of t
unfoldable pub joined : List ℕ → List ℕ → List ℕ → List ℕ
joined [] vs t = t
joined (w ∷ ws) [] t = t
joined (w ∷ ws) (v ∷ vs) t = number_bytes w v ++ joined ws vs t

-- each value fits its width, and there are as many as widths
abbrev pub Held : List ℕ → List ℕ → Type 0
Held [] [] = Unit {0}
Held [] (v ∷ vs) = ⊥
Held (w ∷ ws) [] = ⊥
Held (w ∷ ws) (v ∷ vs) = (v < 256 ^ w) × Held ws vs
