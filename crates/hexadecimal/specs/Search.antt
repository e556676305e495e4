-- The search for a byte, the mark: what stands before it, and where it stands.
use Rattle.std.specs.Prelude.{ℕ, ◌+◌, Bool, true, false, cond, List, [], ◌∷◌, length, drop, ◌==◌}

-- whether the mark is among the bytes
unfoldable pub contains : ℕ → List ℕ → Bool
contains mark [] = false
contains mark (c ∷ s) = cond (c == mark) true (contains mark s)

-- the bytes before the first mark
unfoldable pub up_to : ℕ → List ℕ → List ℕ
up_to mark [] = []
up_to mark (c ∷ s) = cond (c == mark) [] (c ∷ up_to mark s)

-- where the first mark from `from` on stands, or the bytes end
abbrev pub found_at : ℕ → List ℕ → ℕ → ℕ
found_at mark bytes from = from + length (up_to mark (drop from bytes))
