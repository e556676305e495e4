-- The order of refusals: a call's conditions one by one, each with its number, and which of these numbers is given.
use Rattle.std.specs.Prelude.{◌≡◌, List, [], ◌∷◌, ◌⊎◌, ℕ, ◌≤◌}

-- a refusal's number, and when it is given
pub record Condition : Type 1 where
  pub number : ℕ
  pub holds : Type 0

abbrev pub given : ℕ → Type 0 → Condition
given k P = record { number = k; holds = P }

-- k is the number of a condition that holds
unfoldable pub Applies : List Condition → ℕ → Type 0
Applies [] k = ⊥
Applies (c ∷ cs) k = (c.holds × (k ≡ c.number)) ⊎ Applies cs k

-- k is the lowest number that applies, or 0 where none does
abbrev pub Lowest : List Condition → ℕ → Type 0
Lowest cs k = (Applies cs k × ((j : ℕ) → Applies cs j → k ≤ j)) ⊎ (((j : ℕ) → Applies cs j → ⊥) × (k ≡ 0))

-- k is the number of the first condition in the list that holds, or 0 where none does
pub data First (k : ℕ) : List Condition → Type 1 where
  nowhere : k ≡ 0 → First k []
  here : (c : Condition) (cs : List Condition) → c.holds → k ≡ c.number → First k (c ∷ cs)
  later : (c : Condition) (cs : List Condition) → (c.holds → ⊥) → First k cs → First k (c ∷ cs)
