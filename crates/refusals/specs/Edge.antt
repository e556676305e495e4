-- A table of cases: what the definitions give, and what the rule in words does.
use Rattle.std.specs.Prelude.{◌≡◌, List, map}

pub record Edge (A : Type 0) : Type 0 where
  pub got : A
  pub says : A

abbrev pub Holds : {A : Type 0} → List (Edge A) → Type 0
Holds {A} edges = map (λ (e : Edge A). e.got) edges ≡ map (λ (e : Edge A). e.says) edges
