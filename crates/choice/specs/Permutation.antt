-- A list in another order.
use Rattle.std.specs.Prelude.{List, [], ◌∷◌, ◌++◌}

-- the first of l stands somewhere in the other list, and what stands around it is in turn the rest of l in another order
pub data Permutation {A : Type 0} : List A → List A → Type 0 where
  empty : Permutation [] []
  placed : (a : A) (l before after : List A) → Permutation l (before ++ after) → Permutation (a ∷ l) (before ++ (a ∷ after))
