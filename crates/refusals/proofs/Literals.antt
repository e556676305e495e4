-- The refusals' numbers are as document 01 writes them; and two tables that are as written make one.
use mathlib.Core.Path.{◌≡◌, refl, sym, ◌∙◌}
use mathlib.Core.List.{List, [], ◌∷◌, ◌++◌, map}
use Prim.Native.Nat.{ℕ}
use Rattle.refusals.specs.Literals.{Literal, AsWritten, numbers}

pub numbers_written : AsWritten numbers
unfolding numbers
numbers_written = refl

-- a table and another
pub both_written : (a b : List Literal) → AsWritten a → AsWritten b → AsWritten (a ++ b)
both_written a b p q = apart (λ (l : Literal). l.got) a ∙ (λ i. p i ++ q i) ∙ sym (apart (λ (l : Literal). l.says) a)
  where
    apart : (f : Literal → ℕ) (a : List Literal) → map f (a ++ b) ≡ map f a ++ map f b
    apart f [] = refl
    apart f (l ∷ a) = λ i. f l ∷ apart f a i
