-- Comparing in any order and grouping.
use Rattle.std.specs.Prelude.{◌≡◌, ◌⊎◌, ◌<◌, Option, None}
use mathlib.Core.List.{List, [], ◌∷◌, ◌++◌, Memᴰ}
use Rattle.choice.specs.Precedence.{precedence_of}
use Rattle.choice.specs.Choose.{better_of}
use Rattle.choice.specs.Permutation.{Permutation}
use Rattle.choice.specs.declared.Candidate.{Candidate}

-- (precedence, held hop, port), compared in this order: the first clock is less than the second
abbrev pub Before : Candidate → Candidate → Type 0
Before c d =
    (precedence_of c.precedence < precedence_of d.precedence)
    ⊎ ((precedence_of c.precedence ≡ precedence_of d.precedence) × ((c.hop < d.hop) ⊎ ((c.hop ≡ d.hop) × (c.number < d.number))))

-- a way to compare: one by itself, or the winners of two parts that are compared first
pub data Comparison (A : Type 0) : Type 0 where
  single : A → Comparison A
  winners : Comparison A → Comparison A → Comparison A

-- what is compared, from left to right
unfoldable pub compared_in : {A : Type 0} → Comparison A → List A
compared_in (single a) = a ∷ []
compared_in (winners x y) = compared_in x ++ compared_in y

-- who wins, each being the candidate that `candidate` gives
unfoldable pub outcome_of : {A : Type 0} → (A → Option Candidate) → Comparison A → Option Candidate
outcome_of candidate (single a) = candidate a
outcome_of candidate (winners x y) = better_of (outcome_of candidate x) (outcome_of candidate y)

-- each of a list is compared once, but for such as are no candidate, which may be left out
pub record ComparesEach {A : Type 0} (candidate : A → Option Candidate) (all : List A) (way : Comparison A) : Type 0 where
  pub left_out : List A
  pub once : Permutation all (compared_in way ++ left_out)
  pub none : (a : A) → Memᴰ a left_out → candidate a ≡ None
