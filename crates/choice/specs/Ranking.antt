-- The ranking: the clocks among some candidates, from best to worst.
use Rattle.std.specs.Prelude.{Bool, cond, ℕ, ◌+◌, ◌<◌, ltb, eqb, get_or, Option, Some, None}
use mathlib.Core.List.{List, [], ◌∷◌, Memᴰ}
use Rattle.choice.specs.Choose.{rank_of, number_of}
use Rattle.choice.specs.Least.{rank_in}
use Rattle.choice.specs.declared.Candidate.{Candidate}

-- of two candidates the first has the lesser rank
abbrev pub is_better : Option Candidate → Option Candidate → Bool
is_better c x = ltb (rank_in c) (rank_in x)

-- a clock put in before the first that it is better than
unfoldable pub inserted_of : Option Candidate → List (Option Candidate) → List (Option Candidate)
inserted_of c [] = c ∷ []
inserted_of c (x ∷ l) = cond (is_better c x) (c ∷ (x ∷ l)) (x ∷ inserted_of c l)

-- the same of a candidate: what is none is not put in
unfoldable pub placed_of : Option Candidate → List (Option Candidate) → List (Option Candidate)
placed_of None l = l
placed_of (Some c) l = inserted_of (Some c) l

-- THE RANKING, made afresh: one candidate put in after the other
unfoldable pub ranking_of : List (Option Candidate) → List (Option Candidate)
ranking_of [] = []
ranking_of (c ∷ l) = placed_of c (ranking_of l)

-- the candidate at a place, the best at 0; none behind the last
abbrev pub ranked_at : List (Option Candidate) → ℕ → Option Candidate
ranked_at l place = get_or l place None

-- ---- what the ranking is: in order, and the clocks of the list in another order

-- from best to worst: each has a lesser rank than every one behind it
abbrev pub Ordered : List (Option Candidate) → Type 0
Ordered [] = Unit {0}
Ordered (c ∷ l) = ((x : Option Candidate) → Memᴰ x l → rank_in c < rank_in x) × Ordered l

-- what is a clock
abbrev pub IsClock : Option Candidate → Type 0
IsClock None = ⊥
IsClock (Some c) = Unit {0}

-- the clocks of a list; what is no candidate is left out
unfoldable pub clocks_in : List (Option Candidate) → List (Option Candidate)
clocks_in [] = []
clocks_in (None ∷ l) = clocks_in l
clocks_in (Some c ∷ l) = Some c ∷ clocks_in l

-- how many clocks of a list have a rank below r
abbrev pub is_below : ℕ → Option Candidate → ℕ
is_below r None = 0
is_below r (Some c) = cond (ltb (rank_of c.precedence c.hop c.number) r) 1 0

unfoldable pub how_many_below : ℕ → List (Option Candidate) → ℕ
how_many_below r [] = 0
how_many_below r (c ∷ l) = is_below r c + how_many_below r l

-- ---- one candidate changed

-- the list without what stands under a number
unfoldable pub without_number : ℕ → List (Option Candidate) → List (Option Candidate)
without_number number [] = []
without_number number (c ∷ l) = cond (eqb (number_of c) number) (without_number number l) (c ∷ without_number number l)

-- the list in which a candidate takes the place of what stood under its number
abbrev pub with_candidate : ℕ → Option Candidate → List (Option Candidate) → List (Option Candidate)
with_candidate number c l = placed_of c (without_number number l)
