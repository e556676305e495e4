-- How a ranking is kept: at each place a rank, and behind the last clock that of none; and how one is put in and taken out there. No rule stands here: that this is the ranking of Ranking.antt are the laws of `choice/proofs/PlacesLaws.antt`.
use Rattle.std.specs.Prelude.{◌≡◌, cond, ℕ, zero, suc, ◌+◌, ◌<◌, ◌≤◌, ltb, eqb, length, take, drop, get_or, Option, None}
use mathlib.Core.List.{List, [], ◌∷◌, ◌++◌, Memᴰ}
use Rattle.choice.specs.Choose.{number_of}
use Rattle.choice.specs.Rank.{in_numbers, CandidateFits, worth_of, candidate_at}
use Rattle.choice.specs.Least.{port_in}
use Rattle.choice.specs.Ranking.{Ordered, IsClock, with_candidate}
use Rattle.choice.specs.declared.Candidate.{Candidate}
use Rattle.choice.specs.declared.Rank.{Rank}

-- one for the own clock and one for each port
abbrev pub places : ℕ
places = 9

-- the last byte of a rank is the clock's number, and this where there is none: no clock has it
abbrev pub no_number : ℕ
no_number = 255

-- the ranks at so many places
unfoldable pub places_of : ℕ → List (Option Candidate) → List Rank
places_of zero l = []
places_of (suc k) [] = in_numbers None ∷ places_of k []
places_of (suc k) (c ∷ l) = in_numbers c ∷ places_of k l

-- a rank for each place
abbrev pub Whole : List Rank → Type 0
Whole ranks = length ranks ≡ places

-- these ranks keep a ranking: clocks in order, no more than there are places, no two under one number, and each part of each with its bits
pub record Keeps (ranks : List Rank) (l : List (Option Candidate)) : Type 0 where
  pub is : ranks ≡ places_of places l
  pub ordered : Ordered l
  pub within : length l ≤ places
  pub once : (x y : Option Candidate) → Memᴰ x l → Memᴰ y l → number_of x ≡ number_of y → x ≡ y
  pub clocks : (x : Option Candidate) → Memᴰ x l → IsClock x
  pub fits : (x : Option Candidate) → Memᴰ x l → CandidateFits x

-- these ranks keep some ranking
abbrev pub Kept : List Rank → Type 0
Kept ranks = (l : List (Option Candidate)) × Keeps ranks l

-- the rank at a place, that of none beyond the last
abbrev pub rank_at : List Rank → ℕ → Rank
rank_at ranks place = get_or ranks place (in_numbers None)

-- the candidate at a place, none beyond the last
unfoldable pub candidate_in : List Rank → ℕ → Option Candidate
candidate_in ranks place = cond (ltb place places) (candidate_at (rank_at ranks place)) None

-- the place of the clock with a number, which stands in the last byte of its rank; as many as there are places where it has none
unfoldable pub place_in : ℕ → List Rank → ℕ
place_in number [] = 0
place_in number (r ∷ l) = cond (eqb (port_in r.1) number) 0 (suc (place_in number l))

-- without a place: those behind it move one place up, and the last is free
unfoldable pub closed_at_of : ℕ → List Rank → List Rank
closed_at_of place ranks = take place ranks ++ (drop (place + 1) ranks ++ (in_numbers None ∷ []))

-- with a rank more, before the first that is greater: that one and those behind it move one place down, and the last goes
unfoldable pub inserted_in : Rank → List Rank → List Rank
inserted_in rank [] = []
inserted_in rank (r ∷ l) = cond (ltb (worth_of rank) (worth_of r)) (rank ∷ inserted_in r l) (r ∷ inserted_in rank l)

-- a candidate takes the place of what stood under its number, in whichever ranking is kept
abbrev pub Updates : ℕ → Option Candidate → List Rank → List Rank → Type 0
Updates number c before after = (l : List (Option Candidate)) → Keeps before l → number < no_number → after ≡ places_of places (with_candidate number c l)
