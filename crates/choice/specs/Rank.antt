-- How ranks are compared: a candidate's rank as two numbers, and the candidate that a rank names. No rule stands here: that the order of these numbers is that of ranks is `same_order`, and that a rank names its candidate `rank_candidate`.
use Rattle.std.specs.Prelude.{◌≡◌, Bool, cond, ◌&&◌, ℕ, ◌+◌, ◌-◌, ◌*◌, ◌/◌, ◌%◌, ◌^◌, ◌<◌, eqb, Option, Some, None}
use Rattle.choice.specs.Choose.{rank_of}
use Rattle.choice.specs.declared.Precedence.{Precedence}
use Rattle.choice.specs.declared.Candidate.{Candidate}
use Rattle.choice.specs.declared.Rank.{Rank}

-- the lower number has 56 of a rank's 120 bits
abbrev pub lower_end : ℕ
lower_end = 2 ^ 56

-- both numbers where there is no candidate: the last that has 64 bits
abbrev pub last_number : ℕ
last_number = 2 ^ 64 - 1

-- a candidate's rank: of a clock's, the bits above the lower number and those in it
unfoldable pub in_numbers : Option Candidate → Rank
in_numbers None = record { 0 = last_number; 1 = last_number }
in_numbers (Some c) =
    let rank = rank_of c.precedence c.hop c.number in record { 0 = rank / lower_end; 1 = rank % lower_end }

-- each part of a precedence has its bits
pub record PrecedenceFits (p : Precedence) : Type 0 where
  pub priority1 : p.priority1 < 2 ^ 8
  pub source : p.source < 2 ^ 8
  pub variance : p.variance < 2 ^ 16
  pub priority2 : p.priority2 < 2 ^ 8
  pub clock : p.clock < 2 ^ 64

-- and each part of a candidate
abbrev pub CandidateFits : Option Candidate → Type 0
CandidateFits None = Unit {0}
CandidateFits (Some c) = PrecedenceFits c.precedence × (c.hop < 2 ^ 8) × (c.number < 2 ^ 8)

-- r is the rank of c
pub record Ranks (r : Rank) (c : Option Candidate) : Type 0 where
  pub is : r ≡ in_numbers c
  pub fits : CandidateFits c

-- r is the rank of a candidate
abbrev pub Ranked : Rank → Type 0
Ranked r = (c : Option Candidate) × Ranks r c

-- a rank as one number, and whether two are the same
abbrev pub worth_of : Rank → ℕ
worth_of r = r.0 * 2 ^ 64 + r.1

abbrev pub same_rank_of : Rank → Rank → Bool
same_rank_of a b = eqb a.0 b.0 && eqb a.1 b.1

-- the precedence in a rank: its 40 bits above the clock, the clock's upper 24 bits, and in the lower number its 40 others
unfoldable pub precedence_at : Rank → Precedence
precedence_at r = record {
  priority1 = r.0 / 2 ^ 56;
  source = r.0 / 2 ^ 48 % 2 ^ 8;
  variance = r.0 / 2 ^ 32 % 2 ^ 16;
  priority2 = r.0 / 2 ^ 24 % 2 ^ 8;
  clock = r.0 % 2 ^ 24 * 2 ^ 40 + r.1 / 2 ^ 16;
}

-- the candidate that a rank names
unfoldable pub candidate_at : Rank → Option Candidate
candidate_at r =
    cond (eqb r.1 last_number) None (Some (record { precedence = precedence_at r; hop = r.1 / 2 ^ 8 % 2 ^ 8; number = r.1 % 2 ^ 8 }))
