-- Chosen: candidates, and the better of two.
use Rattle.std.specs.Prelude.{ℕ, ◌+◌, ◌*◌, Bool, true, false, cond, ltb, Option, Some, None}
use mathlib.Core.List.{List, foldl}
use Rattle.choice.specs.Hop.{last_hop}
use Rattle.choice.specs.Precedence.{key_of}
use Rattle.choice.specs.declared.Precedence.{Precedence}
use Rattle.choice.specs.declared.Announcement.{Announcement}
use Rattle.choice.specs.declared.Candidate.{Candidate}

-- precedence, then held hop, then port, as one number; less is better
unfoldable pub rank_of : Precedence → ℕ → ℕ → ℕ
rank_of precedence hop port = key_of precedence hop * 256 + port

-- a port with an announcement, and a capable station's own clock, are candidates
unfoldable pub candidate_of : ℕ → Option Announcement → Option Candidate
candidate_of number None = None
candidate_of number (Some a) = Some (record { precedence = a.precedence; hop = a.hop; number = number })

unfoldable pub own_candidate : Bool → Precedence → Option Candidate
own_candidate true own = Some (record { precedence = own; hop = 0; number = 0 })
own_candidate false own = None

-- the better of two candidates; no candidate is worse than any
unfoldable pub better_of : Option Candidate → Option Candidate → Option Candidate
better_of None b = b
better_of (Some c) None = Some c
better_of (Some c) (Some d) =
    cond (ltb (rank_of d.precedence d.hop d.number) (rank_of c.precedence c.hop c.number)) (Some d) (Some c)

-- the best of a candidate and a list of them, compared one after the other
unfoldable pub best_of : Option Candidate → List (Option Candidate) → Option Candidate
best_of best candidates = foldl better_of best candidates

-- H of step 3
unfoldable pub chosen_hop : Option Candidate → ℕ
chosen_hop None = last_hop
chosen_hop (Some c) = c.hop

-- the number of a choice, 0 where there is none
abbrev pub number_of : Option Candidate → ℕ
number_of None = 0
number_of (Some c) = c.number

-- a choice as it is shown, by its port and its held hop: 255 and 255 where there is none
abbrev pub none_shown_of : ℕ
none_shown_of = 255

unfoldable pub shown_port : Option Candidate → ℕ
shown_port None = none_shown_of
shown_port (Some c) = c.number

unfoldable pub shown_hop : Option Candidate → ℕ
shown_hop None = none_shown_of
shown_hop (Some c) = c.hop
