-- The choice in numbers alone: the rank of each clock that may be chosen, the least of them, and the port and the held hop that stand in it.
use Rattle.std.specs.Prelude.{Bool, cond, List, [], ◌∷◌, ℕ, ◌-◌, ◌/◌, ◌%◌, ◌^◌, ltb, Option, Some, None}
use Rattle.choice.specs.Choose.{rank_of}
use Rattle.choice.specs.declared.Precedence.{Precedence}
use Rattle.choice.specs.declared.Announcement.{Announcement}
use Rattle.choice.specs.declared.Candidate.{Candidate}

-- the rank where there is no clock: all its 15 bytes, precedence, held hop and port, are FF
abbrev pub no_rank : ℕ
no_rank = 2 ^ 120 - 1

-- the rank of a candidate as one number
abbrev pub rank_in : Option Candidate → ℕ
rank_in None = no_rank
rank_in (Some c) = rank_of c.precedence c.hop c.number

-- the rank of a port by its announcement, and of the own clock, hop 0 and port 0, of a capable station
abbrev pub announced_rank_of : ℕ → Option Announcement → ℕ
announced_rank_of port None = no_rank
announced_rank_of port (Some a) = rank_of a.precedence a.hop port

abbrev pub own_rank_of : Bool → Precedence → ℕ
own_rank_of capable own = cond capable (rank_of own 0 0) no_rank

-- the least of a rank and a list of them
unfoldable pub least_of : ℕ → List ℕ → ℕ
least_of least [] = least
least_of least (rank ∷ ranks) = least_of (cond (ltb rank least) rank least) ranks

-- the port is the last byte of a rank, the held hop the one before it
abbrev pub port_in : ℕ → ℕ
port_in rank = rank % 256

abbrev pub hop_in : ℕ → ℕ
hop_in rank = rank / 256 % 256
