-- Chosen.
use Rattle.std.specs.Prelude.{Option, List, [], ◌∷◌, ℕ, suc}
use Rattle.choice.specs.Least.{announced_rank_of, own_rank_of, least_of}
use Rattle.choice.specs.declared.Candidate.{Candidate}
use Rattle.port.specs.declared.Port.{Port}
use Rattle.bridge.specs.Table.{choice_of}
use Rattle.bridge.specs.declared.Bridge.{Bridge}

-- the best clock of the whole state, or none
unfoldable pub chosen_of : Bridge → Option Candidate
chosen_of b = choice_of b.setup.capable b.setup.own b.ports

-- the ranks of the ports, the first of which has the number k
unfoldable pub ranks_from : ℕ → List Port → List ℕ
ranks_from k [] = []
ranks_from k (p ∷ ps) = announced_rank_of k p.announcement ∷ ranks_from (suc k) ps

-- the least (precedence, held hop, port) over the own clock, if capable, and the ports with an announcement, as one number
unfoldable pub least_rank_of : Bridge → ℕ
least_rank_of b = least_of (own_rank_of b.setup.capable b.setup.own) (ranks_from 1 b.ports)
