-- Ranked.
use Rattle.std.specs.Prelude.{ℕ, Option}
use Rattle.choice.specs.Ranking.{ranked_at}
use Rattle.choice.specs.declared.Candidate.{Candidate}
use Rattle.bridge.specs.Ranking.{fresh_ranking}
use Rattle.bridge.specs.declared.Bridge.{Bridge}

-- the candidate at a place of the ranking made afresh: 0 the chosen one, 1 the runner-up; none behind the last
unfoldable pub ranked_of : Bridge → ℕ → Option Candidate
ranked_of b place = ranked_at (fresh_ranking b.setup b.ports) place
