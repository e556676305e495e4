-- The ranking, made afresh from the table.
use Rattle.std.specs.Prelude.{Option, List}
use Rattle.choice.specs.Ranking.{ranking_of}
use Rattle.choice.specs.Places.{places, places_of}
use Rattle.choice.specs.declared.Candidate.{Candidate}
use Rattle.choice.specs.declared.Rank.{Rank}
use Rattle.port.specs.declared.Port.{Port}
use Rattle.bridge.specs.Table.{candidates_of}
use Rattle.bridge.specs.declared.Setup.{Setup}

-- the candidates from best to worst, own clock included
abbrev pub fresh_ranking : Setup → List Port → List (Option Candidate)
fresh_ranking setup ports = ranking_of (candidates_of setup.capable setup.own ports)

-- as it is kept
abbrev pub kept_ranking : Setup → List Port → List Rank
kept_ranking setup ports = places_of places (fresh_ranking setup ports)
