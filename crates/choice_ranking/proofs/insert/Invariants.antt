use Rattle.choice_ranking.proofs.PlaceLoops.{Inserting}
use Rattle.choice_ranking.proofs.insert.Given as goal

abbrev pub invariant-loop-held : goal.invariant-loop-held
invariant-loop-held l = Inserting l.initial.moved l.initial.ranking l.held-index l.moved l.ranking
