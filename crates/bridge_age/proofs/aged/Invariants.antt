-- The records below i are aged, the others are as they were.
use Rattle.bridge.proofs.StateLaws.{Stored, ages_by}
use Rattle.bridge_age.proofs.aged.Given as goal

abbrev pub invariant-loop-i : goal.invariant-loop-i
invariant-loop-i l = Stored (ages_by l.fn.b l.at) l.fn.b l.i l.b
