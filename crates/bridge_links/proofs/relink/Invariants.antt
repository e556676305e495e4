-- The records below i are those of the new links, the others are as they were.
use Rattle.bridge.proofs.StateLaws.{Stored, relinks_by}
use Rattle.bridge_links.proofs.relink.Given as goal

abbrev pub invariant-loop-i : goal.invariant-loop-i
invariant-loop-i l = Stored (relinks_by l.fn.b l.mask) l.fn.b l.i l.b
