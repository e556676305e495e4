use Rattle.std.proofs.Common.{◌≡◌, true, cond, drop}
use Rattle.hexadecimal.specs.Search.{contains}
use Rattle.hexadecimal.proofs.search.has.Given as goal

abbrev pub invariant-loop-b : goal.invariant-loop-b
invariant-loop-b l = cond l.met true (contains l.mark (drop l.b-index l.bytes)) ≡ contains l.mark l.bytes
