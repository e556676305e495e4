use Rattle.std.proofs.Common.{◌≡◌, ◌+◌}
use Rattle.hexadecimal.specs.Search.{found_at}
use Rattle.hexadecimal.proofs.search.found.Given as goal

abbrev pub invariant-loop-k : goal.invariant-loop-k
invariant-loop-k l = found_at l.mark l.bytes (l.start + l.k) ≡ found_at l.mark l.bytes l.from
