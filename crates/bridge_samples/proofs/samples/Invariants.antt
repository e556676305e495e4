-- The samples are those of the number among the own clock and the first i ports.
use Rattle.std.proofs.Common.{◌≡◌, take}
use Rattle.bridge.specs.Table.{samples_at}
use Rattle.bridge_samples.proofs.samples.Given as goal

abbrev pub invariant-loop-i : goal.invariant-loop-i
invariant-loop-i l = l.samples ≡ samples_at l.number l.clock (take l.i l.ports)
