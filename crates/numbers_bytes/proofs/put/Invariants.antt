use mathlib.Core.Path.{◌≡◌}
use mathlib.Core.List.{◌++◌}
use lib.ListN.{length, drop}
use Rattle.numbers.specs.Bytes.{number_bytes}
use Rattle.numbers_bytes.proofs.put.Given as goal

abbrev pub invariant-loop-i : goal.invariant-loop-i
invariant-loop-i l = number_bytes l.i l.rest ++ drop l.i l.out ≡ number_bytes (length l.initial.out) l.v
