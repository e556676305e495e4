use mathlib.Core.Path.{◌≡◌}
use Prim.Native.Nat.{◌<◌, ◌^◌}
use lib.ListN.{drop}
use Rattle.numbers.specs.Bytes.{onto}
use Rattle.numbers_bytes.proofs.number.Given as goal

abbrev pub invariant-loop-x : goal.invariant-loop-x
invariant-loop-x l = (l.v < 256 ^ l.x-index) × (onto l.v (drop l.x-index l.s) ≡ onto 0 l.s)
