use Rattle.std.proofs.Common.{◌≡◌, ◌^◌, ◌<◌, drop}
use Rattle.hexadecimal.specs.Digit.{worth}
use Rattle.hexadecimal.proofs.digits.number.Given as goal

abbrev pub invariant-loop-c : goal.invariant-loop-c
invariant-loop-c l = (l.v < 16 ^ l.c-index) × (worth l.v (drop l.c-index l.text) ≡ worth 0 l.text)
