use Rattle.std.proofs.Common.{◌≡◌, ◌*◌, ◌++◌, take, drop}
use Rattle.hexadecimal.specs.Digit.{pairs}
use Rattle.hexadecimal.proofs.digits.bytes.Given as goal

abbrev pub invariant-loop-i : goal.invariant-loop-i
invariant-loop-i l = take l.i l.out ++ pairs (drop (l.i * 2) l.text) ≡ pairs l.text
