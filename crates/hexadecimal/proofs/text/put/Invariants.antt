use Rattle.std.proofs.Common.{◌≡◌, ◌*◌, ◌++◌, take, drop, length}
use Rattle.hexadecimal.specs.Print.{text_of}
use Rattle.hexadecimal.proofs.text.put.Given as goal

abbrev pub invariant-loop-i : goal.invariant-loop-i
invariant-loop-i l = (length l.out ≡ length l.bytes * 2) × (take (l.i * 2) l.out ++ text_of (drop l.i l.bytes) ≡ text_of l.bytes)
