use mathlib.Core.Path.{◌≡◌}
use mathlib.Core.List.{◌++◌}
use Prim.Native.Nat.{◌+◌, ◌*◌}
use lib.ListN.{length, take, drop}
use Rattle.numbers.specs.Bytes.{number_bytes}
use Rattle.hexadecimal.specs.Print.{text_of}
use Rattle.columns.proofs.put_number.Given as goal

abbrev pub invariant-loop-i : goal.invariant-loop-i
invariant-loop-i l = record {
  same_len : length l.out ≡ length l.initial.out;
  put : take l.at l.out ++ (text_of (number_bytes l.i l.rest) ++ drop (l.at + l.i * 2) l.out) ≡ take l.at l.initial.out ++ (text_of (number_bytes l.width l.value) ++ drop (l.at + l.width * 2) l.initial.out);
}
