use Rattle.std.proofs.Common.{◌≡◌, false, cond, ltb, drop}
use Rattle.hexadecimal.specs.Digit.{no_digit, all_digits}
use Rattle.hexadecimal.proofs.digits.all.Given as goal

abbrev pub invariant-loop-c : goal.invariant-loop-c
invariant-loop-c l = cond (ltb l.greatest no_digit) (all_digits (drop l.c-index l.text)) false ≡ all_digits l.text
