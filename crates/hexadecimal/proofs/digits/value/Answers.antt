-- Each return lies in one range of characters, or in none of them.
use Rattle.std.proofs.Common.{arith}
use Rattle.hexadecimal.proofs.DigitLaws.{value_decimal, value_capital, value_small, value_none}
use Rattle.hexadecimal.proofs.digits.value.Goals as goal
use Rattle.hexadecimal.proofs.digits.value.Goals.{Start}

pub returns-then-decimal-lt-TEN : goal.returns-then-decimal-lt-TEN
returns-then-decimal-lt-TEN c = omega (arith, value_decimal c.args.c (omega arith) (omega arith))

pub returns-then-upper-lt-LETTERS : goal.returns-then-upper-lt-LETTERS
returns-then-upper-lt-LETTERS c = omega (arith, value_capital c.args.c (omega arith) (omega arith))

pub returns-then-lower-lt-LETTERS : goal.returns-then-lower-lt-LETTERS
returns-then-lower-lt-LETTERS c = omega (arith, value_small c.args.c (omega arith) (omega arith))

pub returns : goal.returns
returns c = omega (arith, value_none c.args.c (λ h k. omega arith) (λ h k. omega arith) (λ h k. omega arith))
