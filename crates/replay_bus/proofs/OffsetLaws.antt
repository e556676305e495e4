-- The three digits that are printed for an offset are its digits: read as a number, they are the offset.
use mathlib.Core.Path.{◌≡◌, ◌∙◌}
use mathlib.Core.List.{◌∷◌}
use Prim.Native.Nat.{ℕ, ◌+◌, ◌/◌, ◌%◌, ◌^◌, ◌<◌}
use native.Mathlib.Omega.{arith}
use borrow.Author.Tests.{ltb-true, ltb-false}
use lib.Dec.{ltb}
use Rattle.numbers.specs.Bytes.{number_bytes}
use Rattle.numbers.proofs.Branches.{if_when}
use Rattle.hexadecimal.specs.Digit.{ten, value_of, worth}
use Rattle.hexadecimal.specs.Print.{capital_of, text_of}
use Rattle.hexadecimal.proofs.DigitLaws.{value_decimal, value_capital}
use Rattle.replay_bus.specs.Bus.{first_digit}

-- a capital digit has the value that it is printed for
capital_value : (n : ℕ) → n < 16 → value_of (capital_of n) ≡ n
unfolding capital_of
capital_value n h =
    if_when (λ (c : ℕ). value_of c ≡ n) (ltb n ten)
    (λ e. let l = ltb-true n ten e in value_decimal (48 + n) (omega arith) (omega arith) ∙ omega arith)
    (λ e. let l = ltb-false n ten e in value_capital (55 + n) (omega arith) (omega arith) ∙ omega arith)

pub offset_digits : (offset : ℕ) → offset < 2 ^ 12 → worth 0 (first_digit offset ∷ text_of (number_bytes 1 offset)) ≡ offset
unfolding worth text_of
offset_digits o h =
    omega (arith, capital_value (o / 256 % 16) (omega arith), capital_value (o % 256 / 16) (omega arith), capital_value (o % 256 % 16) (omega arith))
