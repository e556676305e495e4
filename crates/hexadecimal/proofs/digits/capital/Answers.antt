-- A digit below ten, or a letter.
use Rattle.std.proofs.Common.{arith, le-ltb, lt-ltb}
use Rattle.hexadecimal.specs.Print.{capital_of}
use Rattle.hexadecimal.proofs.digits.capital.Goals as goal

pub returns-then-n-lt-TEN : goal.returns-then-n-lt-TEN
unfolding capital_of
returns-then-n-lt-TEN c = rw (lt-ltb _ _ c.if-n-lt-TEN.true)

pub returns-else-n-lt-TEN : goal.returns-else-n-lt-TEN
unfolding capital_of
returns-else-n-lt-TEN c = rw (le-ltb _ _ c.if-n-lt-TEN.false) (omega arith)
