-- By what `value` ensures of the two digits.
use Rattle.hexadecimal.specs.Digit.{byte_of}
use Rattle.hexadecimal.proofs.digits.byte.Goals as goal

pub returns : goal.returns
unfolding byte_of
returns c = cc
