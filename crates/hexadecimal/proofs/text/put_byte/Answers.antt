-- Two stores.
use Rattle.hexadecimal.specs.Print.{with_byte_of}
use Rattle.hexadecimal.proofs.text.put_byte.Goals as goal

pub returns : goal.returns
unfolding with_byte_of
returns c = rw (c.capital.ensures, c.capital-2.ensures)
