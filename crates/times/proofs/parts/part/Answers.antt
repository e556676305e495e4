-- The quotient as it is defined.
use Rattle.std.proofs.Common.{refl}
use Rattle.times.specs.Parts.{part_of}
use Rattle.times.proofs.parts.part.Goals as goal

pub returns : goal.returns
unfolding part_of
returns c = refl
