-- The stretch and what the rate makes of it, which is small.
use mathlib.Core.Path.{◌≡◌, ◌∙◌}
use native.Mathlib.Omega.{arith}
use mir.Syntax.{w64}
use mir.Val.{to_z, of_z}
use Rattle.samples.specs.Rate.{scaled_of}
use Rattle.numbers.proofs.Machine.{back, got}
use Rattle.samples.proofs.RateLaws.{scaled_small}
use Rattle.samples_rate.proofs.advance.Goals as goal
use Rattle.samples_rate.proofs.advance.Goals.{After-scaled, Start}

stretch-is : (c : Start) → to_z w64 (of_z w64 c.args.u) ≡ c.args.u
stretch-is c = back c.args.u c.ranges.u

gain-is : (c : After-scaled) → to_z w64 (of_z w64 c.scaled.result) ≡ scaled_of c.before.args.rate c.before.args.u
gain-is c = got c.scaled.type_inv (c.scaled.ensures ∙ rw (back c.before.args.rate c.before.ranges.rate, stretch-is c.before))

pub add-requires : goal.add-requires
add-requires c =
    let s = c.before in
    rw (stretch-is s, gain-is c) (omega (arith, s.requires.1, scaled_small s.args.rate s.args.u s.requires.0 s.requires.1))

pub returns : goal.returns
returns c = got c.add.type_inv (c.add.ensures ∙ rw (stretch-is c.before.before, gain-is c.before))
