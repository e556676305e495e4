-- A rate in parts per million: the product is a whole number that a float holds, and the quotient is exact.
use mathlib.Core.Path.{◌≡◌, ap, ◌∙◌}
use native.Mathlib.Omega.{arith}
use lib.IntN.{ℤ, pos, ◌*ℤ◌}
use mir.Syntax.{w64}
use mir.Val.{to_z, of_z}
use Rattle.timeline.specs.Drift.{million}
use Rattle.numbers.proofs.Machine.{back, got}
use Rattle.timeline.proofs.PpmLaws.{ppm_is, ppm_small, float_holds}
use Rattle.timeline.proofs.ppm.parts_per_million.Goals as goal
use Rattle.timeline.proofs.ppm.parts_per_million.Goals.{After-mul, Start}

-- the rate as it is passed
rate-is : (c : Start) → to_z w64 (of_z w64 c.args.rate) ≡ c.args.rate
rate-is c = back c.args.rate c.ranges.rate

pub mul-requires : goal.mul-requires
mul-requires c = rw (rate-is c) (omega arith)

-- the product as it is cast
mul_is : (c : After-mul) → to_z w64 (of_z w64 c.mul.result) ≡ c.before.args.rate *ℤ pos million
mul_is c = got c.mul.type_inv (c.mul.ensures ∙ ap (λ (r : ℤ). r *ℤ pos million) (rate-is c.before))

pub int_to_float-result : goal.int_to_float-result
int_to_float-result c =
    let s = c.before.before in
    rw (mul_is c.before) (float_holds (s.args.rate *ℤ pos million) (ppm_small s.args.rate s.requires))

pub returns : goal.returns
returns c =
    let s = c.before.before in
    rw (mul_is c.before) (ppm_is s.args.rate s.requires)
