-- The product of the rate and the stretch, out of its parts.
use mathlib.Core.Path.{◌≡◌, ap, ◌∙◌}
use native.Mathlib.Nat.{mul-le-mul_right}
use native.Mathlib.Omega.{arith}
use lib.IntN.{ℤ, nat_abs, ◌*ℤ◌}
use mir.Syntax.{w64}
use mir.Val.{to_z, of_z}
use Rattle.numbers.specs.Whole.{floor_div}
use Rattle.samples.specs.Rate.{parts, scaled_of}
use Rattle.numbers.proofs.Machine.{back, got}
use Rattle.samples_rate.proofs.scaled.Goals as goal
use Rattle.samples_rate.proofs.scaled.Goals.{After-mul, Start}

rate-is : (c : Start) → to_z w64 (of_z w64 c.args.rate) ≡ c.args.rate
rate-is c = back c.args.rate c.ranges.rate

stretch-is : (c : Start) → to_z w64 (of_z w64 c.args.u) ≡ c.args.u
stretch-is c = back c.args.u c.ranges.u

mul_is : (c : After-mul) → to_z w64 (of_z w64 c.mul.result) ≡ c.before.args.rate *ℤ c.before.args.u
mul_is c = got c.mul.type_inv (c.mul.ensures ∙ rw (rate-is c.before, stretch-is c.before))

pub mul-requires : goal.mul-requires
mul-requires c =
    rw (rate-is c, stretch-is c) (omega (arith, c.requires.1, mul-le-mul_right (nat_abs c.args.u) c.requires.0))

pub returns : goal.returns
unfolding scaled_of
returns c = got c.floor_div.type_inv (c.floor_div.ensures ∙ ap (λ (z : ℤ). floor_div z parts) (mul_is c.before))
