-- The gain in parts, over the spread: with half of the spread it fits.
use mathlib.Core.Path.{◌≡◌, ap, ◌∙◌}
use native.Mathlib.Omega.{arith}
use lib.IntN.{ℤ, pos, ◌*ℤ◌}
use mir.Syntax.{w64}
use mir.Val.{to_z, of_z}
use Rattle.numbers.specs.Whole.{nearest_div}
use Rattle.samples.specs.Rate.{parts, rate_of}
use Rattle.numbers.proofs.Ring.{nat_abs_mul}
use Rattle.numbers.proofs.Machine.{back, got}
use Rattle.samples_rate.proofs.rate.Goals as goal
use Rattle.samples_rate.proofs.rate.Goals.{After-mul, Start}

gain-is : (c : Start) → to_z w64 (of_z w64 c.args.d) ≡ c.args.d
gain-is c = back c.args.d c.ranges.d

product_is : (c : After-mul) → to_z w64 (of_z w64 c.mul.result) ≡ c.before.args.d *ℤ pos parts
product_is c = got c.mul.type_inv (c.mul.ensures ∙ ap (λ (z : ℤ). z *ℤ pos parts) (gain-is c.before))

pub mul-requires : goal.mul-requires
mul-requires c = rw (gain-is c) (omega (arith, c.requires.high, c.requires.near))

pub nearest_div-requires : goal.nearest_div-requires
nearest_div-requires c =
    let p = c.before in
    record {
      m_nonzero = omega (arith, p.requires.low);
      m_bound = rw (product_is c) (omega (arith, nat_abs_mul p.args.d (pos parts), p.requires.high, p.requires.near));
    }

pub returns : goal.returns
unfolding rate_of
returns c =
    got c.nearest_div.type_inv (c.nearest_div.ensures ∙ ap (λ (z : ℤ). nearest_div z c.before.before.args.s) (product_is c.before))
