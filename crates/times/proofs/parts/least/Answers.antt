-- A quotient rounded up is the one whose product with the divisor comes to the number, and to less than a divisor more.
use Rattle.std.proofs.Common.{◌*◌, sym, ◌∙◌, arith}
use Rattle.std.proofs.Math.Nat.{div-eq_of_lt-le}
use Rattle.std.proofs.lemmas.Grind.{div_ceil_times}
use Rattle.times.specs.Parts.{least_of}
use Rattle.times.proofs.parts.least.Goals as goal

pub returns : goal.returns
unfolding least_of
returns c =
    let p = c.args.parts in
    let x = c.args.part * c.args.units in
    let near = div_ceil_times x p c.requires.parts_nonzero in
    c.div_ceil.ensures ∙ sym (div-eq_of_lt-le p (omega (arith, near.0)) (omega (arith, near.1)))
