-- The scale's second: no less than zero, and below the end.
use mathlib.Core.Logic.{⊎_elim}
use Rattle.std.proofs.Common.{◌≡◌, sym, ◌∙◌, ap, pos, ◌+ℤ◌, ◌-ℤ◌, arith, to_z, of_z, w64, nat_abs}
use lib.Signed.{lt_z}
use Rattle.std.proofs.lemmas.Int.{ints}
use Rattle.ptp.proofs.ScaleLaws.{scaled_under, scaled_beyond, scaled_at}
use Rattle.ptp_scales.proofs.on_scale.Goals as goal

pub returns-then-is_negative : goal.returns-then-is_negative
returns-then-is_negative c =
    let z = pos c.args.second.0 +ℤ c.args.offset -ℤ c.args.leap in
    let is : to_z w64 (of_z w64 c.sub-seconds.result) ≡ z = omega (arith, ints) in
    ⊎_elim
    (λ w. scaled_under _ z (omega arith) (ap (λ y. lt_z y (pos 0)) (sym is) ∙ sym c.is_negative.ensures ∙ w))
    (λ w. scaled_beyond _ z (omega arith) (omega (arith, ap nat_abs is)))
    c.then-is_negative.either

pub returns : goal.returns
returns c = scaled_at _ _ _ (omega arith) (omega (arith, ints)) (omega arith)
