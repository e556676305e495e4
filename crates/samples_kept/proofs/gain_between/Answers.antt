-- The gain over a rise below a second; outside the limits where grand time did not rise, or by more.
use Rattle.std.proofs.Common.{◌≡◌, ◌+◌, ◌<◌, sym, ◌∙◌, arith}
use Rattle.times.specs.Times.{second, units}
use Rattle.numbers.proofs.Ring.{minus_pos}
use Rattle.times.proofs.RiseLaws.{by_rise, far_rise}
use Rattle.samples.proofs.RateLaws.{gain_outside}
use Rattle.samples.proofs.KeepLaws.{limits_rise}
use Rattle.samples_kept.proofs.gain_between.Goals as goal
use Rattle.samples_kept.proofs.gain_between.Goals.{In_ok-rise}

-- where grand time rose, it rose by that
rose : (c : In_ok-rise) → (units c.args.a.grand + c.in_ok-rise.rise ≡ units c.args.b.grand) × (c.in_ok-rise.rise < second)
rose c = by_rise _ _ _ (sym c.in_ok-rise.was ∙ c.risen.ensures)

pub gained-requires : goal.gained-requires
gained-requires c = omega (arith, (rose (goal.at.gained-requires c).In_ok-rise).1)

pub returns : goal.returns
returns c = c.gained.ensures ∙ rw (c.since.ensures, minus_pos _ _ _ (rose (goal.at.returns c).In_ok-rise).0)

pub returns-in_err-rise : goal.returns-in_err-rise
returns-in_err-rise c =
    c.from_residual.ensures
    ∙ gain_outside _ _
    (λ k.
    let r = limits_rise _ _ _ k in
    far_rise _ _ (sym c.in_err-rise.was ∙ c.risen.ensures) (omega (arith, r.0)) r.1)
