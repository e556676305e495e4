-- A neighbour's rate is small enough to be scaled by; what is measured by it is the link delay where the neighbour has heard something.
use Rattle.std.proofs.Common.{◌≡◌, ◌∙◌, arith, w64, to_z, of_z}
use Rattle.samples.specs.Rate.{neighbour_rate_of}
use Rattle.numbers.proofs.Machine.{got}
use Rattle.samples.proofs.RateLaws.{neighbour_small}
use Rattle.delay.proofs.DelayLaws.{delay_heard}
use Rattle.delay.proofs.link_delay.Goals as goal
use Rattle.delay.proofs.link_delay.Goals.{After-neighbour_rate, then-tx-eq0+else-rx-eq0, else-tx-eq0}

-- the neighbour's rate, as it is passed on
rate-is : (c : After-neighbour_rate) → to_z w64 (of_z w64 c.neighbour_rate.result) ≡ neighbour_rate_of c.args.pair c.args.local c.args.p
rate-is c = got c.neighbour_rate.type_inv c.neighbour_rate.ensures

-- where it is measured, the neighbour has heard something
heard : (c : After-neighbour_rate) → c.args.tx.0 ≡ 0 → c.args.rx.0 ≡ 0 → ⊥
heard c h k = elim c.if-tx-eq0.branch [ then-tx-eq0+else-rx-eq0 w ↦ omega arith | else-tx-eq0 w ↦ omega arith ]

pub measured_delay-requires : goal.measured_delay-requires
measured_delay-requires c = rw (rate-is (goal.at.measured_delay-requires c).After-neighbour_rate) (neighbour_small _ _ _)

pub returns-in-Measured-2 : goal.returns-in-Measured-2
returns-in-Measured-2 c =
    let at = (goal.at.returns-in-Measured-2 c).After-neighbour_rate in
    c.measured_delay.ensures
    ∙ rw (rate-is at, c.since.ensures, c.since-in-Measured-2.ensures) (delay_heard _ _ _ _ _ _ c.in-Measured.is (heard at))
