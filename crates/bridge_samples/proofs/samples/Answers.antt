-- The own clock at first, and then each port in turn.
use Rattle.std.proofs.Common.{◌<◌, List, length, ap, ◌∙◌, arith}
use Rattle.std.proofs.lemmas.List.{take_all}
use Rattle.port.specs.declared.Port.{Port}
use Rattle.bridge.specs.Table.{samples_at}
use Rattle.bridge.proofs.TableLaws.{samples_own}
use Rattle.bridge_samples.proofs.Numbers.{samples_none, samples_next, samples_others}
use Rattle.bridge_samples.proofs.samples.Goals as goal
use Rattle.bridge_samples.proofs.samples.Goals.{then-number-eq0, else-number-eq0, then-i-from, else-i-from}

pub loop-i-init : goal.loop-i-init
loop-i-init c =
    elim c.if-number-eq0.branch [
      | then-number-eq0 w ↦ w.samples-is ∙ samples_own _ _ _ w.if-number-eq0.true
      | else-number-eq0 w ↦ w.samples-is ∙ samples_none _ _ w.if-number-eq0.false
    ]

pub loop-i-preserved : goal.loop-i-preserved
loop-i-preserved c =
    let below : c.loop-i.i < length c.args.ports.now = omega (arith, c.told-ports, c.loop-i-test.true) in
    elim c.if-i-from.branch [
      | then-i-from w ↦ w.samples-is ∙ samples_next _ _ c.loop-i.i below _ (w.if-i-from.true ∙ c.from.ensures)
      | else-i-from w ↦ w.samples-is ∙ c.loop-i.invariant ∙ samples_others _ _ c.loop-i.i below _ (λ e. w.if-i-from.false (omega (arith, e, c.from.ensures)))
    ]

pub returns : goal.returns
returns c =
    c.loop-i.invariant
    ∙ ap (λ (ports : List Port). samples_at c.args.number c.args.clock.now ports) (take_all c.loop-i.i c.args.ports.now (omega (arith, c.told-ports, c.loop-i-test.false)))
