-- One element further, where it fits; where it does not, not all of them fit.
use Rattle.std.proofs.Common.{◌<◌, ◌&&◌, sym, ◌∙◌, arith}
use Rattle.times.proofs.TestLaws.{both_hold}
use Rattle.frame.specs.Frame.{is_version}
use Rattle.bridge.specs.Fits.{setting_fits}
use Rattle.bridge.proofs.TableLaws.{all_turn, all_end, both_stop}
use Rattle.bridge_arguments.proofs.ports_fit.Goals as goal
use Rattle.bridge_arguments.proofs.ports_fit.Goals.{After-port_fits}

-- the element is one of the first n
below : (c : After-port_fits) → c.loop-i.i < c.args.n
below c = omega (arith, c.loop-i-test.true, c.from-i-end.ensures)

pub loop-i-preserved : goal.loop-i-preserved
loop-i-preserved c =
    let r = c.loop-i.invariant in
    let i = c.loop-i.i in
    let h = below (goal.at.loop-i-preserved c).After-port_fits in
    let fit = both_hold _ _ (sym c.port_fits.ensures ∙ c.if-not-port_fits.false) in
    record {
      settings_room = r.settings_room;
      versions_room = r.versions_room;
      delays = all_turn setting_fits _ _ r.settings_room i _ h fit.0 ∙ r.delays;
      versions_left = all_turn is_version _ _ r.versions_room i _ h fit.1 ∙ r.versions_left;
    }

pub returns-then-not-port_fits : goal.returns-then-not-port_fits
returns-then-not-port_fits c =
    let r = c.loop-i.invariant in
    let h = below (goal.at.returns-then-not-port_fits c).After-port_fits in
    both_stop setting_fits is_version _ _ _ r.settings_room r.versions_room c.loop-i.i _ _ h (sym c.port_fits.ensures ∙ c.if-not-port_fits.true)
    ∙ (λ j. r.delays j && r.versions_left j)

pub returns : goal.returns
returns c =
    let r = c.loop-i.invariant in
    let delays = all_end setting_fits c.args.settings c.args.n r.settings_room c.loop-i.i (omega (arith, c.loop-i-test.false, c.loop-i.auto.i-end, c.from-i-end.ensures)) ∙ r.delays in
    let versions = all_end is_version c.args.versions c.args.n r.versions_room c.loop-i.i (omega (arith, c.loop-i-test.false, c.loop-i.auto.i-end, c.from-i-end.ensures)) ∙ r.versions_left in
    λ j. delays j && versions j
