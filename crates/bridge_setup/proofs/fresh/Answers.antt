-- The setup as it is handed over, with empty records and the ranking of its own clock alone.
use mathlib.Core.Path.{◌∙◌}
use lib.ListN.{replicate}
use Rattle.bridge.proofs.RankingLaws.{fresh_alone}
use Rattle.bridge_setup.proofs.fresh.Goals as goal

pub returns : goal.returns
returns c =
    let s = c.args.setup in
    let ranking = c.alone.ensures ∙ fresh_alone s in
    λ i. record {
      setup = s;
      links = 0;
      ranking = ranking i;
      clock = c.empty_clock.ensures i;
      ports = replicate 8 (c.empty.ensures i);
    }
