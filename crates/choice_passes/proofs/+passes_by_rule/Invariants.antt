use Rattle.std.proofs.Common.{◌-◌}
use Rattle.choice.specs.Hop.{last_hop}
use Rattle.choice_passes.proofs.+passes_by_rule.Given as goal

-- the hops that are left up to the last, of which a jump leaves fewer
abbrev pub decreases-passes_by_rule : goal.decreases-passes_by_rule
decreases-passes_by_rule l = last_hop - l.hop
