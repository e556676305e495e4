-- A reading that is not refused is in range.
use Rattle.std.proofs.Common.{sym, ◌∙◌}
use Rattle.bridge.proofs.CheckLaws.{own_ready}
use Rattle.bridge_own_clock.proofs.read.Goals as goal

pub own_clock-reading-requires-clause-in_range : goal.own_clock-reading-requires-clause-in_range
own_clock-reading-requires-clause-in_range c =
    let r = own_ready _ _ _ _ (sym c.own_clock_refusal.ensures ∙ c.in_ok-own_clock_refusal.was) in
    record { seconds = r.whole; fraction = r.part }
