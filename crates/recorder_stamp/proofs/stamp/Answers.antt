-- By the latch's range, by whether a clock is chosen, and by the samples of that clock.
use Rattle.std.proofs.Common.{◌≡◌, ◌<◌, Option, Some, sym, ap, ◌∙◌}
use borrow.Author.Tests.{leb-true, leb-false}
use Rattle.times.specs.Times.{circle}
use Rattle.samples.specs.Keep.{ends_of}
use Rattle.samples.specs.declared.Samples.{Samples}
use Rattle.choice.specs.declared.Candidate.{Candidate}
use Rattle.bridge.specs.Table.{samples_of_choice}
use Rattle.bridge.specs.Chosen.{chosen_of}
use Rattle.bridge.specs.Send.{chosen_samples}
use Rattle.recorder.specs.Stamp.{latched, stamp_through}
use Rattle.bridge.proofs.TableLaws.{samples_lawful}
use Rattle.bridge.proofs.RankingLaws.{ranking_keeps}
use Rattle.bridge.proofs.Ranking.{kept_chosen}
use Rattle.recorder.proofs.StampLaws.{stamp_off, stamp-by}
use Rattle.recorder.proofs.PromiseLaws.{stamp_out}
use Rattle.recorder_stamp.proofs.stamp.Goals as goal
use Rattle.recorder_stamp.proofs.stamp.Goals.{After-candidate_at}

-- a latch that was not refused, and the first of the ranking: the chosen clock
on_circle : (c : After-candidate_at) → c.args.latch < circle
on_circle c = leb-false _ _ (sym c.off_circle.ensures ∙ c.if-off_circle.false)

first : (c : After-candidate_at) → c.candidate_at.result ≡ chosen_of c.args.b
first c = c.candidate_at.ensures ∙ kept_chosen _ c.requires

pub candidate_at-requires : goal.candidate_at-requires
candidate_at-requires c = (_, ranking_keeps _ c.requires)

pub through-requires : goal.through-requires
through-requires c = rw c.samples-samples.ensures (samples_lawful _ _ _ c.requires.clock_lawful c.requires.ports_lawful)

pub returns-then-off_circle : goal.returns-then-off_circle
returns-then-off_circle c = stamp_out _ _ _ (stamp_off _ _ (leb-true _ _ (sym c.off_circle.ensures ∙ c.if-off_circle.true)))

pub returns-in_default : goal.returns-in_default
returns-in_default c =
    let k = (goal.at.returns-in_default c).After-candidate_at in
    stamp_out _ _ _ (stamp-by _ _ (on_circle k) (sym c.in_default.is ∙ first k))

pub returns : goal.returns
unfolding samples_of_choice
returns c =
    let k = (goal.at.returns c).After-candidate_at in
    let b = c.args.b in
    let chosen : Some c.in-Some.choice ≡ chosen_of b = sym c.in-Some.is ∙ first k in
    let samples : c.samples-samples.result ≡ chosen_samples b = c.samples-samples.ensures ∙ ap (λ (x : Option Candidate). samples_of_choice x b.clock b.ports) chosen in
    stamp_out _ _ _
    (c.through.ensures ∙ ap (λ (x : Samples). stamp_through (ends_of x) (latched c.args.latch)) samples
    ∙ stamp-by _ _ (on_circle k) chosen)
