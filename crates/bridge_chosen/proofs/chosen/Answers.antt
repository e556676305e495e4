-- The candidate at the first place of the ranking is the chosen clock.
use mathlib.Core.Path.{◌∙◌}
use Rattle.bridge.proofs.RankingLaws.{ranking_keeps}
use Rattle.bridge.proofs.Ranking.{kept_chosen}
use Rattle.bridge.proofs.Sent.{chosen_fits}
use Rattle.bridge.proofs.PromiseLaws.{chosen_out}
use Rattle.bridge_chosen.proofs.chosen.Goals as goal

pub candidate_at-requires : goal.candidate_at-requires
candidate_at-requires c = (_, ranking_keeps _ c.requires)

pub returns : goal.returns
returns c = chosen_out _ _ (chosen_fits _ c.requires) (c.candidate_at.ensures ∙ kept_chosen _ c.requires)
