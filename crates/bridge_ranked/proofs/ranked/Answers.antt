-- The candidate at the place of the ranking that is kept.
use mathlib.Core.Path.{ap, ◌∙◌}
use Rattle.bridge.specs.Ranked.{ranked_of}
use Rattle.bridge.proofs.RankingLaws.{ranking_keeps}
use Rattle.bridge.proofs.Ranking.{kept_place}
use Rattle.bridge.proofs.PromiseLaws.{ranked_out}
use Rattle.bridge_ranked.proofs.ranked.Goals as goal

pub candidate_at-requires : goal.candidate_at-requires
candidate_at-requires c = (_, ranking_keeps _ c.requires)

pub returns : goal.returns
returns c = ranked_out _ _ _ c.requires (c.candidate_at.ensures ∙ kept_place _ c.requires _ ∙ ap (ranked_of c.args.b) c.from.ensures)
