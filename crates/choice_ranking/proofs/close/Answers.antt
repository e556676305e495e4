-- Those behind the place are copied one place up; then the last place.
use Rattle.std.proofs.Common.{ap, ◌∙◌, List, set, None}
use Rattle.choice.specs.Rank.{in_numbers}
use Rattle.choice.specs.declared.Rank.{Rank}
use Rattle.choice_ranking.proofs.PlaceLoops.{last_place, closing}
use Rattle.choice_ranking.proofs.close.Goals as goal

pub returns : goal.returns
unfolding in_numbers
returns c =
    ap (λ (s : List Rank). set s last_place (in_numbers None)) c.copy_within.ensures.after
    ∙ closing c.args.place c.args.ranking.now c.requires.whole c.requires.place_lt_places
