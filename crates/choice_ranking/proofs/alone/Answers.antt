-- The own clock's rank at the first place.
use Rattle.choice.specs.Rank.{in_numbers}
use Rattle.choice.proofs.PlacesLaws.{alone_placed}
use Rattle.choice_ranking.proofs.alone.Goals as goal

pub returns : goal.returns
unfolding in_numbers
returns c = alone_placed c.own.ensures
