-- What Links makes of the state.
use Rattle.bridge.proofs.PromiseLaws.{links_out}
use Rattle.bridge_links.proofs.links.Goals as goal

pub returns : goal.returns
returns c = links_out _ _ _ c.relink-answer.ensures c.requires
