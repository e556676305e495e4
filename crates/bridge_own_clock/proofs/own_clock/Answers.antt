-- What the reading makes of the state.
use borrow.Author.Rules.{rules}
use Rattle.bridge.proofs.Keeps.{own_lawful}
use Rattle.bridge.proofs.PromiseLaws.{out}
use Rattle.bridge_own_clock.proofs.own_clock.Goals as goal

pub returns : goal.returns
returns c = out _ _ c.read-answer.ensures (own_lawful _ _ _ _ _ (search rules) c.requires)
