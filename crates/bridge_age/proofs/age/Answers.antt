-- What a local time makes of the state.
use Rattle.bridge.proofs.Keeps.{age_lawful}
use Rattle.bridge.proofs.PromiseLaws.{out}
use Rattle.bridge_age.proofs.age.Goals as goal

pub returns : goal.returns
returns c = out _ _ c.aged-answer.ensures (age_lawful _ _ c.requires)
