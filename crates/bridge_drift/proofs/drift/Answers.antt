-- By whether there is such a port, and by its samples.
use Rattle.std.proofs.Common.{ap, ◌∙◌}
use Rattle.timeline.specs.Drift.{drift_of}
use Rattle.bridge.proofs.TableLaws.{samples_lawful}
use Rattle.bridge.proofs.StateLaws.{drift_refused, drift_done}
use Rattle.bridge.proofs.PromiseLaws.{drift_out}
use Rattle.bridge_drift.proofs.drift.Goals as goal

pub returns-then-b-port : goal.returns-then-b-port
returns-then-b-port c = drift_out _ _ _ (drift_refused _ _ c.if-b-port.true)

pub drift-requires : goal.drift-requires
drift-requires c = rw c.samples.ensures (samples_lawful _ _ _ c.requires.clock_lawful c.requires.ports_lawful)

pub returns : goal.returns
returns c = drift_out _ _ _ (drift_done _ _ _ c.if-b-port.false (c.drift.ensures ∙ ap drift_of c.samples.ensures))
