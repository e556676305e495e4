-- Drift.
use Rattle.std.specs.Prelude.{cond, ℕ, ltb}
use Rattle.timeline.specs.Drift.{drift_of}
use Rattle.timeline.specs.declared.Drift.{Drift}
use Rattle.timeline.specs.declared.Drift.TheVariants.{Refused}
use Rattle.bridge.specs.Table.{samples_at}
use Rattle.bridge.specs.declared.Bridge.{Bridge}

-- of the own clock, 0, or of a port
unfoldable pub drift_at : Bridge → ℕ → Drift
drift_at b port = cond (ltb b.setup.n port) Refused (drift_of (samples_at port b.clock b.ports))
