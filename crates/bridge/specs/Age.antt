-- Age.
use Rattle.std.specs.Prelude.{cond, ℕ, leb, Err, ⊤}
use Rattle.refusals.specs.Answer.{granted}
use Rattle.refusals.specs.declared.Refusal.TheVariants.{OutOfRange}
use Rattle.times.specs.Times.{circle}
use Rattle.port.specs.Record.{aged_port}
use Rattle.bridge.specs.Table.{each}
use Rattle.bridge.specs.State.{with_ports, answers}
use Rattle.bridge.specs.declared.Bridge.{Bridge}
use Rattle.bridge.specs.declared.Done.{Done}

-- 2 for a local time out of range; else every port ages, and the own clock does not
unfoldable pub age_of : Bridge → ℕ → Done ⊤
age_of b at =
    cond (leb circle at) (answers (Err OutOfRange) b) (answers granted (with_ports b (each (λ _. aged_port (record { 0 = at }) b.setup.timeout) 0 b.ports)))
