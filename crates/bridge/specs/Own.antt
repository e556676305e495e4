-- Own clock.
use Rattle.std.specs.Prelude.{ℕ, ⊤}
use Rattle.port.specs.Own.{own_reading_of}
use Rattle.bridge.specs.Arguments.{own_clock_refusal}
use Rattle.bridge.specs.State.{stores_clock, refused_or}
use Rattle.bridge.specs.declared.Bridge.{Bridge}
use Rattle.bridge.specs.declared.Done.{Done}

-- 2, 10, and then 8 by the record
unfoldable pub own_clock_of : Bridge → ℕ → ℕ → ℕ → ℕ → Done ⊤
own_clock_of b count seconds fraction at =
    refused_or b (own_clock_refusal b.setup.capable seconds fraction at)
    (stores_clock b (own_reading_of count (record { 0 = seconds; 1 = fraction }) (record { 0 = at }) b.clock))
