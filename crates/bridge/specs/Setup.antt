-- Setup.
use Rattle.std.specs.Prelude.{cond, ℕ, ◌^◌, replicate, Err, ⊤}
use Rattle.refusals.specs.Answer.{granted}
use Rattle.refusals.specs.declared.Refusal.TheVariants.{BadSetup}
use Rattle.port.specs.Record.{empty_port, empty_clock}
use Rattle.bridge.specs.Table.{most_ports}
use Rattle.bridge.specs.Fits.{setup_fits, no_setup}
use Rattle.bridge.specs.declared.Setup.{Setup}
use Rattle.bridge.specs.State.{state_of, answers}
use Rattle.bridge.specs.declared.Bridge.{Bridge}
use Rattle.bridge.specs.declared.Done.{Done}

-- the defaults: a timeout of half a second, a backTime of 15 ms
abbrev pub default_timeout : ℕ
default_timeout = 2 ^ 39

abbrev pub default_back : ℕ
default_back = 16492674417

-- all links are down and all records empty
abbrev pub fresh_of : Setup → Bridge
fresh_of s = state_of s 0 empty_clock (replicate most_ports empty_port)

-- what stands for no state: no port, no own clock
abbrev pub no_bridge : Bridge
no_bridge = fresh_of no_setup

unfoldable pub setup_of : Setup → Done ⊤
setup_of s = cond (setup_fits s) (answers granted (fresh_of s)) (answers (Err BadSetup) no_bridge)
