-- Receive.
use Rattle.std.specs.Prelude.{List, ℕ, ◌-◌, get_or, Option, Result, Ok, Err, ⊤}
use Rattle.refusals.specs.declared.Refusal.{Refusal}
use Rattle.times.specs.declared.LocalTime.{LocalTime}
use Rattle.choice.specs.Choose.{chosen_hop}
use Rattle.choice.specs.declared.Candidate.{Candidate}
use Rattle.frame.specs.Read.{read_of}
use Rattle.frame.specs.declared.Fields.{Fields}
use Rattle.port.specs.Receive.{received_of}
use Rattle.port.specs.declared.Setting.{Setting}
use Rattle.bridge.specs.Table.{port_at}
use Rattle.bridge.specs.Arguments.{port_refusal}
use Rattle.bridge.specs.Fits.{measured_setting}
use Rattle.bridge.specs.State.{answers, stores_port, refused_or}
use Rattle.bridge.specs.Chosen.{chosen_of}
use Rattle.bridge.specs.declared.Bridge.{Bridge}
use Rattle.bridge.specs.declared.Done.{Done}

-- the port at index i's part of the setup
abbrev pub setting_at : Bridge → ℕ → Setting
setting_at b i = get_or b.setup.settings i measured_setting

-- a frame that was read: steps 1 to 5, with H of a choice
unfoldable pub receive_fields_of : Option Candidate → Bridge → ℕ → Fields → LocalTime → Done ⊤
receive_fields_of choice b i f at = stores_port b i (received_of (setting_at b i) (chosen_hop choice) f at (port_at b.ports i))

-- 4, 5 or 6 by the frame's bytes, then 7 to 9
abbrev pub read_by : Option Candidate → Bridge → ℕ → Result Fields Refusal → LocalTime → Done ⊤
read_by choice b i (Err refusal) at = answers (Err refusal) b
read_by choice b i (Ok f) at = receive_fields_of choice b i f at

-- 2 and 3 first
abbrev pub receive_by : Option Candidate → Bridge → ℕ → List ℕ → ℕ → Done ⊤
receive_by choice b port frame arrival =
    refused_or b (port_refusal b.setup.n b.links port arrival) (read_by choice b (port - 1) (read_of frame) (record { 0 = arrival }))

-- H is that of the state before the call
unfoldable pub receive_of : Bridge → ℕ → List ℕ → ℕ → Done ⊤
receive_of b port frame arrival = receive_by (chosen_of b) b port frame arrival
