-- Send.
use Rattle.std.specs.Prelude.{List, ℕ, ◌-◌, length, Option, Result, ⊤}
use Rattle.refusals.specs.declared.Refusal.{Refusal}
use Rattle.times.specs.declared.LocalTime.{LocalTime}
use Rattle.samples.specs.declared.Samples.{Samples}
use Rattle.choice.specs.declared.Candidate.{Candidate}
use Rattle.port.specs.Send.{sending_of, sending_done, sending_bytes}
use Rattle.frame.specs.declared.Fields.{Fields}
use Rattle.bridge.specs.Table.{port_at, samples_of_choice}
use Rattle.bridge.specs.Arguments.{send_refusal}
use Rattle.bridge.specs.State.{version_at, stores_port, by_refusal, refused_or}
use Rattle.bridge.specs.Chosen.{chosen_of}
use Rattle.bridge.specs.declared.Bridge.{Bridge}
use Rattle.bridge.specs.declared.Done.{Done}

-- the frame that the port at index i sends at t for a choice, in its version, or 10 to 13
unfoldable pub sending_at : Option Candidate → Bridge → ℕ → LocalTime → Result Fields Refusal
sending_at choice b i t = sending_of choice (samples_of_choice choice b.clock b.ports) b.setup.sender (version_at b i) t (port_at b.ports i)

-- 2, 3 and 4 first; else the port's next frameCount is used up, also by a refusal with 10 to 13
abbrev pub send_by_of : Option Candidate → Bridge → ℕ → ℕ → ℕ → Done ⊤
send_by_of choice b port t room =
    refused_or b (send_refusal b.setup.n b.links port t room)
    (stores_port b (port - 1) (sending_done (sending_at choice b (port - 1) (record { 0 = t })) (port_at b.ports (port - 1))))

-- the frame over the first 64 bytes of the output; every refusal leaves it as it was
abbrev pub send_bytes_by : Option Candidate → Bridge → ℕ → ℕ → List ℕ → List ℕ
send_bytes_by choice b port t out =
    by_refusal (send_refusal b.setup.n b.links port t (length out)) (sending_bytes (sending_at choice b (port - 1) (record { 0 = t })) out) out

-- the choice is that of the state before the call
unfoldable pub send_of : Bridge → ℕ → ℕ → ℕ → Done ⊤
send_of b port t room = send_by_of (chosen_of b) b port t room

unfoldable pub send_bytes : Bridge → ℕ → ℕ → List ℕ → List ℕ
send_bytes b port t out = send_bytes_by (chosen_of b) b port t out

-- the samples of the chosen clock
abbrev pub chosen_samples : Bridge → Samples
chosen_samples b = samples_of_choice (chosen_of b) b.clock b.ports
