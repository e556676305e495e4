-- Stations one after another: each takes a frame by Receive, and what it then writes by Send for that clock is the frame that the next one takes.
use Rattle.std.specs.Prelude.{◌≡◌, List, [], ℕ, suc, ◌+◌, ◌-◌, ◌<◌, ltb, length, take}
use Rattle.numbers.specs.Bytes.{Bytes}
use Rattle.refusals.specs.Answer.{granted}
use Rattle.refusals.specs.Literals.{tested}
use Rattle.choice.specs.Hop.{last_hop}
use Rattle.choice.specs.Choose.{chosen_hop, number_of}
use Rattle.frame.specs.Frame.{frame_length}
use Rattle.bridge.specs.State.{Lawful, FullBridge}
use Rattle.bridge.specs.Receive.{receive_of}
use Rattle.bridge.specs.Chosen.{chosen_of}
use Rattle.bridge.specs.Send.{send_of, send_bytes}
use Rattle.bridge.specs.Demands.{Call, run, taken, hop_at}
use Rattle.bridge.specs.declared.Bridge.{Bridge}

-- ---- one station

-- it takes a frame: a full bridge in any lawful state, and Receive answers 0
pub record Takes (frame : List ℕ) : Type 0 where
  pub station : Bridge
  pub lawful : Lawful station
  pub full : FullBridge station
  pub port : ℕ
  pub arrival : ℕ
  pub bytes : Bytes frame
  pub accepted : (receive_of station port frame arrival).answer ≡ granted

-- its state after that call, and later, after others
abbrev pub after_it : {frame : List ℕ} → Takes frame → Bridge
after_it {frame} s = (receive_of s.station s.port frame s.arrival).next

abbrev pub later : {frame : List ℕ} → Takes frame → List Call → Bridge
later s calls = run (after_it s) calls

-- and sends it on: in those calls the port took no other frame, the chosen clock is the one heard at that port, Send answers 0, and the 64 bytes that it writes are the frame that is sent
pub record SendsOn {frame : List ℕ} (s : Takes frame) (sent : List ℕ) : Type 0 where
  pub calls : List Call
  pub no_other : taken (s.port - 1) (after_it s) calls ≡ []
  pub that_clock : number_of (chosen_of (later s calls)) ≡ s.port
  pub port : ℕ
  pub departure : ℕ
  pub output : List ℕ
  pub done : (send_of (later s calls) port departure (length output)).answer ≡ granted
  pub written : sent ≡ take frame_length (send_bytes (later s calls) port departure output)

-- ---- stations in a row

-- n of them accept a frame: the first takes it as it is, and each other one as the one before it sent it on. At each the premise holds, of its state before that and of the frame
pub data Row (Premise : Bridge → List ℕ → Type 0) : List ℕ → ℕ → Type 0 where
  last : (frame : List ℕ) (s : Takes frame) → Premise s.station frame → Row Premise frame 1
  next : (frame sent : List ℕ) (n : ℕ) (s : Takes frame) → Premise s.station frame → SendsOn s sent → Row Premise sent n → Row Premise frame (suc n)

-- the request's premise: the station's chosen hop is below the frame's own
abbrev pub ChosenBelow : Bridge → List ℕ → Type 0
ChosenBelow b frame = chosen_hop (chosen_of b) < hop_at frame

-- and none
abbrev pub AnyStation : Bridge → List ℕ → Type 0
AnyStation b frame = Unit {0}

-- whether the hop jumps at a station, 1 or 0: it does where that premise holds
abbrev pub jump_at : {frame : List ℕ} → Takes frame → ℕ
jump_at {frame} s = tested (ltb (chosen_hop (chosen_of s.station)) (hop_at frame))

-- at how many stations of a row it does, whatever premise the row has
unfoldable pub jumps_in : {Premise : Bridge → List ℕ → Type 0} (frame : List ℕ) (n : ℕ) → Row Premise frame n → ℕ
jumps_in _ _ (last frame s _) = jump_at s
jumps_in _ _ (next frame sent n s _ _ rest) = jump_at s + jumps_in sent n rest

-- ---- how many

-- with the premise, whatever the frame's hop
abbrev pub most_stations : ℕ
most_stations = 9

-- without it, by the frame's hop
abbrev pub hops_left : ℕ → ℕ
hops_left h = last_hop - h
