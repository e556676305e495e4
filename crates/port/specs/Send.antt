-- Send, on one record: a full bridge's frame for the chosen clock, in a version, or why there is none; a listener's frame.
use Rattle.std.specs.Prelude.{ℕ, cond, List, eqb, drop, Option, Some, None, Result, Ok, Err}
use Rattle.refusals.specs.Answer.{told}
use Rattle.refusals.specs.declared.Refusal.{Refusal}
use Rattle.refusals.specs.declared.Refusal.TheVariants.{NoClock}
use Rattle.times.specs.declared.LocalTime.{LocalTime}
use Rattle.times.specs.declared.GrandTime.{GrandTime}
use Rattle.times.specs.declared.ErrorTime.{ErrorTime}
use Rattle.samples.specs.declared.Samples.{Samples}
use Rattle.samples.specs.declared.Pair.{Pair}
use Rattle.timeline.specs.Sent.{sent_of}
use Rattle.timeline.specs.declared.Sent.{Sent}
use Rattle.choice.specs.Precedence.{worst_precedence}
use Rattle.choice.specs.declared.Precedence.{Precedence}
use Rattle.choice.specs.declared.Candidate.{Candidate}
use Rattle.frame.specs.Frame.{frame_length, second_version}
use Rattle.frame.specs.Write.{bytes_of}
use Rattle.frame.specs.declared.Fields.{Fields}
use Rattle.port.specs.Record.{used_port}
use Rattle.port.specs.declared.Profile.{Profile}
use Rattle.port.specs.declared.Profile.TheVariants.{Full, Listener}
use Rattle.port.specs.declared.Sender.{Sender}
use Rattle.port.specs.declared.Port.{Port}
use Rattle.port.specs.declared.Outcome.{Outcome}

-- the echo's two times, zeros where there is none
abbrev pub echo_tx : Option Pair → LocalTime
echo_tx None = record { 0 = 0 }
echo_tx (Some pair) = pair.there

abbrev pub echo_rx : Option Pair → LocalTime
echo_rx None = record { 0 = 0 }
echo_rx (Some pair) = pair.here

-- the fields of every frame: this version, precedence, hopCount, grand time and errorTime; the station's address, the record's frameCount, t, and the
-- record's echo
abbrev pub frame_of : Sender → ℕ → Precedence → ℕ → LocalTime → GrandTime → ErrorTime → Port → Fields
frame_of sender version precedence hop t grand error port = record {
  sa = sender.mac;
  precedence = precedence;
  hop = hop;
  count = port.count;
  grand = grand;
  local = t;
  tx = echo_tx port.echo;
  rx = echo_rx port.echo;
  error = error;
  version = version;
}

-- the stretch whose rest errorTime takes in: backTime in version 2, and none in version 1
abbrev pub stretch_of : ℕ → ℕ → ℕ
stretch_of version back = cond (eqb version second_version) back 0

-- 11 to 13 by the sent grand time and errorTime
abbrev pub sending_by : Result Sent Refusal → Sender → ℕ → Precedence → ℕ → LocalTime → Port → Result Fields Refusal
sending_by (Ok times) sender version precedence hop t port = Ok (frame_of sender version precedence hop t times.grand times.error port)
sending_by (Err refusal) sender version precedence hop t port = Err refusal

-- a full bridge: 10 where no clock is chosen; else by the samples of the chosen clock
abbrev pub clock_sending : Option Candidate → Samples → Sender → ℕ → LocalTime → Port → Result Fields Refusal
clock_sending None samples sender version t port = Err NoClock
clock_sending (Some clock) samples sender version t port =
    sending_by (sent_of samples t sender.back (stretch_of version sender.back)) sender version clock.precedence clock.hop t port

-- a listener's frame, whatever is chosen: the worst precedence, the hop before the last, and zero for both times
abbrev pub listener_hop_of : ℕ
listener_hop_of = 254

abbrev pub no_grand_time : GrandTime
no_grand_time = record { 0 = 0; 1 = 0 }

abbrev pub no_error_time : ErrorTime
no_error_time = record { 0 = 0 }

abbrev pub listener_frame_of : Sender → ℕ → LocalTime → Port → Fields
listener_frame_of sender version t port = frame_of sender version worst_precedence listener_hop_of t no_grand_time no_error_time port

-- by the profile
abbrev pub profile_sending : Profile → Option Candidate → Samples → Sender → ℕ → LocalTime → Port → Result Fields Refusal
profile_sending Full choice samples sender version t port = clock_sending choice samples sender version t port
profile_sending Listener choice samples sender version t port = Ok (listener_frame_of sender version t port)

unfoldable pub sending_of : Option Candidate → Samples → Sender → ℕ → LocalTime → Port → Result Fields Refusal
sending_of choice samples sender version t port = profile_sending sender.profile choice samples sender version t port

-- the answer, and the record whose next frameCount is used up, also by a refusal
abbrev pub sending_done : Result Fields Refusal → Port → Outcome Port
sending_done sending port = record { answer = told sending; after = used_port port }

-- the frame over the first 64 bytes of the output; a refusal leaves it as it was
abbrev pub sending_bytes : Result Fields Refusal → List ℕ → List ℕ
sending_bytes (Err refusal) out = out
sending_bytes (Ok f) out = bytes_of f (drop frame_length out)
