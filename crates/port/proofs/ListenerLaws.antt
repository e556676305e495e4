-- What a record makes of a listener's frames: the cable is measured by them as by any, they are held at the last hop, and of their samples one stands alone.
use mathlib.Core.Path.{◌≡◌, refl, ap}
use Rattle.std.proofs.Common.{Option}
use Prim.Native.Nat.{ℕ}
use Rattle.times.specs.Times.{units}
use Rattle.times.specs.declared.LocalTime.{LocalTime}
use Rattle.times.specs.declared.GrandTime.{GrandTime}
use Rattle.times.specs.declared.ErrorTime.{ErrorTime}
use Rattle.samples.specs.Rate.{neighbour_rate_of}
use Rattle.samples.specs.declared.Pair.{Pair}
use Rattle.delay.specs.Delay.{link_delay_of}
use Rattle.delay.specs.declared.DelaySetting.{DelaySetting}
use Rattle.choice.specs.declared.Precedence.{Precedence}
use Rattle.choice.specs.Hop.{last_hop, hop_of}
use Rattle.frame.specs.declared.Fields.{Fields}
use Rattle.samples.proofs.KeepLaws.{Still, still_kept}
use Rattle.choice.proofs.HopLaws.{hop_rises, hop_within}
use Rattle.port.specs.Record.{aged_port}
use Rattle.port.specs.Receive.{received_of}
use Rattle.port.specs.Send.{frame_of, listener_hop_of, no_grand_time, listener_frame_of}
use Rattle.port.specs.declared.Sender.{Sender}
use Rattle.port.specs.declared.Setting.{Setting}
use Rattle.port.specs.declared.Port.{Port}
use Rattle.port.specs.declared.Outcome.{Outcome}
use Rattle.port.proofs.PortLaws.{received_is, aged_is}
use native.Mathlib.Omega.{arith}
use lib.Dec.{lit<}

-- the delay that the neighbour works out is the same as by a frame that names a clock: steps 1 and 2 go by localTime and the echo
pub measured_alike : (setting : DelaySetting) (there : Option Pair) (p : LocalTime) (sender : Sender) (version : ℕ) (t : LocalTime) (port : Port) (precedence : Precedence) (hop : ℕ) (grand : GrandTime) (error : ErrorTime)
    → let f = listener_frame_of sender version t port in
    let g = frame_of sender version precedence hop t grand error port in
    link_delay_of setting (neighbour_rate_of there f.local p) f.local p f.tx f.rx ≡ link_delay_of setting (neighbour_rate_of there g.local p) g.local p g.tx g.rx
measured_alike setting there p sender version t port precedence hop grand error = refl

-- the hop of such a frame is held as the last, whatever is chosen
pub listener-hop : (chosen : ℕ) → hop_of listener_hop_of chosen ≡ last_hop
listener-hop chosen = omega (arith, hop_rises listener_hop_of chosen, hop_within listener_hop_of chosen (lit< tt))

-- a record whose samples all have grand time zero holds one at the most, and so after a frame whose grand time is zero
pub received_still : (setting : Setting) (chosen : ℕ) (f : Fields) (at : LocalTime) (port : Port) → f.grand ≡ no_grand_time → Still 0 port.samples
    → Still 0 (received_of setting chosen f at port).after.samples
received_still setting chosen f at port zero still =
    received_is setting chosen f at port (λ (d : Outcome Port). Still 0 d.after.samples) (λ _ _ _. still)
    (λ _ _ _ _ _. still_kept 0 port.samples _ _ still (ap units zero))

-- Age takes no sample in
pub aged_still : (at : LocalTime) (timeout : ℕ) (port : Port) → Still 0 port.samples → Still 0 (aged_port at timeout port).samples
aged_still at timeout port still = aged_is at timeout port (λ (p : Port). Still 0 p.samples) still tt
