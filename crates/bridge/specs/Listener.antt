-- C-17's cases: what Setup makes of a listener, its frames byte by byte, and what a bridge at the other end of the cable makes of them.
use Rattle.std.specs.Prelude.{Bool, true, false, List, [], ◌∷◌, ◌++◌, ℕ, replicate}
use Rattle.refusals.specs.Answer.{answer_number}
use Rattle.refusals.specs.Literals.{Literal, literal}
use Rattle.choice.specs.Choose.{shown_port, shown_hop}
use Rattle.port.specs.declared.Profile.TheVariants.{Listener}
use Rattle.bridge.specs.Table.{most_ports}
use Rattle.bridge.specs.Fits.{measured_setting, first_versions, no_precedence, plain_setup}
use Rattle.bridge.specs.Setup.{default_timeout, default_back, setup_of}
use Rattle.bridge.specs.Links.{links_of}
use Rattle.bridge.specs.Receive.{receive_of}
use Rattle.bridge.specs.Chosen.{chosen_of}
use Rattle.bridge.specs.Ranked.{ranked_of}
use Rattle.bridge.specs.Send.{send_of, send_bytes}
use Rattle.bridge.specs.declared.Setup.{Setup}
use Rattle.bridge.specs.declared.Bridge.{Bridge}

-- ---- Setup

-- a listener with so many ports, capable or not, and this backTime
abbrev listening : ℕ → Bool → ℕ → Setup
listening n capable back = record {
  n = n;
  sender = record { profile = Listener; mac = record { 0 = 2; 1 = 0; 2 = 0; 3 = 0; 4 = 0; 5 = 7 }; back = back };
  own = no_precedence;
  capable = capable;
  timeout = default_timeout;
  settings = replicate most_ports measured_setting;
  versions = first_versions;
}

abbrev set_up : ℕ → Bool → ℕ → ℕ
set_up n capable back = answer_number (setup_of (listening n capable back)).answer

-- 1 but for one port, not capable, backTime 0; the default is another
unfoldable pub listener_setups_of : List Literal
listener_setups_of =
    literal (set_up 1 false 0) 0
    ∷ literal (set_up 0 false 0) 1
    ∷ literal (set_up 2 false 0) 1
    ∷ literal (set_up 8 false 0) 1
    ∷ literal (set_up 1 true 0) 1
    ∷ literal (set_up 1 false 1) 1
    ∷ literal (set_up 1 false default_back) 1
    ∷ []

-- ---- its frames

-- an output before a send
abbrev untouched : List ℕ
untouched = replicate 64 0xA5

-- a listener whose port has a link, and after a send at each of two local times 2^33 apart
abbrev linked : Bridge
linked = (links_of (setup_of (listening 1 false 0)).next 1).next

abbrev sent_once : Bridge
sent_once = (send_of linked 1 0x010203040506 64).next

abbrev sent_twice : Bridge
sent_twice = (send_of sent_once 1 0x010403040506 64).next

-- its frames: the first, the second, and the third, at these departures
abbrev pub first : List ℕ
first = send_bytes linked 1 0x010203040506 untouched

abbrev second : List ℕ
second = send_bytes sent_once 1 0x010403040506 untouched

abbrev pub third : List ℕ
third = send_bytes sent_twice 1 0x010603040506 untouched

-- the third after it heard two frames of another listener, the second of which was taken
abbrev pub echoing : List ℕ
echoing = send_bytes (receive_of (receive_of sent_twice 1 first 0x0A0B0C0D0E0F).next 1 second 0x0A0D0C0D0E0F).next 1 0x010603040506 untouched

-- what each of these is: da; sa; protocolType, function and version; thirteen bytes FF; hopCount 254, frameCount, zero; grandTime; localTime; thatTxTime,
-- thatRxTime; errorTime
abbrev pub listened : ℕ → List ℕ → List ℕ → List ℕ → List ℕ
listened count local tx rx =
    (0x01 ∷ 0x80 ∷ 0xC2 ∷ 0x00 ∷ 0x00 ∷ 0x0E ∷ [])
    ++ ((0x02 ∷ 0x00 ∷ 0x00 ∷ 0x00 ∷ 0x00 ∷ 0x07 ∷ [])
    ++ ((0x88 ∷ 0xB5 ∷ 0x01 ∷ 0x01 ∷ [])
    ++ ((0xFF ∷ 0xFF ∷ 0xFF ∷ 0xFF ∷ 0xFF ∷ 0xFF ∷ 0xFF ∷ 0xFF ∷ 0xFF ∷ 0xFF ∷ 0xFF ∷ 0xFF ∷ 0xFF ∷ [])
    ++ ((0xFE ∷ count ∷ 0x00 ∷ [])
    ++ ((0x00 ∷ 0x00 ∷ 0x00 ∷ 0x00 ∷ 0x00 ∷ 0x00 ∷ 0x00 ∷ 0x00 ∷ 0x00 ∷ 0x00 ∷ [])
    ++ (local ++ (tx ++ (rx ++ (0x00 ∷ 0x00 ∷ 0x00 ∷ 0x00 ∷ [])))))))))

-- a local time of zero
abbrev pub zeros : List ℕ
zeros = replicate 6 0x00

-- ---- at the other end

-- a bridge of one port that heard the first frame, then the second, then the third
abbrev bridge : Bridge
bridge = (links_of (setup_of (plain_setup 1 default_timeout 0)).next 1).next

abbrev heard_once : Bridge
heard_once = (receive_of bridge 1 first 0).next

abbrev heard_twice : Bridge
heard_twice = (receive_of heard_once 1 second 0x000200000000).next

abbrev heard_thrice : Bridge
heard_thrice = (receive_of heard_twice 1 third 0x000400000000).next

unfoldable pub listener_heard_of : List Literal
listener_heard_of =
    -- none was heard before the first; the others are taken
    literal (answer_number (receive_of bridge 1 first 0).answer) 8
    ∷ literal (answer_number (receive_of heard_once 1 second 0x000200000000).answer) 0
    ∷ literal (answer_number (receive_of heard_twice 1 third 0x000400000000).answer) 0
    -- a clock of all FF that is heard is a candidate and not none: port 1, held hop 255; it is the first of the ranking, and there is no second
    ∷ literal (shown_port (chosen_of bridge)) 255
    ∷ literal (shown_port (chosen_of heard_twice)) 1
    ∷ literal (shown_hop (chosen_of heard_twice)) 255
    ∷ literal (shown_port (ranked_of heard_twice 0)) 1
    ∷ literal (shown_port (ranked_of heard_twice 1)) 255
    -- no clock, and then never two samples of it
    ∷ literal (answer_number (send_of bridge 1 0x000200000000 64).answer) 10
    ∷ literal (answer_number (send_of heard_twice 1 0x000200000000 64).answer) 11
    ∷ literal (answer_number (send_of heard_thrice 1 0x000400000000 64).answer) 11
    ∷ []
