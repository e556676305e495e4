-- C-18's cases: nine stations, one after another, that take a frame and send it on with the premise; and ten without it.
use Rattle.std.specs.Prelude.{List, [], ℕ, ◌^◌, replicate}
use Rattle.frame.specs.Frame.{frame_length, first_version}
use Rattle.frame.specs.Write.{bytes_of}
use Rattle.frame.specs.declared.Fields.{Fields}
use Rattle.bridge.specs.Fits.{no_mac, no_precedence, plain_setup}
use Rattle.bridge.specs.Setup.{default_timeout, setup_of}
use Rattle.bridge.specs.Links.{links_of}
use Rattle.bridge.specs.Receive.{receive_of}
use Rattle.bridge.specs.declared.Bridge.{Bridge}

-- a clock's frames lie 2^33 apart, some 8 ms
abbrev pub apart : ℕ
apart = 2 ^ 33

-- a frame of one clock, with a hop, a frameCount, a fraction of its grand time, and its localTime; it echoes nothing
abbrev pub fields_with : ℕ → ℕ → ℕ → ℕ → Fields
fields_with hop count fraction local = record {
  sa = no_mac;
  precedence = no_precedence;
  hop = hop;
  count = count;
  grand = record { 0 = 0; 1 = fraction };
  local = record { 0 = local };
  tx = record { 0 = 0 };
  rx = record { 0 = 0 };
  error = record { 0 = 0 };
  version = first_version;
}

-- the frame that goes from station to station, at a hop: nothing else in it changes
abbrev pub passing : ℕ → List ℕ
passing hop = bytes_of (fields_with hop 0 apart apart) []

-- a station of two ports, both with a link
abbrev pub linked : Bridge
linked = (links_of (setup_of (plain_setup 2 default_timeout 0)).next 3).next

-- that heard two frames of the clock at port 1, at a hop: the first is refused with 8, the second gives its first sample
abbrev pub heard : ℕ → ℕ → List ℕ
heard hop count = bytes_of (fields_with hop count 0 0) []

abbrev pub station : ℕ → Bridge
station hop = (receive_of (receive_of linked 1 (heard hop 254) 0).next 1 (heard hop 255) apart).next

-- the third frame arrives, and the one that is sent on has left at port 2 as the second arrived
abbrev pub arrives : ℕ
arrives = 2 ^ 34

abbrev pub output : List ℕ
output = replicate frame_length 0xA5
