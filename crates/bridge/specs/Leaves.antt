-- What a refusal leaves of the state: each part by itself, where document 01 says "and nothing else".
use Rattle.std.specs.Prelude.{◌≡◌, List, ◌≢◌, ℕ, ◌-◌}
use Rattle.numbers.specs.Bytes.{number_at}
use Rattle.port.specs.Leaves.{Noted, NotedClock, Used}
use Rattle.bridge.specs.Table.{port_at}
use Rattle.bridge.specs.declared.Bridge.{Bridge}

-- all but the record at index i is as before
pub record BesideRecord (i : ℕ) (b left : Bridge) : Type 0 where
  pub setup : left.setup ≡ b.setup
  pub links : left.links ≡ b.links
  pub ranking : left.ranking ≡ b.ranking
  pub clock : left.clock ≡ b.clock
  pub others : (j : ℕ) → j ≢ i → port_at left.ports j ≡ port_at b.ports j

-- all but the own clock is as before
pub record BesideClock (b left : Bridge) : Type 0 where
  pub setup : left.setup ≡ b.setup
  pub links : left.links ≡ b.links
  pub ranking : left.ranking ≡ b.ranking
  pub ports : left.ports ≡ b.ports

-- Receive, refused with 7 to 9: frameCount is byte 30 of the frame
pub record FrameNoted (b : Bridge) (port : ℕ) (frame : List ℕ) (arrival : ℕ) (left : Bridge) : Type 0 where
  pub noted : Noted (number_at frame 30 1) (record { 0 = arrival }) (port_at b.ports (port - 1)) (port_at left.ports (port - 1))
  pub beside : BesideRecord (port - 1) b left

-- Own clock, refused with 8
pub record ReadingNoted (b : Bridge) (count now : ℕ) (left : Bridge) : Type 0 where
  pub noted : NotedClock count (record { 0 = now }) b.clock left.clock
  pub beside : BesideClock b left

-- Send, refused with 10 to 13
pub record CountUsed (b : Bridge) (port : ℕ) (left : Bridge) : Type 0 where
  pub used : Used (port_at b.ports (port - 1)) (port_at left.ports (port - 1))
  pub beside : BesideRecord (port - 1) b left
