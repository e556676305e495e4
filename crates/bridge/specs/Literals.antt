-- Document 01's literals, one table: those of the refusals, of the frame and of the records, and here those of Setup and of the calls' arguments.
use Rattle.std.specs.Prelude.{true, false, List, [], ◌∷◌, ◌++◌, ℕ, ◌+◌, ◌-◌, ◌^◌, get_or, replicate}
use Rattle.refusals.specs.Answer.{answer_number}
use Rattle.refusals.specs.Literals.{Literal, literal, tested, numbers}
use Rattle.delay.specs.declared.DelaySetting.TheVariants.{Fixed}
use Rattle.port.specs.declared.Profile.TheVariants.{Full}
use Rattle.port.specs.declared.Setting.{Setting}
use Rattle.timeline.specs.Drift.{drift_no}
use Rattle.frame.specs.Literals.{frame_literals}
use Rattle.port.specs.Literals.{record_literals}
use Rattle.bridge.specs.Table.{port_at}
use Rattle.bridge.specs.Arguments.{port_refusal, send_refusal, own_clock_refusal, mask_beyond}
use Rattle.bridge.specs.Fits.{measured_setting, first_versions, no_mac, no_precedence, plain_setup}
use Rattle.bridge.specs.Setup.{default_timeout, default_back, no_bridge, setup_of}
use Rattle.bridge.specs.Links.{links_of}
use Rattle.bridge.specs.Age.{age_of}
use Rattle.bridge.specs.Drift.{drift_at}

-- ---- Setup

-- what Setup answers to so many ports, a timeout and a backTime
abbrev plain : ℕ → ℕ → ℕ → ℕ
plain n timeout back = answer_number (setup_of (plain_setup n timeout back)).answer

-- and to so many ports with these settings and versions
abbrev with : ℕ → List Setting → List ℕ → ℕ
with n settings versions = answer_number (setup_of (record {
  n = n;
  sender = record { profile = Full; mac = no_mac; back = 0 };
  own = no_precedence;
  capable = false;
  timeout = 2 ^ 39;
  settings = settings;
  versions = versions;
})).answer

-- one port with this fixed delay, beside an entry that is none of its
abbrev fixed : ℕ → ℕ
fixed delay = with 1 (record { delay = Fixed delay } ∷ record { delay = Fixed (2 ^ 48) } ∷ []) first_versions

-- so many ports with the first of these versions, beside entries that are none of theirs
abbrev versioned : ℕ → List ℕ → ℕ
versioned n versions = with n (replicate 8 measured_setting) (versions ++ (3 ∷ 0 ∷ []))

abbrev setups : List Literal
setups =
    -- ports 1..8
    literal (plain 0 (2 ^ 39) 0) 1
    ∷ literal (plain 1 (2 ^ 39) 0) 0
    ∷ literal (plain 8 (2 ^ 39) 0) 0
    ∷ literal (plain 9 (2 ^ 39) 0) 1
    -- timeout 2^36..2^46, by default 2^39
    ∷ literal (plain 1 (2 ^ 36 - 1) 0) 1
    ∷ literal (plain 1 (2 ^ 36) 0) 0
    ∷ literal (plain 1 (2 ^ 46) 0) 0
    ∷ literal (plain 1 (2 ^ 46 + 1) 0) 1
    ∷ literal default_timeout (2 ^ 39)
    -- backTime up to 2^39 - 1, by default 15 ms
    ∷ literal (plain 1 (2 ^ 39) (2 ^ 39 - 1)) 0
    ∷ literal (plain 1 (2 ^ 39) (2 ^ 39)) 1
    ∷ literal default_back 16492674417
    -- a fixed delay up to 2^30; entries beyond the ports are not looked at
    ∷ literal (fixed (2 ^ 30)) 0
    ∷ literal (fixed (2 ^ 30 + 1)) 1
    -- version 1 or 2 at each port, by default 1; entries beyond the ports are not looked at
    ∷ literal (versioned 1 (0 ∷ [])) 1
    ∷ literal (versioned 1 (1 ∷ [])) 0
    ∷ literal (versioned 1 (2 ∷ [])) 0
    ∷ literal (versioned 1 (3 ∷ [])) 1
    ∷ literal (versioned 1 (255 ∷ [])) 1
    ∷ literal (versioned 2 (1 ∷ 2 ∷ [])) 0
    ∷ literal (versioned 2 (2 ∷ 3 ∷ [])) 1
    ∷ literal (versioned 2 (3 ∷ 2 ∷ [])) 1
    ∷ literal (get_or first_versions 0 0) 1
    ∷ literal (get_or first_versions 7 0) 1
    -- all links are down, and each port's first frameCount is 0
    ∷ literal (setup_of (plain_setup 8 (2 ^ 39) 0)).next.links 0
    ∷ literal (port_at (setup_of (plain_setup 8 (2 ^ 39) 0)).next.ports 7).count 0
    ∷ []

-- ---- the calls' arguments

abbrev arguments : List Literal
arguments =
    -- a mask with a bit beyond N
    literal (tested (mask_beyond 8 255)) 0
    ∷ literal (tested (mask_beyond 2 3)) 0
    ∷ literal (tested (mask_beyond 2 4)) 1
    ∷ literal (answer_number (links_of no_bridge 1).answer) 2
    -- a port not 1..N, a local time at or above 2^48, no link; bit 0 is for port 1
    ∷ literal (answer_number (port_refusal 8 255 0 0)) 2
    ∷ literal (answer_number (port_refusal 8 255 1 0)) 0
    ∷ literal (answer_number (port_refusal 8 255 8 0)) 0
    ∷ literal (answer_number (port_refusal 7 255 8 0)) 2
    ∷ literal (answer_number (port_refusal 8 255 8 (2 ^ 48 - 1))) 0
    ∷ literal (answer_number (port_refusal 8 255 8 (2 ^ 48))) 2
    ∷ literal (answer_number (port_refusal 8 1 1 0)) 0
    ∷ literal (answer_number (port_refusal 8 254 1 0)) 3
    ∷ literal (answer_number (port_refusal 8 128 8 0)) 0
    ∷ literal (answer_number (port_refusal 8 127 8 0)) 3
    -- an output of 64 bytes
    ∷ literal (answer_number (send_refusal 8 255 8 0 63)) 4
    ∷ literal (answer_number (send_refusal 8 255 8 0 64)) 0
    -- own clock: seconds and fraction below 2^40, now below 2^48, capable
    ∷ literal (answer_number (own_clock_refusal true (2 ^ 40 - 1) (2 ^ 40 - 1) (2 ^ 48 - 1))) 0
    ∷ literal (answer_number (own_clock_refusal true (2 ^ 40) 0 0)) 2
    ∷ literal (answer_number (own_clock_refusal true 0 (2 ^ 40) 0)) 2
    ∷ literal (answer_number (own_clock_refusal true 0 0 (2 ^ 48))) 2
    ∷ literal (answer_number (own_clock_refusal false 0 0 0)) 10
    -- Age: a local time at or above 2^48
    ∷ literal (answer_number (age_of no_bridge (2 ^ 48 - 1)).answer) 0
    ∷ literal (answer_number (age_of no_bridge (2 ^ 48)).answer) 2
    -- Drift: a port above N, here 0
    ∷ literal (drift_no (drift_at no_bridge 0)) 0
    ∷ literal (drift_no (drift_at no_bridge 1)) 2
    ∷ []

unfoldable pub bridge_literals : List Literal
bridge_literals = setups ++ arguments

-- all of them
abbrev pub literals : List Literal
literals = numbers ++ (frame_literals ++ (record_literals ++ bridge_literals))
