-- When each call on the state refuses: every condition by itself, with its number.
use Rattle.std.specs.Prelude.{◌≡◌, Bool, true, false, List, [], ◌∷◌, ◌++◌, ◌⊎◌, ◌≢◌, ℕ, ◌-◌, ◌^◌, ◌<◌, ◌≤◌, get_or}
use Rattle.refusals.specs.Order.{Condition, given}
use Rattle.numbers.specs.Bytes.{number_at}
use Rattle.times.specs.declared.LocalTime.{LocalTime}
use Rattle.delay.specs.declared.DelaySetting.{DelaySetting}
use Rattle.delay.specs.declared.DelaySetting.TheVariants.{Measured, Fixed}
use Rattle.frame.specs.Order.{NoVersion, read_conditions}
use Rattle.port.specs.Order.{frame_conditions, reading_conditions, departure_conditions}
use Rattle.port.specs.declared.Profile.{Profile}
use Rattle.port.specs.declared.Profile.TheVariants.{Full, Listener}
use Rattle.port.specs.declared.Setting.{Setting}
use Rattle.bridge.specs.Arguments.{bit}
use Rattle.bridge.specs.Table.{port_at}
use Rattle.bridge.specs.Fits.{measured_setting}
use Rattle.bridge.specs.State.{version_at}
use Rattle.bridge.specs.Receive.{setting_at}
use Rattle.bridge.specs.Chosen.{chosen_of}
use Rattle.bridge.specs.Send.{chosen_samples}
use Rattle.bridge.specs.declared.Setup.{Setup}
use Rattle.bridge.specs.declared.Bridge.{Bridge}

-- the 6 bytes of a frame from a on, as a local time
abbrev time_at : List ℕ → ℕ → LocalTime
time_at frame a = record { 0 = number_at frame a 6 }

-- ---- Setup

-- a fixed delay above 2^30, at one of the first n ports: entries beyond are not looked at
abbrev pub Above : DelaySetting → Type 0
Above Measured = ⊥
Above (Fixed delay) = 2 ^ 30 < delay

abbrev pub FixedAbove : ℕ → List Setting → Type 0
FixedAbove n settings = (i : ℕ) × (i < n) × Above (get_or settings i measured_setting).delay

-- a version other than 1 and 2, at one of them
abbrev pub OtherVersion : ℕ → List ℕ → Type 0
OtherVersion n versions = (i : ℕ) × (i < n) × NoVersion (get_or versions i 1)

-- a listener with other than one port, capable, or with a backTime other than 0
abbrev pub ListenerOtherwise : Profile → ℕ → Bool → ℕ → Type 0
ListenerOtherwise Full n capable back = ⊥
ListenerOtherwise Listener n capable back = (n ≢ 1) ⊎ ((capable ≡ true) ⊎ (back ≢ 0))

-- a listener set up otherwise; ports not 1..8, timeout not 2^36..2^46, backTime above 2^39 - 1, a fixed delay above 2^30,
-- a version other than 1 and 2
abbrev pub setup_conditions : Setup → List Condition
setup_conditions s =
    given 1 (ListenerOtherwise s.sender.profile s.n s.capable s.sender.back)
    ∷ given 1 (s.n < 1)
    ∷ given 1 (8 < s.n)
    ∷ given 1 (s.timeout < 2 ^ 36)
    ∷ given 1 (2 ^ 46 < s.timeout)
    ∷ given 1 (2 ^ 39 - 1 < s.sender.back)
    ∷ given 1 (FixedAbove s.n s.settings)
    ∷ given 1 (OtherVersion s.n s.versions)
    ∷ []

-- ---- Links, Age and Drift

-- a mask with a bit beyond n
abbrev pub BitBeyond : ℕ → ℕ → Type 0
BitBeyond n mask = (i : ℕ) × (n ≤ i) × (bit mask i ≡ 1)

abbrev pub links_conditions : Bridge → ℕ → List Condition
links_conditions b mask = given 2 (BitBeyond b.setup.n mask) ∷ []

-- a local time at or above 2^48
abbrev pub age_conditions : ℕ → List Condition
age_conditions at = given 2 (2 ^ 48 ≤ at) ∷ []

-- a port above n
abbrev pub drift_conditions : Bridge → ℕ → List Condition
drift_conditions b port = given 2 (b.setup.n < port) ∷ []

-- ---- Own clock: seconds or fraction at or above 2^40, a local time at or above 2^48; not capable; then the frameCount

abbrev pub own_clock_conditions : Bridge → ℕ → ℕ → ℕ → ℕ → List Condition
own_clock_conditions b count seconds fraction at =
    given 2 (2 ^ 40 ≤ seconds)
    ∷ given 2 (2 ^ 40 ≤ fraction)
    ∷ given 2 (2 ^ 48 ≤ at)
    ∷ given 10 (b.setup.capable ≡ false)
    ∷ reading_conditions b.clock.preceding count

-- ---- Receive and Send

-- the port is not 1..n, the local time is at or above 2^48, the port has no link
abbrev pub port_conditions : ℕ → ℕ → ℕ → ℕ → List Condition
port_conditions n links port at =
    given 2 (port < 1)
    ∷ given 2 (n < port)
    ∷ given 2 (2 ^ 48 ≤ at)
    ∷ given 3 (bit links (port - 1) ≡ 0)
    ∷ []

-- what a frame that was read meets at the port at index i: by its hopCount, frameCount, localTime, thatTxTime and thatRxTime, as its bytes have them
abbrev pub heard_conditions : Bridge → ℕ → List ℕ → List Condition
heard_conditions b i frame =
    frame_conditions (setting_at b i).delay (port_at b.ports i).preceding (port_at b.ports i).pair
    (number_at frame 29 1) (number_at frame 30 1) (time_at frame 42) (time_at frame 48) (time_at frame 54)

-- the port, the frame's bytes, and then these
abbrev pub receive_conditions : Bridge → ℕ → List ℕ → ℕ → List Condition
receive_conditions b port frame arrival = port_conditions b.setup.n b.links port arrival ++ (read_conditions frame ++ heard_conditions b (port - 1) frame)

-- the port, an output shorter than 64, and then, of a full bridge, the chosen clock, its samples, the sent grand time and errorTime
abbrev pub send_conditions : Bridge → ℕ → ℕ → ℕ → List Condition
send_conditions b port t room =
    port_conditions b.setup.n b.links port t
    ++ (given 4 (room < 64) ∷ departure_conditions b.setup.sender.profile (chosen_of b) (chosen_samples b) (version_at b (port - 1)) (record { 0 = t }) b.setup.sender.back)
