-- What Setup takes, and the plainest that it can be given.
use Rattle.std.specs.Prelude.{Bool, true, false, not, ◌&&◌, List, [], ◌∷◌, ℕ, ◌^◌, ltb, leb, eqb, take, replicate}
use Rattle.delay.specs.Delay.{longest_delay}
use Rattle.timeline.specs.Sent.{longest_elapsed}
use Rattle.delay.specs.declared.DelaySetting.{DelaySetting}
use Rattle.delay.specs.declared.DelaySetting.TheVariants.{Measured, Fixed}
use Rattle.choice.specs.declared.Precedence.{Precedence}
use Rattle.frame.specs.Frame.{first_version, is_version}
use Rattle.frame.specs.declared.Mac.{Mac}
use Rattle.port.specs.declared.Profile.{Profile}
use Rattle.port.specs.declared.Profile.TheVariants.{Full, Listener}
use Rattle.port.specs.declared.Setting.{Setting}
use Rattle.bridge.specs.Table.{most_ports}
use Rattle.bridge.specs.declared.Setup.{Setup}

-- a timeout from the least to the greatest; a fixed delay no longer than the longest
abbrev pub least_timeout : ℕ
least_timeout = 2 ^ 36

abbrev pub greatest_timeout : ℕ
greatest_timeout = 2 ^ 46

unfoldable pub delay_fits : DelaySetting → Bool
delay_fits Measured = true
delay_fits (Fixed delay) = leb delay longest_delay

-- a test holds of every element
unfoldable pub all : {A : Type 0} → (A → Bool) → List A → Bool
all test [] = true
all test (a ∷ l) = test a && all test l

-- every delay is such, and every version one that there is
abbrev pub setting_fits : Setting → Bool
setting_fits s = delay_fits s.delay

abbrev pub delays_fit_of : List Setting → Bool
delays_fit_of settings = all setting_fits settings

abbrev pub versions_fit_of : List ℕ → Bool
versions_fit_of versions = all is_version versions

-- ports, timeout, backTime and fixed delays are in their ranges, and there are such versions; entries beyond the n ports are not looked at
unfoldable pub ranges_fit : Setup → Bool
ranges_fit s =
    leb 1 s.n
    && (leb s.n most_ports
    && (leb least_timeout s.timeout
    && (leb s.timeout greatest_timeout
    && (ltb s.sender.back longest_elapsed && (delays_fit_of (take s.n s.settings) && versions_fit_of (take s.n s.versions))))))

-- a listener has one port, is never capable, and has backTime 0
abbrev pub listener_ports : ℕ
listener_ports = 1

abbrev pub listener_back : ℕ
listener_back = 0

unfoldable pub profile_fits : Profile → ℕ → Bool → ℕ → Bool
profile_fits Full n capable back = true
profile_fits Listener n capable back = eqb n listener_ports && (not capable && eqb back listener_back)

-- what Setup takes: what the profile allows, and these ranges
unfoldable pub setup_fits : Setup → Bool
setup_fits s = profile_fits s.sender.profile s.n s.capable s.sender.back && ranges_fit s

-- a port that measures its delay
abbrev pub measured_setting : Setting
measured_setting = record { delay = Measured }

-- version 1 at every port, the default
abbrev pub first_versions : List ℕ
first_versions = replicate most_ports first_version

-- an address and a precedence of zeros
abbrev pub no_mac : Mac
no_mac = record { 0 = 0; 1 = 0; 2 = 0; 3 = 0; 4 = 0; 5 = 0 }

abbrev pub no_precedence : Precedence
no_precedence = record { priority1 = 0; source = 0; variance = 0; priority2 = 0; clock = 0 }

-- a full bridge that is not capable, whose ports all measure their delay and send version 1
abbrev pub plain_setup : ℕ → ℕ → ℕ → Setup
plain_setup n timeout back = record {
  n = n;
  sender = record { profile = Full; mac = no_mac; back = back };
  own = no_precedence;
  capable = false;
  timeout = timeout;
  settings = replicate most_ports measured_setting;
  versions = first_versions;
}

-- the setup of no ports, every number zero
abbrev pub no_setup : Setup
no_setup = plain_setup 0 0 0
