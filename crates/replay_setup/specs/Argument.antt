-- What Setup is given by a line: S and P have the fields `n mac prec capable timeout back d1 .. d8`, V has `listener` before them and `versions` behind them.
-- Fields are counted from 0, the first after the letter.
use Rattle.std.specs.Prelude.{ℕ, ◌+◌, Bool, cond, List, [], ◌∷◌, get_or, eqb}
use Rattle.delay.specs.declared.DelaySetting.TheVariants.{Measured, Fixed}
use Rattle.port.specs.declared.Profile.{Profile}
use Rattle.port.specs.declared.Profile.TheVariants.{Full, Listener}
use Rattle.port.specs.declared.Setting.{Setting}
use Rattle.bridge.specs.Fits.{first_versions}
use Rattle.bridge.specs.Setup.{default_timeout, default_back}
use Rattle.bridge.specs.declared.Setup.{Setup}
use Rattle.forms.specs.Form.{number_in}
use Rattle.forms.specs.Value.{marked_in, byte_in, flag_in, number_or}
use Rattle.forms.specs.declared.Form.{Form}
use Rattle.replay_grammar.specs.Row.{letter_p, letter_v}
use Rattle.replay_frames.specs.Frames.{mac_from, precedence_from}

-- ---- where a line says what

-- the field of n in V, behind the flag, and in S and P
abbrev pub behind_listener : ℕ
behind_listener = 1

abbrev pub first_field : ℕ
first_field = 0

-- how many fields behind n the others stand: mac is the next, prec the one after it
abbrev pub capable_behind : ℕ
capable_behind = 3

abbrev pub timeout_behind : ℕ
timeout_behind = 4

abbrev pub back_behind : ℕ
back_behind = 5

abbrev pub delays_behind : ℕ
delays_behind = 6

-- V's flag
abbrev pub listener_field : ℕ
listener_field = 0

-- where V's versions begin among the line's bytes: behind the 6 of mac and the 13 of prec
abbrev pub versions_start : ℕ
versions_start = 19

-- ---- what it says

-- the profile
abbrev pub profile_by : Bool → Profile
profile_by listener = cond listener Listener Full

-- a port's delay, and the eight ports' from a field on
abbrev pub setting_in : Form → ℕ → Setting
setting_in f i = record { delay = cond (marked_in f i) Measured (Fixed (number_in f i)) }

unfoldable pub settings_in : Form → ℕ → List Setting
settings_in f i =
    setting_in f (i + 0) ∷ setting_in f (i + 1) ∷ setting_in f (i + 2) ∷ setting_in f (i + 3)
    ∷ setting_in f (i + 4) ∷ setting_in f (i + 5) ∷ setting_in f (i + 6) ∷ setting_in f (i + 7)
    ∷ []

-- the eight versions of V
abbrev pub version_in : List ℕ → ℕ → ℕ
version_in s i = get_or s (versions_start + i) 0

unfoldable pub versions_in : List ℕ → List ℕ
versions_in s = version_in s 0 ∷ version_in s 1 ∷ version_in s 2 ∷ version_in s 3 ∷ version_in s 4 ∷ version_in s 5 ∷ version_in s 6 ∷ version_in s 7 ∷ []

-- what Setup is given by the fields from n on, which every line has, with a profile and versions
unfoldable pub setup_from : Form → ℕ → Profile → List ℕ → Setup
setup_from f n profile versions = record {
  n = byte_in f n;
  sender = record { profile = profile; mac = mac_from f.bytes; back = number_or default_back f (n + back_behind) };
  own = precedence_from f.bytes;
  capable = flag_in f (n + capable_behind);
  timeout = number_or default_timeout f (n + timeout_behind);
  settings = settings_in f (n + delays_behind);
  versions = versions;
}

-- by the letter: V says profile and versions; a line P is a listener's and a line S a full bridge's, and both mean version 1
unfoldable pub setup_in : ℕ → Form → Setup
setup_in letter f =
    cond (eqb letter letter_v)
    (setup_from f behind_listener (profile_by (flag_in f listener_field)) (versions_in f.bytes))
    (setup_from f first_field (profile_by (eqb letter letter_p)) first_versions)
