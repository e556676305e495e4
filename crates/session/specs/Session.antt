-- What a turn promises: the bytes that it takes, what they print, and the session that they leave.
use Rattle.std.specs.Prelude.{◌≡◌, List, ℕ, ◌<◌, ◌≤◌, length, take}
use Rattle.bridge.specs.State.{Lawful}
use Rattle.session_programs.specs.Programs.{Rules}
use Rattle.session.specs.declared.Session.{Session}
use Rattle.session.specs.declared.Progress.{Progress}
use Rattle.session.specs.Lines.{kept_bytes, part, Fed, fed_of, Within}

-- the line as far as it is kept
abbrev pub line_of : Session → List ℕ
line_of s = take s.len s.text

-- a lawful bridge, and a line that is kept within its room
pub record Ready (s : Session) : Type 0 where
  pub lawful : Lawful s.bridge
  pub room : length s.text ≡ kept_bytes
  pub short : s.len ≤ kept_bytes

-- the session that bytes leave
pub record Leaves (want : Fed) (s : Session) : Type 0 where
  pub next : s.bridge ≡ want.next
  pub line : line_of s ≡ take kept_bytes want.line

-- what the bytes from `from` to its rest lead to and print; and where there are any, it takes some
pub record Turned (p : Rules) (s : Session) (bytes : List ℕ) (from : ℕ) (r : Progress) (out : List ℕ) : Type 0 where
  pub ready : Ready r.session
  pub leaves : Leaves (fed_of p s.bridge (line_of s) (part bytes from r.rest)) r.session
  pub text : take r.filled out ≡ (fed_of p s.bridge (line_of s) (part bytes from r.rest)).text
  pub within : Within from r.rest r.filled bytes out
  pub moves : from < length bytes → from < r.rest
