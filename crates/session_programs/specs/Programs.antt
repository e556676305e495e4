-- The programs: what each answers to a line, and its bridge before the first.
use Rattle.std.specs.Prelude.{◌≡◌, Bool, true, false, List, ℕ, ◌<◌, length}
use Rattle.bridge.specs.Setup.{no_bridge}
use Rattle.bridge.specs.declared.Bridge.{Bridge}
use Rattle.answer.specs.Answer.{Answer}
use Rattle.capture.specs.Capture.{start_of, listed_of}
use Rattle.latch.specs.Latch.{is_latch, latched_of}
use Rattle.replay_grammar.specs.Line.{longest_line, asks as replay_asks}
use Rattle.replay_calls.specs.Answer.{answer_of}

-- a program: its bridge before the first line, whether a line leaves the state as it is, whatever the state, and what it answers to a line
pub record Rules : Type 0 where
  pub start : Bridge
  pub asks : List ℕ → Bool
  pub answer : Bridge → List ℕ → Answer

-- the listing has no line that asks
abbrev pub listing : Rules
listing = record { start = start_of; asks = λ s. false; answer = listed_of }

abbrev pub replay : Rules
replay = record { start = no_bridge; asks = replay_asks; answer = answer_of }

abbrev pub stamps : Rules
stamps = record { start = start_of; asks = is_latch; answer = latched_of }

-- a line that asks leaves the state as it is, and lines longer than the longest of any program are answered alike
pub record ProgramLaws (p : Rules) : Type 0 where
  pub asked_stays : (b : Bridge) (s : List ℕ) → p.asks s ≡ true → (p.answer b s).next ≡ b
  pub long_alike : (b : Bridge) (s t : List ℕ) → longest_line < length s → longest_line < length t → p.answer b s ≡ p.answer b t
