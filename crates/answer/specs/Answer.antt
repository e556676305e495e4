-- What a line is answered with: the state after it, and the text printed for it.
use Rattle.std.specs.Prelude.{ℕ, ◌≡◌, List, ⊤}
use Rattle.bridge.specs.State.{Lawful}
use Rattle.bridge.specs.declared.Bridge.{Bridge}
use Rattle.bridge.specs.declared.Done.{Done}
use Rattle.refusals.specs.Refusals.{bad_line}
use Rattle.refusals.specs.Answer.{answer_number}
use Rattle.columns.specs.Columns.{line1, Prints}
use Rattle.answer.specs.declared.Answered.{Answered}

pub record Answer : Type 0 where
  pub next : Bridge
  pub text : List ℕ

abbrev pub says : Bridge → List ℕ → Answer
says b t = record { next = b; text = t }

-- a line that has not the form of one
abbrev pub bad_text : List ℕ
bad_text = line1 bad_line

abbrev pub refused_line : Bridge → Answer
refused_line b = says b bad_text

-- a call whose answer carries nothing
abbrev pub done_says : Done ⊤ → Answer
done_says d = says d.next (line1 (answer_number d.answer))

-- ---- what a function that answers a line promises

pub record Says (want : Answer) (got : Answered) (was left : List ℕ) : Type 0 where
  pub state : got.next ≡ want.next
  pub prints : Prints want.text got.len was left
  pub lawful : Lawful got.next
