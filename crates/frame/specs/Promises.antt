-- What the public calls on frames promise, each by one record.
use Rattle.std.specs.Prelude.{◌≡◌, List, ℕ, length, Result, ⊤}
use Rattle.std.specs.Borrow.{Bor}
use Rattle.refusals.specs.Answer.{answer_number}
use Rattle.refusals.specs.Promises.{AnswerPromise}
use Rattle.refusals.specs.declared.Refusal.{Refusal}
use Rattle.frame.specs.Read.{read_of}
use Rattle.frame.specs.Values.{bytes_refusal, fields_at}
use Rattle.frame.specs.Write.{write_refusal, written_of}
use Rattle.frame.specs.Better.{lies, better_part_of}
use Rattle.frame.specs.declared.Fields.{Fields}

-- the fields or the refusal; its number and each field, by the bytes
abbrev pub ReadPromise : List ℕ → Result Fields Refusal → Type 0
ReadPromise s r = AnswerPromise (read_of s) (bytes_refusal s) (fields_at s) r

-- the answer, its number, and every byte of the output
pub record WritePromise (f : Fields) (out : List ℕ) (r : Result ⊤ Refusal) (left : List ℕ) : Type 0 where
  pub answer : r ≡ write_refusal f (length out)
  pub number : answer_number r ≡ answer_number (write_refusal f (length out))
  pub bytes : left ≡ written_of f out

-- where the part lies, and its bytes
pub record BetterPromise (a b r : Bor (List ℕ)) : Type 0 where
  pub part : lies r ≡ better_part_of a b
