-- Laws of an answer that is a value or a refusal: what a definition's answer tells, test by test, is promised of what is equal to it; and two outcomes are equal.
use Rattle.std.proofs.Common.{◌≡◌, refl, sym, ap, ◌∙◌, Bool, true, false, cond, ℕ, Result}
use Rattle.refusals.specs.Chain.{unless, carried}
use Rattle.refusals.specs.Refusals.{number_of}
use Rattle.refusals.specs.Answer.{answer_number, answer_value, require}
use Rattle.refusals.specs.Promises.{AnswerPromise}
use Rattle.refusals.specs.declared.Refusal.{Refusal}

module _ {A : Type 0} (given : A) where
  -- an answer with the number of a refusal, or with 0 and the value
  abbrev pub Told : Result A Refusal → ℕ → Type 0
  Told a refusal = (answer_number a ≡ refusal) × (answer_value a ≡ carried refusal given)

  -- what is equal to such an answer is as promised
  pub as_told : {said r : Result A Refusal} {refusal : ℕ} → Told said refusal → r ≡ said → AnswerPromise said refusal given r
  as_told t e = record { answer = e; number = ap answer_number e ∙ t.0; value = ap answer_value e ∙ t.1 }

  -- one test more before an answer
  pub test_told : (x y : Result A Refusal) {n k : ℕ} → Told x n → Told y k → (t : Bool) → Told (cond t x y) (unless t k n)
  test_told x y p q true = p
  test_told x y p q false = q

-- two outcomes of a promise are equal
pub answer_one : {A : Type 0} (said : Result A Refusal) (refusal : ℕ) (given : A) (x y : Result A Refusal)
    → AnswerPromise said refusal given x → AnswerPromise said refusal given y → x ≡ y
answer_one said refusal given x y p q = p.answer ∙ sym q.answer

-- the number of a chain of tests is the chain of the numbers
pub require_number : {A : Type 0} (t : Bool) (refusal : Refusal) (rest : Result A Refusal)
    → answer_number (require t refusal rest) ≡ unless t (number_of refusal) (answer_number rest)
require_number true refusal rest = refl
require_number false refusal rest = refl
