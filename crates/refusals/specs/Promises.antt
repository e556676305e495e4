-- What a call promises whose answer is a value or a refusal: the answer; its number, by the refusal that the arguments meet; and the value that it carries where they meet none.
use Rattle.std.specs.Prelude.{◌≡◌, ℕ, Result}
use Rattle.refusals.specs.Chain.{carried}
use Rattle.refusals.specs.Answer.{answer_number, answer_value}
use Rattle.refusals.specs.declared.Refusal.{Refusal}

pub record AnswerPromise {A : Type 0} (said : Result A Refusal) (refusal : ℕ) (given : A) (r : Result A Refusal) : Type 0 where
  pub answer : r ≡ said
  pub number : answer_number r ≡ refusal
  pub value : answer_value r ≡ carried refusal given
