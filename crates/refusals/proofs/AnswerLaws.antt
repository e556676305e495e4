-- Laws of an answer: its number and what it carries.
use Rattle.std.proofs.Common.{◌≡◌, refl, Ok, Err}
use mathlib.Core.Option.{none, some}
use Rattle.refusals.specs.Refusals.{number_of}
use Rattle.refusals.specs.Answer.{answer_number, answer_value}
use Rattle.refusals.specs.declared.Refusal.{Refusal}

-- one that is done has the number 0 and carries its value
pub done_carries : {A : Type 0} (value : A) → (answer_number (Ok value) ≡ 0) × (answer_value (Ok value) ≡ some value)
done_carries value = (refl, refl)

-- one that is refused has the refusal's number and carries nothing
pub refused_carries : {A : Type 0} (refusal : Refusal) → (answer_number {A = A} (Err refusal) ≡ number_of refusal) × (answer_value {A = A} (Err refusal) ≡ none)
refused_carries refusal = (refl, refl)
