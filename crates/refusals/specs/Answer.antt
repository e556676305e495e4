-- An answer: a value, or a refusal. Its number and its value, a chain of tests that gives one, and what a call goes on to where the tests hold.
use Rattle.std.specs.Prelude.{Bool, true, false, ℕ, Result, Ok, Err, ⊤}
use Rattle.std.proofs.Math.Option.{Option, none, some}
use Rattle.refusals.specs.Refusals.{done, number_of}
use Rattle.refusals.specs.declared.Refusal.{Refusal}

-- document 01's number of an answer
abbrev pub answer_number : {A : Type 0} → Result A Refusal → ℕ
answer_number (Ok value) = done
answer_number (Err refusal) = number_of refusal

-- what an answer carries
abbrev pub answer_value : {A : Type 0} → Result A Refusal → Option A
answer_value (Ok value) = some value
answer_value (Err refusal) = none

-- the answer of a call that carries nothing where it is done
abbrev pub granted : Result ⊤ Refusal
granted = Ok tt

-- the rest where the test holds, else the refusal
abbrev pub require : {A : Type 0} → Bool → Refusal → Result A Refusal → Result A Refusal
require true refusal rest = rest
require false refusal rest = Err refusal

-- a refusal, or what follows where there is none
abbrev pub and_then : {A : Type 0} → Result ⊤ Refusal → Result A Refusal → Result A Refusal
and_then (Ok _) rest = rest
and_then (Err refusal) rest = Err refusal

-- an answer without what it carries
abbrev pub told : {A : Type 0} → Result A Refusal → Result ⊤ Refusal
told (Ok _) = granted
told (Err refusal) = Err refusal
