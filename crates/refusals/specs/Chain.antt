-- A chain of tests that gives the number of a refusal, and what an answer carries by that number.
use Rattle.std.specs.Prelude.{Bool, true, false, ℕ, zero, suc}
use Rattle.std.proofs.Math.Option.{Option, none, some}

-- n where the test holds, else the refusal k
abbrev pub unless : Bool → ℕ → ℕ → ℕ
unless true k n = n
unless false k n = k

-- the value where the number is 0, and none with a refusal
abbrev pub carried : {A : Type 0} → ℕ → A → Option A
carried zero value = some value
carried (suc k) value = none
