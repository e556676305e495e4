-- When Read and Write refuse: each condition by itself, with its number.
use Rattle.std.specs.Prelude.{List, [], ◌∷◌, ◌≢◌, ℕ, ◌^◌, ◌<◌, ◌≤◌, length}
use Rattle.refusals.specs.Order.{Condition, given}
use Rattle.numbers.specs.Bytes.{number_at}
use Rattle.frame.specs.declared.Fields.{Fields}

-- neither version 1 nor version 2
abbrev pub NoVersion : ℕ → Type 0
NoVersion version = (version ≢ 1) × (version ≢ 2)

-- Read: the length; da, protocolType, function and byte 31; version
abbrev pub read_conditions : List ℕ → List Condition
read_conditions s =
    given 4 (length s ≢ 64)
    ∷ given 5 (number_at s 0 6 ≢ 0x0180C200000E)
    ∷ given 5 (number_at s 12 2 ≢ 0x88B5)
    ∷ given 5 (number_at s 14 1 ≢ 1)
    ∷ given 5 (number_at s 31 1 ≢ 0)
    ∷ given 6 (NoVersion (number_at s 15 1))
    ∷ []

-- Write, into an output of so many bytes: seconds and fraction of grandTime, the three local times, the output, the version
abbrev pub write_conditions : Fields → ℕ → List Condition
write_conditions f room =
    given 2 (2 ^ 40 ≤ f.grand.0)
    ∷ given 2 (2 ^ 40 ≤ f.grand.1)
    ∷ given 2 (2 ^ 48 ≤ f.local.0)
    ∷ given 2 (2 ^ 48 ≤ f.tx.0)
    ∷ given 2 (2 ^ 48 ≤ f.rx.0)
    ∷ given 4 (room < 64)
    ∷ given 6 (NoVersion f.version)
    ∷ []
