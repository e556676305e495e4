-- The order of refusals of Read and Write: the number given is the lowest that applies.
use mathlib.Core.Path.{◌≡◌, refl, sym}
use mathlib.Core.Bool.{Bool, true, false}
use mathlib.Core.List.{List, ◌∷◌}
use Prim.Native.Nat.{ℕ, ◌^◌}
use lib.ListN.{length}
use Rattle.std.proofs.Common.{Result, Ok, Err}
use Rattle.std.specs.Bool.{⊤}
use Rattle.refusals.specs.Refusals.{number_of}
use Rattle.refusals.specs.Answer.{answer_number, granted, require}
use Rattle.refusals.specs.declared.Refusal.{Refusal}
use Rattle.refusals.specs.declared.Refusal.TheVariants.{OutOfRange, WrongLength, WrongConstant, WrongVersion}
use Rattle.refusals.specs.Order.{Condition, given, Lowest, First, nowhere, here, later}
use Rattle.numbers.specs.Bytes.{number_at}
use Rattle.numbers.specs.Table.{parted}
use Rattle.frame.specs.Frame.{is_version}
use Rattle.frame.specs.Read.{rows_of, read_refusal, read_as, read_of}
use Rattle.frame.specs.Write.{write_refusal}
use Rattle.frame.specs.Order.{NoVersion, read_conditions, write_conditions}
use Rattle.frame.specs.declared.Fields.{Fields}
use Rattle.refusals.proofs.Order.{Fails, first_lowest, same_number, less_fails, most_fails, same_fails, both_fail}

-- a refusal where the test fails, and else the rest
pub first_require : {A : Type 0} {t : Bool} {P : Type 0} {cs : List Condition} (k : Refusal) (rest : Result A Refusal) → Fails t P → First (answer_number rest) cs
    → First (answer_number (require t k rest)) (given (number_of k) P ∷ cs)
first_require {t = t} {P = P} {cs = cs} k rest d f = by t refl where
  by : (s : Bool) → t ≡ s → First (answer_number (require s k rest)) (given (number_of k) P ∷ cs)
  by true e = later _ _ (d.not e) f
  by false e = here _ _ (d.is e) refl

-- a version that there is not is neither 1 nor 2
pub version_fails : (version : ℕ) → Fails (is_version version) (NoVersion version)
version_fails version = both_fail (same_fails version 1) (same_fails version 2)

-- ---- Read

-- 4, then 5, then 6
pub read_order : (s : List ℕ) → First (answer_number (read_refusal s)) (read_conditions s)
unfolding read_refusal parted
read_order s =
    first_require WrongLength _ (same_fails (length s) 64)
    (first_require WrongConstant _ (same_fails (number_at s 0 6) 0x0180C200000E)
    (first_require WrongConstant _ (same_fails (number_at s 12 2) 0x88B5)
    (first_require WrongConstant _ (same_fails (number_at s 14 1) 1)
    (first_require WrongConstant _ (same_fails (number_at s 31 1) 0)
    (first_require WrongVersion granted (version_fails (number_at s 15 1)) (nowhere refl))))))

-- the answer's number is the refusal
pub read_number : (s : List ℕ) → answer_number (read_of s) ≡ answer_number (read_refusal s)
unfolding read_of
read_number s = by (read_refusal s) where
  by : (x : Result ⊤ Refusal) → answer_number (read_as x (rows_of s)) ≡ answer_number x
  by (Ok _) = refl
  by (Err k) = refl

-- the lowest of 4 to 6 whose condition holds
pub read_lowest : (s : List ℕ) → Lowest (read_conditions s) (answer_number (read_of s))
read_lowest s = first_lowest 1 refl (same_number (sym (read_number s)) (read_order s))

-- ---- Write

-- 2, then 4, then 6
write_order : (f : Fields) (room : ℕ) → First (answer_number (write_refusal f room)) (write_conditions f room)
unfolding write_refusal
write_order f room =
    first_require OutOfRange _ (less_fails f.grand.0 (2 ^ 40))
    (first_require OutOfRange _ (less_fails f.grand.1 (2 ^ 40))
    (first_require OutOfRange _ (less_fails f.local.0 (2 ^ 48))
    (first_require OutOfRange _ (less_fails f.tx.0 (2 ^ 48))
    (first_require OutOfRange _ (less_fails f.rx.0 (2 ^ 48))
    (first_require WrongLength _ (most_fails 64 room)
    (first_require WrongVersion granted (version_fails f.version) (nowhere refl)))))))

-- the lowest of 2, 4 and 6 whose condition holds
pub write_lowest : (f : Fields) (room : ℕ) → Lowest (write_conditions f room) (answer_number (write_refusal f room))
write_lowest f room = first_lowest 1 refl (write_order f room)
