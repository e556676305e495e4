-- The order of refusals of Stamp: the number given is the lowest that applies.
use mathlib.Core.Path.{◌≡◌, refl, ap}
use Rattle.std.proofs.Common.{Option, Some, None}
use mathlib.Core.List.{[], ◌∷◌}
use Prim.Native.Nat.{ℕ, ◌^◌, ◌<◌, ◌≤◌}
use native.Mathlib.Omega.{arith}
use lib.IntN.{ℤ, pos, negsuc, nat_abs}
use Rattle.refusals.specs.Answer.{answer_number}
use Rattle.refusals.specs.Order.{given, Lowest, First, nowhere, here, later}
use Rattle.times.specs.Times.{moment_of}
use Rattle.times.specs.declared.LocalTime.{LocalTime}
use Rattle.times.specs.declared.GrandTime.{GrandTime}
use Rattle.samples.specs.Keep.{how_many, ends_of}
use Rattle.samples.specs.declared.Samples.{Samples}
use Rattle.samples.specs.declared.Ends.{Ends}
use Rattle.timeline.specs.Line.{reading_at}
use Rattle.choice.specs.declared.Candidate.{Candidate}
use Rattle.bridge.specs.Chosen.{chosen_of}
use Rattle.bridge.specs.Send.{chosen_samples}
use Rattle.bridge.specs.declared.Bridge.{Bridge}
use Rattle.recorder.specs.Stamp.{latched, distance_of, stamp_as, stamp_through, stamp_by_of, stamp_of}
use Rattle.recorder.specs.Conditions.{TooFar, NoGrandTime, latch_conditions, stamp_conditions}
use Rattle.samples.proofs.KeepLaws.{few_ends, both_ends}
use Rattle.refusals.proofs.Order.{first_lowest, less_fails, most_fails, fails_same, first_else}

-- 13 by the line at the latch
reading_order : (z : ℤ) → First (answer_number (stamp_as (moment_of z))) (given 13 ((n : ℕ) → z ≡ pos n → 2 ^ 80 ≤ n) ∷ [])
unfolding moment_of
reading_order (pos m) =
    first_else (λ (x : Option GrandTime). answer_number (stamp_as x)) (fails_same (λ h n e. omega (arith, h, ap nat_abs e)) (λ h. h m refl) (less_fails m (2 ^ 80))) (λ _. nowhere refl)
reading_order (negsuc m) =
    let below : (n : ℕ) → negsuc m ≡ pos n → 2 ^ 80 ≤ n = λ n e. let z : ◌≡◌ {A = ℕ} 0 1 = cc in absurd (omega arith) in
    here _ _ below refl

-- 11, then 12, then 13
latch_order : (samples : Samples) (latch : LocalTime) → First (answer_number (stamp_through (ends_of samples) latch)) (latch_conditions samples latch)
latch_order samples latch = by (ends_of samples) refl
  where
    by : (ends : Option Ends) → ends_of samples ≡ ends
        → First (answer_number (stamp_through ends latch)) (given 11 (how_many samples < 2) ∷ given 12 (TooFar ends latch) ∷ given 13 (NoGrandTime ends latch) ∷ [])
    by None q = here _ _ (few_ends samples q) refl
    by (Some e) q =
        let x = distance_of latch e.newest.local in
        later _ _ (both_ends samples e q) (first_else answer_number (most_fails (nat_abs x) (2 ^ 39)) (λ _. reading_order (reading_at e.oldest e.newest x)))

-- 10, then these
chosen_order : (choice : Option Candidate) (samples : Samples) (latch : LocalTime) → First (answer_number (stamp_by_of choice samples latch)) (given 10 (choice ≡ None) ∷ latch_conditions samples latch)
chosen_order None samples latch = here _ _ refl refl
chosen_order (Some c) samples latch = later _ _ (λ (e : Some c ≡ None). let z : ◌≡◌ {A = ℕ} 0 1 = cc in omega arith) (latch_order samples latch)

-- the lowest of 2 and 10 to 13 whose condition holds
pub stamp_lowest : (b : Bridge) (latch : ℕ) → Lowest (stamp_conditions b latch) (answer_number (stamp_of b latch))
unfolding stamp_of
stamp_lowest b latch = first_lowest 1 refl (first_else answer_number (less_fails latch (2 ^ 48)) (λ _. chosen_order (chosen_of b) (chosen_samples b) (latched latch)))
