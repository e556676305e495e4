-- Laws of the link delay: one for each case, and that what is measured is never too long.
use mathlib.Core.Path.{◌≡◌, refl}
use mathlib.Core.Bool.{Bool, true, false, cond, ◌&&◌}
use Prim.Native.Nat.{ℕ, ◌≤◌}
use native.Mathlib.Omega.{arith}
use mathlib.Core.Logic.{◌⊎◌, inl, inr}
use Rattle.std.proofs.Common.{Result, Ok, Err}
use borrow.Author.Tests.{le-leb, leb-true, eq-eqb, eqb-true}
use lib.Dec.{leb, eqb}
use lib.IntN.{ℤ}
use Rattle.refusals.specs.Answer.{answer_number}
use Rattle.refusals.specs.declared.Refusal.{Refusal}
use Rattle.refusals.specs.declared.Refusal.TheVariants.{DelayTooLong}
use Rattle.times.specs.Times.{since_of}
use Rattle.times.specs.declared.LocalTime.{LocalTime}
use Rattle.delay.specs.Delay.{longest_trip, longest_delay, delay_of, measured_of, link_delay_of}
use Rattle.delay.specs.declared.DelaySetting.{DelaySetting}
use Rattle.delay.specs.declared.DelaySetting.TheVariants.{Measured, Fixed}
use Rattle.times.proofs.TestLaws.{both_hold, three_hold, refuted}

module _ (rate : ℤ) (trip turn : ℕ) where
  -- ---- what is measured

  abbrev short : Bool
  short = leb trip longest_trip && leb turn longest_trip && leb (delay_of rate trip turn) longest_delay

  short_tells : short ≡ true → (trip ≤ longest_trip) × (turn ≤ longest_trip) × (delay_of rate trip turn ≤ longest_delay)
  short_tells e =
      let k = three_hold (leb trip longest_trip) (leb turn longest_trip) (leb (delay_of rate trip turn) longest_delay) e in
      (leb-true _ _ k.0, leb-true _ _ k.1, leb-true _ _ k.2)

  pub measured_is : trip ≤ longest_trip → turn ≤ longest_trip → delay_of rate trip turn ≤ longest_delay → Ok (delay_of rate trip turn) ≡ measured_of rate trip turn
  unfolding measured_of
  measured_is h k l = rw (le-leb trip longest_trip h, le-leb turn longest_trip k, le-leb (delay_of rate trip turn) longest_delay l)

  pub measured_long : (trip ≤ longest_trip → turn ≤ longest_trip → delay_of rate trip turn ≤ longest_delay → ⊥) → Err DelayTooLong ≡ measured_of rate trip turn
  unfolding measured_of
  measured_long f = rw (refuted short (λ e. let k = short_tells e in f k.0 k.1 k.2))

  -- a delay that is given is the rule's, and no part of it is too long
  pub measured_tells : (n : ℕ) → Ok n ≡ measured_of rate trip turn → (n ≡ delay_of rate trip turn) × (turn ≤ longest_trip) × (n ≤ longest_delay)
  unfolding measured_of
  measured_tells n e = go short refl e
    where
      go : (t : Bool) → short ≡ t → Ok n ≡ cond t (Ok (delay_of rate trip turn)) (Err DelayTooLong) → (n ≡ delay_of rate trip turn) × (turn ≤ longest_trip) × (n ≤ longest_delay)
      go true k f =
          let g : n ≡ delay_of rate trip turn = cc in
          let h = short_tells k in
          (g, h.1, omega (arith, h.2))
      go false k f = absurd cc

module _ (setting : DelaySetting) (rate : ℤ) (local p tx rx : LocalTime) where
  -- ---- by the port's setting

  pub delay_fixed : (n : ℕ) → setting ≡ Fixed n → Ok n ≡ link_delay_of setting rate local p tx rx
  unfolding link_delay_of
  delay_fixed n e = rw e

  pub delay_unheard : setting ≡ Measured → tx.0 ≡ 0 → rx.0 ≡ 0 → Ok 0 ≡ link_delay_of setting rate local p tx rx
  unfolding link_delay_of
  delay_unheard e h k = rw (e, eq-eqb tx.0 0 h, eq-eqb rx.0 0 k)

  pub delay_heard : setting ≡ Measured → (tx.0 ≡ 0 → rx.0 ≡ 0 → ⊥) → measured_of rate (since_of p tx) (since_of local rx) ≡ link_delay_of setting rate local p tx rx
  unfolding link_delay_of
  delay_heard e f =
      rw (e, refuted (eqb tx.0 0 && eqb rx.0 0) (λ t. let k = both_hold (eqb tx.0 0) (eqb rx.0 0) t in f (eqb-true _ _ k.0) (eqb-true _ _ k.1)))

-- a measured delay is at most the longest
pub delay_small : (rate : ℤ) (local p tx rx : LocalTime) (n : ℕ) → Ok n ≡ link_delay_of Measured rate local p tx rx → n ≤ longest_delay
unfolding link_delay_of
delay_small rate local p tx rx n e = go (eqb tx.0 0 && eqb rx.0 0) e
  where
    go : (t : Bool) → Ok n ≡ cond t (Ok 0) (measured_of rate (since_of p tx) (since_of local rx)) → n ≤ longest_delay
    go true f = let g : n ≡ 0 = cc in omega arith
    go false f = (measured_tells rate (since_of p tx) (since_of local rx) n f).2

-- the numbers of the answers
pub delay_numbers : (n : ℕ) → (answer_number {A = ℕ} (Ok n) ≡ 0) × (answer_number {A = ℕ} (Err DelayTooLong) ≡ 9)
delay_numbers n = (refl, refl)

-- and a measured delay is answered with no other
pub measured_numbers : (rate : ℤ) (trip turn : ℕ) → (answer_number (measured_of rate trip turn) ≡ 0) ⊎ (answer_number (measured_of rate trip turn) ≡ 9)
unfolding measured_of
measured_numbers rate trip turn = by (leb trip longest_trip && leb turn longest_trip && leb (delay_of rate trip turn) longest_delay)
  where
    by : (short : Bool) →
        let r : Result ℕ Refusal = cond short (Ok (delay_of rate trip turn)) (Err DelayTooLong) in
        (answer_number r ≡ 0) ⊎ (answer_number r ≡ 9)
    by true = inl refl
    by false = inr refl
