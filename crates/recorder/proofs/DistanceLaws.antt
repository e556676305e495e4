-- Laws of the signed distance: it is the way on or the way back round the circle, whichever is shorter.
use mathlib.Core.Path.{◌≡◌, sym, ap, ◌∙◌}
use Prim.Native.Nat.{ℕ, ◌+◌, ◌<◌, ◌≤◌}
use native.Mathlib.Nat.{lt_of_not-le}
use native.Mathlib.Decide.{dec_le}
use native.Mathlib.Omega.{arith}
use borrow.Author.Tests.{lt-ltb, le-ltb}
use lib.IntN.{pos, neg_ℤ, nat_abs, ◌-ℤ◌}
use Rattle.times.specs.Times.{circle, since_of}
use Rattle.times.specs.declared.LocalTime.{LocalTime}
use Rattle.recorder.specs.Stamp.{half_way, nearer_way, distance_of}
use Rattle.numbers.proofs.Ring.{nat_abs_neg, same, neg_pos, minus_is}

-- ---- the two ways round

pub way_on : (n : ℕ) → n < half_way → pos n ≡ nearer_way n
way_on n h = rw (lt-ltb n half_way h)

pub way_back : (n : ℕ) → half_way ≤ n → pos n -ℤ pos circle ≡ nearer_way n
way_back n h = rw (le-ltb n half_way h)

-- there and back is once round the circle, or not at all
pub there_and_back : (a b : LocalTime) → 0 < since_of a b → since_of a b + since_of b a ≡ circle
unfolding since_of
there_and_back a b h = omega arith

module _ (latch newer : LocalTime) where
  pub onward : since_of latch newer < half_way → distance_of latch newer ≡ pos (since_of latch newer)
  unfolding distance_of
  onward h = sym (way_on (since_of latch newer) h)

  pub backward : half_way ≤ since_of latch newer → distance_of latch newer ≡ neg_ℤ (pos (since_of newer latch))
  unfolding distance_of
  backward h =
      sym (way_back (since_of latch newer) h)
      ∙ rw (minus_is (since_of latch newer) circle, neg_pos (since_of newer latch))
      (same (since_of latch newer) circle 0 (since_of newer latch) (there_and_back latch newer (omega arith)))

  -- neither way round is shorter
  pub distance_nearest : (nat_abs (distance_of latch newer) ≤ since_of latch newer) × (nat_abs (distance_of latch newer) ≤ since_of newer latch)
  distance_nearest = go (dec_le half_way (since_of latch newer)) (dec_le 1 (since_of latch newer))
    where
      go : Dec (half_way ≤ since_of latch newer) → Dec (1 ≤ since_of latch newer) → (nat_abs (distance_of latch newer) ≤ since_of latch newer) × (nat_abs (distance_of latch newer) ≤ since_of newer latch)
      go (yes h) d =
          let e = there_and_back latch newer (omega arith) in
          let s : nat_abs (distance_of latch newer) ≡ since_of newer latch = ap nat_abs (backward h) ∙ nat_abs_neg (pos (since_of newer latch)) in
          (omega arith, omega arith)
      go (no h) (yes k) =
          let e = there_and_back latch newer k in
          let s : nat_abs (distance_of latch newer) ≡ since_of latch newer = ap nat_abs (onward (lt_of_not-le h)) in
          let l = lt_of_not-le h in
          (omega arith, omega arith)
      go (no h) (no k) =
          let s : nat_abs (distance_of latch newer) ≡ since_of latch newer = ap nat_abs (onward (lt_of_not-le h)) in
          let l = lt_of_not-le k in
          (omega arith, omega arith)
