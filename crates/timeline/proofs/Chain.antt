-- Samples that are off put the line off: between the two samples by no more than the larger of their errors.
use mathlib.Core.Path.{◌≡◌, subst}
use Prim.Native.Nat.{ℕ, ◌+◌, ◌-◌, ◌*◌, ◌≤◌}
use native.Mathlib.Nat.{mul-le-mul_left}
use native.Mathlib.Omega.{arith}
use lib.IntN.{ℤ, pos, neg_ℤ, nat_abs, ◌+ℤ◌, ◌-ℤ◌, ◌*ℤ◌}
use Rattle.times.specs.Times.{units}
use Rattle.samples.specs.Keep.{spread_of}
use Rattle.samples.specs.declared.Sample.{Sample}
use Rattle.timeline.specs.Line.{line_at, off_of}
use Rattle.numbers.proofs.Ring.{same, split, of_pos, neg_pos, sub_add, sub_mul, sub_neg_is, nat_abs_mul, nat_abs_add}

module _ (a b a' b' : Sample) (older : a'.local ≡ a.local) (newer : b'.local ≡ b.local) where
  -- e1 + (e1 - e0) × x / S at a distance x from the newer sample: both sides times S
  pub line_off : (x : ℤ) → line_at a' b' x -ℤ line_at a b x ≡ pos (spread_of a b) *ℤ off_of b b' +ℤ (off_of b b' -ℤ off_of a a') *ℤ x
  line_off x =
      rw (newer, older)
      (ring (pos (spread_of a b)) (pos (units a.grand)) (pos (units b.grand)) (pos (units a'.grand)) (pos (units b'.grand)) x)
    where
      ring : (s g0 g1 h0 h1 x : ℤ) → s *ℤ h1 +ℤ (h1 -ℤ h0) *ℤ x -ℤ (s *ℤ g1 +ℤ (g1 -ℤ g0) *ℤ x) ≡ s *ℤ (h1 -ℤ g1) +ℤ (h1 -ℤ g1 -ℤ (h0 -ℤ g0)) *ℤ x
      ring s g0 g1 h0 h1 x =
          rw (split s, split g0, split g1, split h0, split h1, split x) (simp (sub_add, sub_mul, sub_neg_is) (omega (arith, same)))

  -- n before the newer sample, and no earlier than the older one: S times the line is off by no more than S times the larger error
  pub between_samples : (m n : ℕ) → nat_abs (off_of a a') ≤ m → nat_abs (off_of b b') ≤ m → n ≤ spread_of a b
      → nat_abs (line_at a' b' (neg_ℤ (pos n)) -ℤ line_at a b (neg_ℤ (pos n))) ≤ spread_of a b * m
  between_samples m n h0 h1 l =
      rw (line_off (neg_ℤ (pos n)))
      (subst (λ (s : ℕ). nat_abs (pos s *ℤ off_of b b' +ℤ (off_of b b' -ℤ off_of a a') *ℤ neg_ℤ (pos n)) ≤ s * m) (omega arith) (mean (spread_of a b - n) (off_of a a') (off_of b b') h0 h1))
    where
      ring : (k : ℕ) (e0 e1 : ℤ) → pos (n + k) *ℤ e1 +ℤ (e1 -ℤ e0) *ℤ neg_ℤ (pos n) ≡ pos n *ℤ e0 +ℤ pos k *ℤ e1
      ring k e0 e1 =
          rw (neg_pos n, of_pos (n + k), of_pos n, of_pos k, split e0, split e1) (simp (sub_add, sub_mul, sub_neg_is) (omega (arith, same)))

      -- the errors, each weighed by the distance to the other sample
      mean : (k : ℕ) (e0 e1 : ℤ) → nat_abs e0 ≤ m → nat_abs e1 ≤ m → nat_abs (pos (n + k) *ℤ e1 +ℤ (e1 -ℤ e0) *ℤ neg_ℤ (pos n)) ≤ (n + k) * m
      mean k e0 e1 h0 h1 =
          rw (ring k e0 e1)
          (omega (arith, nat_abs_add (pos n *ℤ e0) (pos k *ℤ e1), nat_abs_mul (pos n) e0, nat_abs_mul (pos k) e1, mul-le-mul_left n h0, mul-le-mul_left k h1))
