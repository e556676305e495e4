-- Laws of signed numbers that the kit lacks: the size of a product and of a sum, and ring identities by differences of naturals.
use mathlib.Core.Path.{◌≡◌, refl, sym, ap, ◌∙◌, subst}
use Prim.Native.Nat.{ℕ, zero, suc, ◌+◌, ◌-◌, ◌*◌, ◌<◌, ◌≤◌}
use native.Mathlib.Nat.{sub-add_cancel, lt_of_not-le}
use native.Mathlib.Decide.{dec_le}
use native.Mathlib.Omega.{arith}
use borrow.Author.Tests.{le-ltb, lt-ltb}
use lib.Dec.{lt→ltb}
use lib.IntN.{ℤ, pos, negsuc, nat_abs, neg_ℤ, sub_ℕ, ◌+ℤ◌, ◌-ℤ◌, ◌*ℤ◌}
use lib.Signed.{mag, ◌<ℤ◌, lt_z_yes}

pub nat_abs_neg : (z : ℤ) → nat_abs (neg_ℤ z) ≡ nat_abs z
nat_abs_neg (pos zero) = refl
nat_abs_neg (pos (suc n)) = refl
nat_abs_neg (negsuc n) = refl

-- |a × b| = |a| × |b|
pub nat_abs_mul : (a b : ℤ) → nat_abs (a *ℤ b) ≡ nat_abs a * nat_abs b
nat_abs_mul (pos a) (pos b) = refl
nat_abs_mul (pos a) (negsuc b) = nat_abs_neg (pos (a * suc b))
nat_abs_mul (negsuc a) (pos b) = nat_abs_neg (pos (suc a * b))
nat_abs_mul (negsuc a) (negsuc b) = refl

pub mag_le : (z : ℤ) → mag z ≤ nat_abs z
mag_le (pos n) = omega arith
mag_le (negsuc n) = omega arith

-- ---- a whole number as a difference of two naturals: a ring identity over ℤ becomes one over ℕ, which omega multiplies out

sub_pos : (n b : ℕ) → sub_ℕ (n + b) b ≡ pos n
sub_pos n b = rw (le-ltb (n + b) b (omega arith)) (ap pos (omega arith))

sub_neg : (n a : ℕ) → sub_ℕ a (a + suc n) ≡ negsuc n
sub_neg n a = rw (lt-ltb a (a + suc n) (omega arith)) (ap negsuc (omega arith))

-- two naturals differ upwards or downwards
diff_ind : (P : ℕ → ℕ → Type 0) → ((n b : ℕ) → P (n + b) b) → ((n a : ℕ) → P a (a + suc n)) → (a b : ℕ) → P a b
diff_ind P f g a b = go (dec_le b a)
  where
    go : Dec (b ≤ a) → P a b
    go (yes h) = subst (λ (x : ℕ). P x b) (sub-add_cancel h) (f (a - b) b)
    go (no h) = subst (λ (x : ℕ). P a x) (up a b (lt_of_not-le h)) (g (b - suc a) a)
      where
        up : (a b : ℕ) → a < b → a + suc (b - suc a) ≡ b
        up a b h = omega arith

-- two differences are equal
pub same : (a b c d : ℕ) → a + d ≡ c + b → sub_ℕ a b ≡ sub_ℕ c d
same = diff_ind (λ a b. (c d : ℕ) → a + d ≡ c + b → sub_ℕ a b ≡ sub_ℕ c d)
    (λ n b c d h. sub_pos n b ∙ sym (sub_pos n d) ∙ ap (λ (x : ℕ). sub_ℕ x d) (left n b c d h))
    (λ n a c d h. sub_neg n a ∙ sym (sub_neg n c) ∙ ap (λ (x : ℕ). sub_ℕ c x) (right n a c d h))
  where
    left : (n b c d : ℕ) → n + b + d ≡ c + b → n + d ≡ c
    left n b c d h = omega arith

    right : (n a c d : ℕ) → a + d ≡ c + (a + suc n) → c + suc n ≡ d
    right n a c d h = omega arith

pub of_pos : (n : ℕ) → pos n ≡ sub_ℕ n 0
of_pos n = sym (sub_pos n 0) ∙ same (n + 0) 0 n 0 (omega arith)

pub of_neg : (n : ℕ) → negsuc n ≡ sub_ℕ 0 (suc n)
of_neg n = sym (sub_neg n 0) ∙ same 0 (0 + suc n) 0 (suc n) (omega arith)

pub neg_pos : (n : ℕ) → neg_ℤ (pos n) ≡ sub_ℕ 0 n
neg_pos zero = refl
neg_pos (suc n) = of_neg n

abbrev pub above : ℤ → ℕ
above (pos n) = n
above (negsuc n) = 0

abbrev pub under : ℤ → ℕ
under (pos n) = 0
under (negsuc n) = suc n

pub split : (z : ℤ) → z ≡ sub_ℕ (above z) (under z)
split (pos n) = of_pos n
split (negsuc n) = of_neg n

pub sub_neg_is : (a b : ℕ) → neg_ℤ (sub_ℕ a b) ≡ sub_ℕ b a
sub_neg_is = diff_ind (λ a b. neg_ℤ (sub_ℕ a b) ≡ sub_ℕ b a)
    (λ n b. ap neg_ℤ (sub_pos n b) ∙ neg_pos n ∙ same 0 n b (n + b) (omega arith))
    (λ n a. ap neg_ℤ (sub_neg n a) ∙ of_pos (suc n) ∙ same (suc n) 0 (a + suc n) a (omega arith))

pub sub_add : (a b c d : ℕ) → sub_ℕ a b +ℤ sub_ℕ c d ≡ sub_ℕ (a + c) (b + d)
sub_add = diff_ind (λ a b. (c d : ℕ) → sub_ℕ a b +ℤ sub_ℕ c d ≡ sub_ℕ (a + c) (b + d))
    (λ n b. diff_ind (λ c d. sub_ℕ (n + b) b +ℤ sub_ℕ c d ≡ sub_ℕ (n + b + c) (b + d))
    (λ m d. rw (sub_pos n b, sub_pos m d) (of_pos (n + m) ∙ same (n + m) 0 (n + b + (m + d)) (b + d) (omega arith)))
    (λ m c. rw (sub_pos n b, sub_neg m c) (same n (suc m) (n + b + c) (b + (c + suc m)) (omega arith))))
    (λ n a. diff_ind (λ c d. sub_ℕ a (a + suc n) +ℤ sub_ℕ c d ≡ sub_ℕ (a + c) (a + suc n + d))
    (λ m d. rw (sub_neg n a, sub_pos m d) (same m (suc n) (a + (m + d)) (a + suc n + d) (omega arith)))
    (λ m c. rw (sub_neg n a, sub_neg m c) (of_neg (suc (n + m)) ∙ same 0 (suc (suc (n + m))) (a + c) (a + suc n + (c + suc m)) (omega arith))))

pub sub_mul : (a b c d : ℕ) → sub_ℕ a b *ℤ sub_ℕ c d ≡ sub_ℕ (a * c + b * d) (a * d + b * c)
sub_mul = diff_ind (λ a b. (c d : ℕ) → sub_ℕ a b *ℤ sub_ℕ c d ≡ sub_ℕ (a * c + b * d) (a * d + b * c))
    (λ n b. diff_ind (λ c d. sub_ℕ (n + b) b *ℤ sub_ℕ c d ≡ sub_ℕ ((n + b) * c + b * d) ((n + b) * d + b * c))
    (λ m d. rw (sub_pos n b, sub_pos m d) (of_pos (n * m) ∙ same (n * m) 0 ((n + b) * (m + d) + b * d) ((n + b) * d + b * (m + d)) (omega arith)))
    (λ m c. rw (sub_pos n b, sub_neg m c) (neg_pos (n * suc m) ∙ same 0 (n * suc m) ((n + b) * c + b * (c + suc m)) ((n + b) * (c + suc m) + b * c) (omega arith))))
    (λ n a. diff_ind (λ c d. sub_ℕ a (a + suc n) *ℤ sub_ℕ c d ≡ sub_ℕ (a * c + (a + suc n) * d) (a * d + (a + suc n) * c))
    (λ m d. rw (sub_neg n a, sub_pos m d) (neg_pos (suc n * m) ∙ same 0 (suc n * m) (a * (m + d) + (a + suc n) * d) (a * d + (a + suc n) * (m + d)) (omega arith)))
    (λ m c. rw (sub_neg n a, sub_neg m c) (of_pos (suc n * suc m) ∙ same (suc n * suc m) 0 (a * c + (a + suc n) * (c + suc m)) (a * (c + suc m) + (a + suc n) * c) (omega arith))))

-- |a − b|, for two naturals
sub_le : (a b : ℕ) → nat_abs (sub_ℕ a b) ≤ a + b
sub_le = diff_ind (λ a b. nat_abs (sub_ℕ a b) ≤ a + b)
    (λ n b. rw (sub_pos n b) (omega arith))
    (λ n a. rw (sub_neg n a) (omega arith))

-- |a + b| ≤ |a| + |b|
pub nat_abs_add : (a b : ℤ) → nat_abs (a +ℤ b) ≤ nat_abs a + nat_abs b
nat_abs_add (pos a) (pos b) = omega arith
nat_abs_add (pos a) (negsuc b) = sub_le a (suc b)
nat_abs_add (negsuc a) (pos b) = omega (arith, sub_le b (suc a))
nat_abs_add (negsuc a) (negsuc b) = omega arith

pub minus_is : (a b : ℕ) → pos a -ℤ pos b ≡ sub_ℕ a b
minus_is a zero = of_pos (a + 0) ∙ same (a + 0) 0 a 0 (omega arith)
minus_is a (suc b) = refl

-- what is to be added to a to give b
pub minus_pos : (a b n : ℕ) → a + n ≡ b → pos n ≡ pos b -ℤ pos a
minus_pos a b n e = of_pos n ∙ same n 0 b a (omega arith) ∙ sym (minus_is b a)

pub sub_lt : (a b m : ℕ) → a < b + m → b < a + m → nat_abs (sub_ℕ a b) < m
sub_lt = diff_ind (λ a b. (m : ℕ) → a < b + m → b < a + m → nat_abs (sub_ℕ a b) < m)
    (λ n b m h k. rw (sub_pos n b) (omega arith))
    (λ n a m h k. rw (sub_neg n a) (omega arith))

pub sub_ge : (a b : ℕ) → b ≤ a + nat_abs (sub_ℕ a b)
sub_ge = diff_ind (λ a b. b ≤ a + nat_abs (sub_ℕ a b))
    (λ n b. omega arith)
    (λ n a. rw (sub_neg n a) (omega arith))

pub sub_ge2 : (a b : ℕ) → a ≤ b + nat_abs (sub_ℕ a b)
sub_ge2 = diff_ind (λ a b. a ≤ b + nat_abs (sub_ℕ a b))
    (λ n b. rw (sub_pos n b) (omega arith))
    (λ n a. omega arith)

-- a − b is above zero where a is above b
pub sub_above : (a b : ℕ) → b < a → pos 0 <ℤ sub_ℕ a b
sub_above = diff_ind (λ a b. b < a → pos 0 <ℤ sub_ℕ a b)
    (λ n b h. rw (sub_pos n b) (lt_z_yes (lt→ltb 0 n (omega arith))))
    (λ n a h. absurd (omega arith))

-- z + h and y + k are one number just where y less z is h less k
module _ (y z : ℤ) (h k : ℕ) where
  pub less_is : z +ℤ pos h ≡ y +ℤ pos k → y -ℤ z ≡ sub_ℕ h k
  less_is e = out y z ∙ ap (λ (x : ℤ). x -ℤ z -ℤ pos k) (sym e) ∙ left z
    where
      out : (y z : ℤ) → y -ℤ z ≡ y +ℤ pos k -ℤ z -ℤ pos k
      out y z = rw (neg_pos k, of_pos k, split y, split z) (simp (sub_add, sub_neg_is) (omega (arith, same)))

      left : (z : ℤ) → z +ℤ pos h -ℤ z -ℤ pos k ≡ sub_ℕ h k
      left z = rw (neg_pos k, of_pos h, split z) (simp (sub_add, sub_neg_is) (omega (arith, same)))

  pub less_back : y -ℤ z ≡ sub_ℕ h k → z +ℤ pos h ≡ y +ℤ pos k
  less_back e = left z ∙ ap (λ (x : ℤ). x +ℤ (z +ℤ pos k)) (sym e) ∙ out y z
    where
      left : (z : ℤ) → z +ℤ pos h ≡ sub_ℕ h k +ℤ (z +ℤ pos k)
      left z = rw (of_pos h, of_pos k, split z) (simp (sub_add) (omega (arith, same)))

      out : (y z : ℤ) → y -ℤ z +ℤ (z +ℤ pos k) ≡ y +ℤ pos k
      out y z = rw (of_pos k, split y, split z) (simp (sub_add, sub_neg_is) (omega (arith, same)))
