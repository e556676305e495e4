-- Numbers of two parts, h * m + a with a below m: compared by h, and by a where the two h are equal.
use mathlib.Core.Path.{◌≡◌, refl, sym, ap, ◌∙◌}
use mathlib.Core.Bool.{Bool, true, false}
use Prim.Native.Nat.{ℕ, ◌+◌, ◌*◌, ◌/◌, ◌<◌, ◌≤◌}
use native.Mathlib.Omega.{arith}
use lib.Arith.{digits_lt, digits_div}
use lib.Dec.{ltb, eqb}
use borrow.Author.Tests.{lt-ltb, le-ltb, ltb-true, ltb-false, eq-eqb, ne_eqb, eqb-true, eqb-false}

-- two tests that hold together are one test
same_ltb : (a b c d : ℕ) → (a < b → c < d) → (b ≤ a → d ≤ c) → ltb a b ≡ ltb c d
same_ltb a b c d up down = by (ltb a b) refl where
  by : (t : Bool) → ltb a b ≡ t → ltb a b ≡ ltb c d
  by true e = e ∙ sym (lt-ltb c d (up (ltb-true a b e)))
  by false e = e ∙ sym (le-ltb c d (down (ltb-false a b e)))

same_eqb : (a b c d : ℕ) → (a ≡ b → c ≡ d) → (c ≡ d → a ≡ b) → eqb a b ≡ eqb c d
same_eqb a b c d there back = by (eqb a b) refl where
  by : (t : Bool) → eqb a b ≡ t → eqb a b ≡ eqb c d
  by true e = e ∙ sym (eq-eqb c d (there (eqb-true a b e)))
  by false e = e ∙ sym (ne_eqb c d (λ q. eqb-false a b e (back q)))

module _ (m h k a b : ℕ) where
  pub first_less : h < k → a < m → true ≡ ltb (h * m + a) (k * m + b)
  first_less l p = sym (lt-ltb (h * m + a) (k * m + b) (omega (arith, digits_lt l p)))

  pub first_more : k < h → b < m → false ≡ ltb (h * m + a) (k * m + b)
  first_more l p = sym (le-ltb (h * m + a) (k * m + b) (omega (arith, digits_lt l p)))

  pub first_same : h ≡ k → ltb a b ≡ ltb (h * m + a) (k * m + b)
  first_same e = rw e (same_ltb a b (k * m + a) (k * m + b) (λ l. omega arith) (λ l. omega arith))

  pub equal_same : h ≡ k → eqb a b ≡ eqb (h * m + a) (k * m + b)
  equal_same e = rw e (same_eqb a b (k * m + a) (k * m + b) (λ q. omega arith) (λ q. omega arith))

  pub equal_never : (h ≡ k → ⊥) → a < m → b < m → false ≡ eqb (h * m + a) (k * m + b)
  equal_never n p q =
      sym (ne_eqb (h * m + a) (k * m + b) (λ e. n (sym (digits_div h p) ∙ ap (λ (x : ℕ). x / m) e ∙ digits_div k q)))
