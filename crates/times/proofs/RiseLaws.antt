-- Laws of a rise below a second: when there is one, and what it is.
use Rattle.std.proofs.Common.{◌≡◌, ℕ, ◌+◌, ◌-◌, ◌<◌, ◌≤◌, true, ◌&&◌, Some, None, ltb, leb, sym, ap, ◌∙◌, lt_of_not-le, arith, ltb-true, lt-ltb, le-leb, leb-true}
use native.Mathlib.Decide.{dec_le}
use Rattle.times.specs.Times.{second, rise_within}
use Rattle.times.proofs.TestLaws.{both_hold, refuted}

pub rise_by : (a b n : ℕ) → a + n ≡ b → n < second → Some n ≡ rise_within a b
unfolding rise_within
rise_by a b n e h = rw (le-leb a b (omega arith), lt-ltb (b - a) second (omega arith)) (ap Some (omega arith))

pub rise_far : (a b : ℕ) → (a ≤ b → b < a + second → ⊥) → None ≡ rise_within a b
unfolding rise_within
rise_far a b f = rw (refuted (leb a b && ltb (b - a) second) near)
  where
    near : leb a b && ltb (b - a) second ≡ true → ⊥
    near e =
        let k = both_hold (leb a b) (ltb (b - a) second) e in
        let h : a ≤ b = leb-true a b k.0 in
        f h (omega (arith, ltb-true (b - a) second k.1))

pub by_rise : (a b n : ℕ) → Some n ≡ rise_within a b → (a + n ≡ b) × (n < second)
by_rise a b n e = go (dec_le a b) (dec_le (a + second) b)
  where
    never : None ≡ rise_within a b → (a + n ≡ b) × (n < second)
    never f = let g : Some n ≡ None = e ∙ sym f in let z : ◌≡◌ {A = ℕ} 0 1 = cc in omega arith

    go : Dec (a ≤ b) → Dec (a + second ≤ b) → (a + n ≡ b) × (n < second)
    go (no h) d = never (rise_far a b (λ l k. absurd (h l)))
    go (yes h) (yes k) = never (rise_far a b (λ l m. omega arith))
    go (yes h) (no k) =
        let l : b < a + second = lt_of_not-le k in
        let g : Some n ≡ Some (b - a) = e ∙ sym (rise_by a b (b - a) (omega arith) (omega arith)) in
        let q : n ≡ b - a = cc in
        omega arith

pub far_rise : (a b : ℕ) → None ≡ rise_within a b → a ≤ b → b < a + second → ⊥
far_rise a b e h k =
    let g : None ≡ Some (b - a) = e ∙ sym (rise_by a b (b - a) (omega arith) (omega arith)) in
    let z : ◌≡◌ {A = ℕ} 0 1 = cc in
    omega arith
