-- Laws of the order of refusals: the first number of an ascending list is the lowest, how a list grows by a test, and how two lists follow each other.
use mathlib.Core.Path.{◌≡◌, refl, sym, subst}
use mathlib.Core.Bool.{Bool, true, false, cond, ◌&&◌, ◌||◌, true≢false, false≢true}
use mathlib.Core.List.{List, [], ◌∷◌, ◌++◌}
use mathlib.Core.Logic.{◌⊎◌, ◌≢◌, inl, inr, ⊎_elim}
use Prim.Native.Nat.{ℕ, ◌<◌, ◌≤◌}
use native.Mathlib.Omega.{arith}
use lib.Dec.{ltb, leb, eqb}
use borrow.Author.Tests.{eqb-true, eqb-false, ltb-true, ltb-false, leb-true, leb-false}
use Rattle.refusals.specs.Order.{Condition, given, Applies, Lowest, First, nowhere, here, later}

-- ---- the first is the lowest

-- no number of the list is below n, and none is below one before it
abbrev pub ascends : ℕ → List Condition → Bool
ascends n [] = true
ascends n (c ∷ cs) = leb n c.number && ascends c.number cs

-- what that says of a list's first number, and of the others
first_number : (n : ℕ) (c : Condition) (cs : List Condition) → ascends n (c ∷ cs) ≡ true → (n ≤ c.number) × (ascends c.number cs ≡ true)
first_number n c cs e = by (leb n c.number) (ascends c.number cs) refl e
  where
    by : (s t : Bool) → leb n c.number ≡ s → (s && t) ≡ true → (n ≤ c.number) × (t ≡ true)
    by true t q e = (leb-true n c.number q, e)
    by false t q e = absurd (false≢true e)

-- so every number that applies is at least n
least : (n : ℕ) (cs : List Condition) → ascends n cs ≡ true → (j : ℕ) → Applies cs j → n ≤ j
unfolding Applies
least n [] a j h = absurd h
least n (c ∷ cs) a j (inl (h, e)) = omega (arith, (first_number n c cs a).0, e)
least n (c ∷ cs) a j (inr h) = omega (arith, (first_number n c cs a).0, least c.number cs (first_number n c cs a).1 j h)

-- where the numbers ascend, the first that applies is the lowest
pub first_lowest : {k : ℕ} {cs : List Condition} (n : ℕ) → ascends n cs ≡ true → First k cs → Lowest cs k
unfolding Applies
first_lowest n a (nowhere e) = inr (λ j h. h, e)
first_lowest n a (here c cs h e) =
    inl (inl (h, e), λ j. ⊎_elim (λ q. omega (arith, e, q.1)) (λ q. omega (arith, e, least c.number cs (first_number n c cs a).1 j q)))
first_lowest n a (later c cs not f) =
    ⊎_elim
    (λ r. inl (inr r.0, λ j. ⊎_elim (λ q. absurd (not q.0)) (r.1 j)))
    (λ r. inr (λ j. ⊎_elim (λ q. not q.0) (r.0 j), r.1))
    (first_lowest c.number (first_number n c cs a).1 f)

-- a number that is given in two ways
pub same_number : {j k : ℕ} {cs : List Condition} → j ≡ k → First j cs → First k cs
same_number {j} {k} {cs} e f = subst (λ (n : ℕ). First n cs) e f

-- ---- a condition that a test decides

-- the test holds just where the condition does
pub record Tells (t : Bool) (P : Type 0) : Type 0 where
  pub is : t ≡ true → P
  pub not : t ≡ false → P → ⊥

-- the test fails just where the condition holds
pub record Fails (t : Bool) (P : Type 0) : Type 0 where
  pub is : t ≡ false → P
  pub not : t ≡ true → P → ⊥

-- the tests of two numbers
module _ (a b : ℕ) where
  pub less_tells : Tells (ltb a b) (a < b)
  less_tells = record { is = ltb-true a b; not = λ e h. omega (arith, ltb-false a b e) }

  pub most_tells : Tells (leb a b) (a ≤ b)
  most_tells = record { is = leb-true a b; not = λ e h. omega (arith, leb-false a b e) }

  pub same_tells : Tells (eqb a b) (a ≡ b)
  same_tells = record { is = eqb-true a b; not = eqb-false a b }

  pub less_fails : Fails (ltb a b) (b ≤ a)
  less_fails = record { is = ltb-false a b; not = λ e h. omega (arith, ltb-true a b e) }

  pub most_fails : Fails (leb a b) (b < a)
  most_fails = record { is = leb-false a b; not = λ e h. omega (arith, leb-true a b e) }

  pub same_fails : Fails (eqb a b) (a ≢ b)
  same_fails = record { is = eqb-false a b; not = λ e h. h (eqb-true a b e) }

-- two tests: both conditions, or either
pub both_tell : {s t : Bool} {P Q : Type 0} → Tells s P → Tells t Q → Tells (s && t) (P × Q)
both_tell {s} {t} {P} {Q} d e = by s t refl refl where
  by : (x y : Bool) → s ≡ x → t ≡ y → Tells (x && y) (P × Q)
  by true true p q = record { is = λ _. (d.is p, e.is q); not = λ z. absurd (true≢false z) }
  by true false p q = record { is = λ z. absurd (false≢true z); not = λ _ h. e.not q h.1 }
  by false y p q = record { is = λ z. absurd (false≢true z); not = λ _ h. d.not p h.0 }

pub either_fails : {s t : Bool} {P Q : Type 0} → Fails s P → Fails t Q → Fails (s && t) (P ⊎ Q)
either_fails {s} {t} {P} {Q} d e = by s t refl refl where
  by : (x y : Bool) → s ≡ x → t ≡ y → Fails (x && y) (P ⊎ Q)
  by true true p q = record { is = λ z. absurd (true≢false z); not = λ _. ⊎_elim (d.not p) (e.not q) }
  by true false p q = record { is = λ _. inr (e.is q); not = λ z. absurd (false≢true z) }
  by false y p q = record { is = λ _. inl (d.is p); not = λ z. absurd (false≢true z) }

pub both_fail : {s t : Bool} {P Q : Type 0} → Fails s P → Fails t Q → Fails (s || t) (P × Q)
both_fail {s} {t} {P} {Q} d e = by s t refl refl where
  by : (x y : Bool) → s ≡ x → t ≡ y → Fails (x || y) (P × Q)
  by true y p q = record { is = λ z. absurd (true≢false z); not = λ _ h. d.not p h.0 }
  by false true p q = record { is = λ z. absurd (true≢false z); not = λ _ h. e.not q h.1 }
  by false false p q = record { is = λ _. (d.is p, e.is q); not = λ z. absurd (false≢true z) }

-- a condition said in another way
pub fails_same : {t : Bool} {P Q : Type 0} → (P → Q) → (Q → P) → Fails t P → Fails t Q
fails_same f g d = record { is = λ e. f (d.is e); not = λ e q. d.not e (g q) }

-- a refusal where the test holds, or where it fails, and else the rest; `number` is that of an answer
module _ {A : Type 0} (number : A → ℕ) where
  pub first_if : {t : Bool} {P : Type 0} {cs : List Condition} {x y : A} → Tells t P → (t ≡ false → First (number y) cs) → First (number (cond t x y)) (given (number x) P ∷ cs)
  first_if {t} {P} {cs} {x} {y} d f = by t refl where
    by : (s : Bool) → t ≡ s → First (number (cond s x y)) (given (number x) P ∷ cs)
    by true e = here _ _ (d.is e) refl
    by false e = later _ _ (d.not e) (f e)

  pub first_else : {t : Bool} {P : Type 0} {cs : List Condition} {x y : A} → Fails t P → (t ≡ true → First (number x) cs) → First (number (cond t x y)) (given (number y) P ∷ cs)
  first_else {t} {P} {cs} {x} {y} d f = by t refl where
    by : (s : Bool) → t ≡ s → First (number (cond s x y)) (given (number y) P ∷ cs)
    by true e = later _ _ (d.not e) (f e)
    by false e = here _ _ (d.is e) refl

-- ---- a test of several parts, and one number

-- where the test fails, k is given, and a condition in the list holds
pub record Checks (k : ℕ) (t : Bool) (cs : List Condition) : Type 1 where
  pub order : First (cond t 0 k) cs

-- of one part, and of one part more
pub check : {k : ℕ} {t : Bool} {P : Type 0} → Fails t P → Checks k t (given k P ∷ [])
check {k} d = record { order = first_else (λ (n : ℕ). n) d (λ _. nowhere refl) }

pub check_both : {k : ℕ} {s t : Bool} {P : Type 0} {cs : List Condition} → Fails s P → Checks k t cs → Checks k (s && t) (given k P ∷ cs)
check_both {k} {s} {t} {P} {cs} d f = by s refl where
  by : (r : Bool) → s ≡ r → Checks k (r && t) (given k P ∷ cs)
  by true e = record { order = later _ _ (d.not e) f.order }
  by false e = record { order = here _ _ (d.is e) refl }

-- an answer by such a test: done where it holds
pub checked : {A : Type 0} (number : A → ℕ) (x y : A) {k : ℕ} {t : Bool} {cs : List Condition} → number x ≡ 0 → number y ≡ k → Checks k t cs → First (number (cond t x y)) cs
checked number x y {k} {t} e f c = same_number (by t) c.order where
  by : (s : Bool) → cond s 0 k ≡ number (cond s x y)
  by true = sym e
  by false = sym f

-- ---- one list after another

-- a refusal by the first list stands
pub first_stays : {k : ℕ} {cs : List Condition} (ds : List Condition) → k ≢ 0 → First k cs → First k (cs ++ ds)
first_stays ds h (nowhere e) = absurd (h e)
first_stays ds h (here c cs p e) = here c (cs ++ ds) p e
first_stays ds h (later c cs not f) = later c (cs ++ ds) not (first_stays ds h f)

-- where the first list, whose numbers are not 0, refuses nothing, the second decides
pub first_more : {k : ℕ} {cs ds : List Condition} (n : ℕ) → 1 ≤ n → ascends n cs ≡ true → First 0 cs → First k ds → First k (cs ++ ds)
first_more n l a (nowhere e) g = g
first_more n l a (here c cs p e) g = absurd (omega (arith, e, (first_number n c cs a).0))
first_more n l a (later c cs not f) g =
    let r = first_number n c cs a in
    later c _ not (first_more c.number (omega (arith, r.0)) r.1 f g)

-- ---- a test of several parts, and what follows it

-- an answer by such a test whose refusal is not 0, and else by the rest
pub checked_then : {A : Type 0} (number : A → ℕ) {x y : A} {k : ℕ} {t : Bool} {cs ds : List Condition} → 1 ≤ k → ascends 1 cs ≡ true → number y ≡ k → Checks k t cs
    → (t ≡ true → First (number x) ds) → First (number (cond t x y)) (cs ++ ds)
checked_then number {x} {y} {k} {t} {cs} {ds} l a e c f = by t refl c.order where
  by : (s : Bool) → t ≡ s → First (cond s 0 k) cs → First (number (cond s x y)) (cs ++ ds)
  by true q g = first_more 1 (omega arith) a g (f q)
  by false q g = same_number (sym e) (first_stays ds (λ z. omega (arith, z)) g)

-- two such tests are one
pub check_all : {k : ℕ} {s t : Bool} {cs ds : List Condition} → 1 ≤ k → ascends 1 cs ≡ true → Checks k s cs → Checks k t ds → Checks k (s && t) (cs ++ ds)
check_all {k} {s} {t} {cs} {ds} l a c d = record { order = same_number (by s) (checked_then (λ (n : ℕ). n) l a refl c (λ _. d.order)) } where
  by : (r : Bool) → cond r (cond t 0 k) k ≡ cond (r && t) 0 k
  by true = refl
  by false = refl
