-- What the comparison of a record's parts, one after the other, says of the number that they make: it is the comparison of the numbers.
use Rattle.std.proofs.Common.{◌≡◌, refl, ap, ◌∙◌, ℕ, ◌+◌, ◌*◌, ◌^◌, ◌<◌, arith, Bool, true, false, cond, ltb, eqb, Option, Some, Ordering, Less, Equal, Greater}
use mathlib.Core.Bool.{◌&&◌}
use borrow.Author.Tests.{ltb-true, ltb-false, eqb-true, eqb-false}
use Rattle.std.specs.Ordering.{is_lt, is_some_and, nat_cmp, ordering_then, partial_ordering_then}
use Rattle.choice.specs.Precedence.{precedence_of}
use Rattle.choice.specs.Rank.{PrecedenceFits}
use Rattle.choice.specs.declared.Precedence.{Precedence}
use Rattle.numbers.proofs.Pairs.{first_less, first_more, first_same, equal_same, equal_never}

-- ---- two parts

module _ (m a b x y : ℕ) (k : x < m) (l : y < m) where
  -- the first decides, and then the second
  both_compared : ordering_then (nat_cmp a b) (nat_cmp x y) ≡ nat_cmp (a * m + x) (b * m + y)
  both_compared = by (ltb a b) refl (eqb a b) refl where
    by : (s : Bool) → ltb a b ≡ s → (t : Bool) → eqb a b ≡ t → ordering_then (cond s Less (cond t Equal Greater)) (nat_cmp x y) ≡ nat_cmp (a * m + x) (b * m + y)
    by true d t e = λ i. cond (first_less m a b x y (ltb-true a b d) k i) Less (cond (eqb (a * m + x) (b * m + y)) Equal Greater)
    by false d true e = λ i. cond (first_same m a b x y (eqb-true a b e) i) Less (cond (equal_same m a b x y (eqb-true a b e) i) Equal Greater)
    by false d false e =
        let above = ltb-false a b d in
        let other = eqb-false a b e in
        λ i. cond (first_more m a b x y (omega (arith, above, other)) l i) Less (cond (equal_never m a b x y other k l i) Equal Greater)

  pub next_compared : {o : Option Ordering} → o ≡ Some (nat_cmp x y) → partial_ordering_then (Some (nat_cmp a b)) o ≡ Some (nat_cmp (a * m + x) (b * m + y))
  next_compared e = ap (partial_ordering_then (Some (nat_cmp a b))) e ∙ then_some (nat_cmp a b) ∙ ap Some both_compared
    where
      then_some : (o : Ordering) → partial_ordering_then (Some o) (Some (nat_cmp x y)) ≡ Some (ordering_then o (nat_cmp x y))
      then_some Less = refl
      then_some Equal = refl
      then_some Greater = refl

  -- they are equal where both are
  both_equal : (eqb a b && eqb x y) ≡ eqb (a * m + x) (b * m + y)
  both_equal = by (eqb a b) refl where
    by : (t : Bool) → eqb a b ≡ t → (t && eqb x y) ≡ eqb (a * m + x) (b * m + y)
    by true e = equal_same m a b x y (eqb-true a b e)
    by false e = equal_never m a b x y (eqb-false a b e) k l

-- what is less is so by the numbers
pub less_compared : {o : Option Ordering} (x y : ℕ) → o ≡ Some (nat_cmp x y) → is_some_and is_lt o ≡ ltb x y
less_compared x y e = ap (is_some_and is_lt) e ∙ by (ltb x y) (eqb x y)
  where
    by : (s t : Bool) → is_lt (cond s Less (cond t Equal Greater)) ≡ s
    by true t = refl
    by false true = refl
    by false false = refl

-- ---- a precedence

-- its parts, one after the other
parts_of : (p : Precedence) → p.priority1 * 2 ^ 96 + (p.source * 2 ^ 88 + (p.variance * 2 ^ 72 + (p.priority2 * 2 ^ 64 + p.clock))) ≡ precedence_of p
unfolding precedence_of
parts_of p = omega arith

module _ (p q : Precedence) (f : PrecedenceFits p) (g : PrecedenceFits q) where
  pub precedence_compared
      : partial_ordering_then (Some (nat_cmp p.priority1 q.priority1))
      (partial_ordering_then (Some (nat_cmp p.source q.source))
      (partial_ordering_then (Some (nat_cmp p.variance q.variance)) (partial_ordering_then (Some (nat_cmp p.priority2 q.priority2)) (Some (nat_cmp p.clock q.clock)))))
      ≡ Some (nat_cmp (precedence_of p) (precedence_of q))
  precedence_compared =
      next_compared (2 ^ 96) p.priority1 q.priority1 (p.source * 2 ^ 88 + (p.variance * 2 ^ 72 + (p.priority2 * 2 ^ 64 + p.clock))) (q.source * 2 ^ 88 + (q.variance * 2 ^ 72 + (q.priority2 * 2 ^ 64 + q.clock))) (omega arith) (omega arith)
      (next_compared (2 ^ 88) p.source q.source (p.variance * 2 ^ 72 + (p.priority2 * 2 ^ 64 + p.clock)) (q.variance * 2 ^ 72 + (q.priority2 * 2 ^ 64 + q.clock)) (omega arith) (omega arith)
      (next_compared (2 ^ 72) p.variance q.variance (p.priority2 * 2 ^ 64 + p.clock) (q.priority2 * 2 ^ 64 + q.clock) (omega arith) (omega arith)
      (next_compared (2 ^ 64) p.priority2 q.priority2 p.clock q.clock f.clock g.clock refl)))
      ∙ (λ i. Some (nat_cmp (parts_of p i) (parts_of q i)))

  pub precedence_equal
      : (eqb p.priority1 q.priority1 && (eqb p.source q.source && (eqb p.variance q.variance && (eqb p.priority2 q.priority2 && eqb p.clock q.clock))))
      ≡ eqb (precedence_of p) (precedence_of q)
  precedence_equal =
      ap (λ (t : Bool). eqb p.priority1 q.priority1 && (eqb p.source q.source && (eqb p.variance q.variance && t))) (both_equal (2 ^ 64) p.priority2 q.priority2 p.clock q.clock f.clock g.clock)
      ∙ ap (λ (t : Bool). eqb p.priority1 q.priority1 && (eqb p.source q.source && t)) (both_equal (2 ^ 72) p.variance q.variance (p.priority2 * 2 ^ 64 + p.clock) (q.priority2 * 2 ^ 64 + q.clock) (omega arith) (omega arith))
      ∙ ap (λ (t : Bool). eqb p.priority1 q.priority1 && t) (both_equal (2 ^ 88) p.source q.source (p.variance * 2 ^ 72 + (p.priority2 * 2 ^ 64 + p.clock)) (q.variance * 2 ^ 72 + (q.priority2 * 2 ^ 64 + q.clock)) (omega arith) (omega arith))
      ∙ both_equal (2 ^ 96) p.priority1 q.priority1 (p.source * 2 ^ 88 + (p.variance * 2 ^ 72 + (p.priority2 * 2 ^ 64 + p.clock))) (q.source * 2 ^ 88 + (q.variance * 2 ^ 72 + (q.priority2 * 2 ^ 64 + q.clock))) (omega arith) (omega arith)
      ∙ (λ i. eqb (parts_of p i) (parts_of q i))
