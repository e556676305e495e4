-- Laws of the better of two candidates: the better has the lesser precedence, then held hop, then port; and over all candidates it is a commutative, idempotent monoid.
use mathlib.Core.Path.{◌≡◌, refl, sym, ap, ◌∙◌}
use mathlib.Core.Bool.{Bool, true, false, cond}
use mathlib.Core.Logic.{inl, inr}
use Prim.Native.Nat.{ℕ, ◌+◌, ◌*◌, ◌/◌, ◌%◌, ◌<◌}
use lib.Arith.{digits_div, digits_mod}
use native.Mathlib.Omega.{arith}
use borrow.Author.Tests.{lt-ltb, le-ltb, ltb-true, ltb-false}
use lib.Dec.{ltb}
use Rattle.std.proofs.Common.{Option, Some, None}
use Rattle.choice.specs.Precedence.{high_of, precedence_of, key_of}
use Rattle.choice.specs.Choose.{rank_of, better_of}
use Rattle.choice.specs.Rank.{CandidateFits}
use Rattle.choice.specs.Compare.{Before}
use Rattle.choice.specs.Monoid.{CommutativeIdempotentMonoid}
use Rattle.choice.specs.declared.Candidate.{Candidate}
use Rattle.numbers.proofs.Branches.{if_true, if_when}

-- ---- what stands in a rank: precedence, then held hop, then port, and nothing else

-- two numbers in two parts are the same only if both parts are
same_digits : (a b : ℕ) {m x y : ℕ} → x < m → y < m → a * m + x ≡ b * m + y → (a ≡ b) × (x ≡ y)
same_digits a b {m} {x} {y} k l e =
    (sym (digits_div a k) ∙ ap (λ (n : ℕ). n / m) e ∙ digits_div b l, sym (digits_mod a k) ∙ ap (λ (n : ℕ). n % m) e ∙ digits_mod b l)

module _ (a b : Candidate) (f : CandidateFits (Some a)) (g : CandidateFits (Some b)) where
  -- the lesser rank is the lesser in this order, and the other way round
  pub before_rank : Before a b → rank_of a.precedence a.hop a.number < rank_of b.precedence b.hop b.number
  unfolding rank_of key_of
  before_rank (inl less) = let (_, hf, nf) = f in omega arith
  before_rank (inr (e, inl less)) = let (_, hf, nf) = f in omega arith
  before_rank (inr (e, inr (s, less))) = omega arith

  pub rank_before : rank_of a.precedence a.hop a.number < rank_of b.precedence b.hop b.number → Before a b
  unfolding rank_of key_of
  rank_before lower = by (ltb (precedence_of a.precedence) (precedence_of b.precedence)) refl (ltb a.hop b.hop) refl where
    by : (s : Bool) → ltb (precedence_of a.precedence) (precedence_of b.precedence) ≡ s → (t : Bool) → ltb a.hop b.hop ≡ t → Before a b
    by true d t e = inl (ltb-true (precedence_of a.precedence) (precedence_of b.precedence) d)
    by false d true e =
        let (_, kf, jf) = g in
        inr (omega (arith, lower, ltb-false (precedence_of a.precedence) (precedence_of b.precedence) d), inl (ltb-true a.hop b.hop e))
    by false d false e =
        let (_, kf, jf) = g in
        let above = ltb-false (precedence_of a.precedence) (precedence_of b.precedence) d in
        let farther = ltb-false a.hop b.hop e in
        inr (omega (arith, lower, above), inr (omega (arith, lower, above, farther), omega (arith, lower, above, farther)))

  -- a rank names its clock
  pub rank_unique : rank_of a.precedence a.hop a.number ≡ rank_of b.precedence b.hop b.number → Some a ≡ Some b
  unfolding rank_of key_of precedence_of
  rank_unique e =
      let (pf, hf, nf) = f in
      let (qf, kf, jf) = g in
      let p = a.precedence in
      let q = b.precedence in
      let (key, number) = same_digits (key_of p a.hop) (key_of q b.hop) nf jf e in
      let (precedence, hop) = same_digits (precedence_of p) (precedence_of q) hf kf key in
      let (high, clock) = same_digits (high_of p) (high_of q) pf.clock qf.clock precedence in
      let priority1 : p.priority1 ≡ q.priority1 = omega (arith, high) in
      let source : p.source ≡ q.source = omega (arith, high) in
      let variance : p.variance ≡ q.variance = omega (arith, high) in
      let priority2 : p.priority2 ≡ q.priority2 = omega (arith, high) in
      λ x. Some (record {
        precedence = record { priority1 = priority1 x; source = source x; variance = variance x; priority2 = priority2 x; clock = clock x };
        hop = hop x;
        number = number x;
      })

-- ---- the laws one by one

none_better : (a : Option Candidate) → better_of None a ≡ a
unfolding better_of
none_better a = refl

better_none : (a : Option Candidate) → better_of a None ≡ a
unfolding better_of
better_none None = refl
better_none (Some a) = refl

-- of two things with numbers, that with the lesser one does not depend on their order, where the number names the thing
lesser_commutative : {A : Type 0} (x y : ℕ) {a b : A} → (x ≡ y → a ≡ b) → cond (ltb y x) b a ≡ cond (ltb x y) a b
lesser_commutative {A} x y {a} {b} named = by (ltb y x) refl (ltb x y) refl where
  by : (s : Bool) → ltb y x ≡ s → (t : Bool) → ltb x y ≡ t → cond s b a ≡ cond t a b
  by true d true e = absurd (omega (arith, ltb-true y x d, ltb-true x y e))
  by true d false e = refl
  by false d true e = refl
  by false d false e = named (omega (arith, ltb-false y x d, ltb-false x y e))

better_commutative : (a b : Option Candidate) → CandidateFits a → CandidateFits b → better_of a b ≡ better_of b a
unfolding better_of
better_commutative None None f g = refl
better_commutative None (Some b) f g = refl
better_commutative (Some a) None f g = refl
better_commutative (Some a) (Some b) f g = lesser_commutative (rank_of a.precedence a.hop a.number) (rank_of b.precedence b.hop b.number) (rank_unique a b f g)

-- in a chain of comparisons the first of those with the least rank wins, however it is grouped
better_associative : (a b c : Option Candidate) → better_of (better_of a b) c ≡ better_of a (better_of b c)
unfolding better_of
better_associative None b c = refl
better_associative (Some a) None c = refl
better_associative (Some a) (Some b) None = better_none (better_of (Some a) (Some b))
better_associative (Some a) (Some b) (Some d) = three (rank_of a.precedence a.hop a.number) (rank_of b.precedence b.hop b.number) (rank_of d.precedence d.hop d.number) refl refl refl where
  three : (x y z : ℕ) → rank_of a.precedence a.hop a.number ≡ x → rank_of b.precedence b.hop b.number ≡ y → rank_of d.precedence d.hop d.number ≡ z
      → better_of (cond (ltb y x) (Some b) (Some a)) (Some d) ≡ better_of (Some a) (cond (ltb z y) (Some d) (Some b))
  three x y z u v w = by (ltb y x) refl (ltb z y) refl where
    by : (s : Bool) → ltb y x ≡ s → (t : Bool) → ltb z y ≡ t
        → better_of (cond s (Some b) (Some a)) (Some d) ≡ better_of (Some a) (cond t (Some d) (Some b))
    by true d true e = rw (u, v, w, e, lt-ltb z x (omega (arith, ltb-true y x d, ltb-true z y e))) refl
    by true d false e = rw (u, v, w, d, e) refl
    by false d true e = refl
    by false d false e = rw (u, v, w, d, le-ltb z x (omega (arith, ltb-false y x d, ltb-false z y e))) refl

better_idempotent : (a : Option Candidate) → better_of a a ≡ a
unfolding better_of
better_idempotent None = refl
better_idempotent (Some a) = if_when (λ (x : Option Candidate). x ≡ Some a) (ltb (rank_of a.precedence a.hop a.number) (rank_of a.precedence a.hop a.number)) (λ _. refl) (λ _. refl)

-- the parts of the better have their bits
pub better_fits : (a b : Option Candidate) → CandidateFits a → CandidateFits b → CandidateFits (better_of a b)
unfolding better_of
better_fits None b f g = g
better_fits (Some a) None f g = f
better_fits (Some a) (Some b) f g = if_when CandidateFits (ltb (rank_of b.precedence b.hop b.number) (rank_of a.precedence a.hop a.number)) (λ _. g) (λ _. f)

-- ---- together

pub better_monoid : CommutativeIdempotentMonoid CandidateFits better_of None
better_monoid = record {
  none_in = tt;
  op_in = better_fits;
  associative = λ a b c _ _ _. better_associative a b c;
  commutative = better_commutative;
  idempotent = λ a _. better_idempotent a;
  neutral_left = λ a _. none_better a;
  neutral_right = λ a _. better_none a;
}

-- the better is the lesser by precedence, then held hop, then port, on whichever side it stands
module _ (a b : Candidate) (f : CandidateFits (Some a)) (g : CandidateFits (Some b)) (less : Before a b) where
  pub better_right : better_of (Some b) (Some a) ≡ Some a
  unfolding better_of
  better_right = sym (if_true _ _ _ (lt-ltb _ _ (before_rank a b f g less)))

  pub better_left : better_of (Some a) (Some b) ≡ Some a
  better_left = better_commutative (Some a) (Some b) f g ∙ better_right
