-- The worst precedence: its thirteen bytes are FF, every other is less, and a clock of any other precedence is better, on whichever side it stands.
use mathlib.Core.Path.{◌≡◌, refl}
use mathlib.Core.Bool.{Bool, true, false}
use mathlib.Core.Logic.{◌≢◌, inl}
use Prim.Native.Nat.{◌-◌, ◌^◌, ◌<◌, ◌≤◌}
use native.Mathlib.Omega.{arith}
use borrow.Author.Tests.{ltb-true, ltb-false}
use lib.Dec.{ltb, lit<}
use Rattle.std.proofs.Common.{Some}
use Rattle.choice.specs.Precedence.{precedence_of, worst_precedence}
use Rattle.choice.specs.Choose.{better_of}
use Rattle.choice.specs.Rank.{PrecedenceFits, CandidateFits}
use Rattle.choice.specs.declared.Precedence.{Precedence}
use Rattle.choice.specs.declared.Candidate.{Candidate}
use Rattle.choice.proofs.BetterLaws.{better_left, better_right}

-- each part has its bits, all of them set
pub worst_fits : PrecedenceFits worst_precedence
worst_fits = record { priority1 = lit< tt; source = lit< tt; variance = lit< tt; priority2 = lit< tt; clock = lit< tt }

pub worst_number : precedence_of worst_precedence ≡ 2 ^ 104 - 1
unfolding precedence_of
worst_number = refl

-- no precedence is worse
pub worst_most : (p : Precedence) → PrecedenceFits p → precedence_of p ≤ precedence_of worst_precedence
unfolding precedence_of
worst_most p f = omega (arith, f.priority1, f.source, f.variance, f.priority2, f.clock)

-- and every other is better
pub worst_only : (p : Precedence) → PrecedenceFits p → precedence_of worst_precedence ≤ precedence_of p → p ≡ worst_precedence
unfolding precedence_of
worst_only p f l =
    let priority1 : p.priority1 ≡ 2 ^ 8 - 1 = omega (arith, f.priority1, f.source, f.variance, f.priority2, f.clock, l) in
    let source : p.source ≡ 2 ^ 8 - 1 = omega (arith, f.priority1, f.source, f.variance, f.priority2, f.clock, l) in
    let variance : p.variance ≡ 2 ^ 16 - 1 = omega (arith, f.priority1, f.source, f.variance, f.priority2, f.clock, l) in
    let priority2 : p.priority2 ≡ 2 ^ 8 - 1 = omega (arith, f.priority1, f.source, f.variance, f.priority2, f.clock, l) in
    let clock : p.clock ≡ 2 ^ 64 - 1 = omega (arith, f.priority1, f.source, f.variance, f.priority2, f.clock, l) in
    λ i. record { priority1 = priority1 i; source = source i; variance = variance i; priority2 = priority2 i; clock = clock i }

-- no clock of another precedence loses to one of the worst, whatever their hops and ports are
module _ (a b : Candidate) (f : CandidateFits (Some a)) (g : CandidateFits (Some b)) (worst : b.precedence ≡ worst_precedence) (other : a.precedence ≢ worst_precedence) where
  less : precedence_of a.precedence < precedence_of b.precedence
  less = rw worst (by (ltb (precedence_of a.precedence) (precedence_of worst_precedence)) refl)
    where
      by : (t : Bool) → ltb (precedence_of a.precedence) (precedence_of worst_precedence) ≡ t → precedence_of a.precedence < precedence_of worst_precedence
      by true e = ltb-true _ _ e
      by false e = absurd (other (worst_only a.precedence f.0 (ltb-false _ _ e)))

  pub worst_loses_right : better_of (Some a) (Some b) ≡ Some a
  worst_loses_right = better_left a b f g (inl less)

  pub worst_loses_left : better_of (Some b) (Some a) ≡ Some a
  worst_loses_left = better_right a b f g (inl less)
