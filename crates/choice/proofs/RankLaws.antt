-- Laws of ranks in two numbers: they are compared as the ranks are, that of none is the greatest, and a rank names its candidate.
use mathlib.Core.Path.{◌≡◌, refl, sym, ap, ◌∙◌, subst}
use mathlib.Core.Bool.{Bool, true, false}
use Prim.Native.Nat.{ℕ, ◌+◌, ◌*◌, ◌/◌, ◌%◌, ◌^◌, ◌<◌, ◌≤◌}
use native.Mathlib.Omega.{arith}
use native.Mathlib.Nat.{mul-le-mul_right}
use lib.Arith.{digits_div, digits_mod}
use lib.Dec.{ltb, eqb}
use Rattle.std.proofs.Common.{Option, Some, None}
use borrow.Author.Tests.{lt-ltb, le-ltb, ltb-true, ltb-false, eqb-true, ne_eqb}
use Rattle.choice.specs.Precedence.{high_of, precedence_of, key_of}
use Rattle.choice.specs.Choose.{rank_of}
use Rattle.choice.specs.Rank.{lower_end, last_number, in_numbers, PrecedenceFits, CandidateFits, Ranks, worth_of, same_rank_of, precedence_at, candidate_at}
use Rattle.choice.specs.declared.Precedence.{Precedence}
use Rattle.choice.specs.declared.Candidate.{Candidate}
use Rattle.choice.specs.declared.Rank.{Rank}
use Rattle.numbers.proofs.Branches.{if_false}
use Rattle.times.proofs.TestLaws.{both_hold}

-- ---- the two numbers of a clock's rank

-- the 40 bits above the clock's identity, and the upper 24 bits of that
abbrev upper_of : Precedence → ℕ
upper_of p = high_of p * 2 ^ 24 + p.clock / 2 ^ 40

-- the lower 40 bits of the clock's identity, then hop, then number
abbrev lower_of : Candidate → ℕ
lower_of c = c.precedence.clock % 2 ^ 40 * 2 ^ 16 + c.hop * 2 ^ 8 + c.number

abbrev numbers_of : Candidate → Rank
numbers_of c = record { 0 = upper_of c.precedence; 1 = lower_of c }

-- 24 bits below those 40 make no more than 64
pub upper_fits : (p : Precedence) (x : ℕ) → PrecedenceFits p → x < 2 ^ 24 → high_of p * 2 ^ 24 + x < 2 ^ 64
upper_fits p x f l = omega arith

-- together they are the rank
rank_parts : (c : Candidate) → rank_of c.precedence c.hop c.number ≡ upper_of c.precedence * lower_end + lower_of c
unfolding rank_of key_of precedence_of
rank_parts c = omega arith

module _ (c : Candidate) (k : c.hop < 2 ^ 8) (l : c.number < 2 ^ 8) where
  lower_fits : lower_of c < lower_end
  lower_fits = omega arith

  pub clock_numbers : numbers_of c ≡ in_numbers (Some c)
  unfolding in_numbers
  clock_numbers =
      let upper = upper_of c.precedence in
      rw (rank_parts c) (λ i. record { 0 = sym (digits_div upper lower_fits) i; 1 = sym (digits_mod upper lower_fits) i })

-- ---- the rank of a candidate

-- of none
pub nothing_rank : Ranks (record { 0 = last_number; 1 = last_number }) None
unfolding in_numbers
nothing_rank = record { is = refl; fits = tt }

-- of one that is given in two ways
pub same_rank : {r : Rank} {c d : Option Candidate} → c ≡ d → Ranks r c → Ranks r d
same_rank {r} e x = subst (Ranks r) e x

-- ---- the order of ranks

-- a number above and below 56 bits, the parts set 64 bits apart
abbrev apart : ℕ → ℕ
apart x = x / lower_end * 2 ^ 64 + x % lower_end

-- that leaves the order of numbers as it is
pub same_order : (x y : ℕ) → ltb (apart x) (apart y) ≡ ltb x y
same_order x y = by (ltb x y) refl where
  by : (t : Bool) → ltb x y ≡ t → ltb (apart x) (apart y) ≡ ltb x y
  by true e = lt-ltb (apart x) (apart y) (omega (arith, ltb-true x y e)) ∙ sym e
  by false e = le-ltb (apart x) (apart y) (omega (arith, ltb-false x y e)) ∙ sym e

-- of two numbers in two parts, that with the greater parts is greater
both_less : (m q s r t : ℕ) → q ≤ s → r < t → q * m + r < s * m + t
both_less m q s r t k l = omega (arith, mul-le-mul_right m k)

-- every clock's rank is less than what stands for no candidate
pub clock_below : (c : Candidate) → CandidateFits (Some c) → worth_of (in_numbers (Some c)) < worth_of (in_numbers None)
unfolding in_numbers
clock_below c (f, k, l) =
    let rank = rank_of c.precedence c.hop c.number in
    both_less (2 ^ 64) (rank / lower_end) last_number (rank % lower_end) last_number
    (rw (sym (ap (λ (r : Rank). r.0) (clock_numbers c k l))) (omega (arith, upper_fits c.precedence (c.precedence.clock / 2 ^ 40) f (omega arith))))
    (omega arith)

-- two that are found to be the same are
pub same_ranks : (a b : Rank) → same_rank_of a b ≡ true → a ≡ b
same_ranks a b e =
    let (upper, lower) = both_hold (eqb a.0 b.0) (eqb a.1 b.1) e in
    λ i. record { 0 = eqb-true a.0 b.0 upper i; 1 = eqb-true a.1 b.1 lower i }

-- ---- the candidate in a rank

-- each part of a clock is found again in its place
module _ (c : Candidate) (f : PrecedenceFits c.precedence) (k : c.hop < 2 ^ 8) (l : c.number < 2 ^ 8) where
  precedence_named : precedence_at (numbers_of c) ≡ c.precedence
  unfolding precedence_at
  precedence_named =
      let p = c.precedence in
      let priority1 : upper_of p / 2 ^ 56 ≡ p.priority1 = omega arith in
      let source : upper_of p / 2 ^ 48 % 2 ^ 8 ≡ p.source = omega arith in
      let variance : upper_of p / 2 ^ 32 % 2 ^ 16 ≡ p.variance = omega arith in
      let priority2 : upper_of p / 2 ^ 24 % 2 ^ 8 ≡ p.priority2 = omega arith in
      let clock : upper_of p % 2 ^ 24 * 2 ^ 40 + lower_of c / 2 ^ 16 ≡ p.clock = omega arith in
      λ i. record { priority1 = priority1 i; source = source i; variance = variance i; priority2 = priority2 i; clock = clock i }

  clock_named : candidate_at (numbers_of c) ≡ Some c
  unfolding candidate_at
  clock_named =
      let hop : lower_of c / 2 ^ 8 % 2 ^ 8 ≡ c.hop = omega arith in
      let number : lower_of c % 2 ^ 8 ≡ c.number = omega arith in
      sym (if_false _ _ _ (ne_eqb (lower_of c) last_number (λ e. omega arith)))
      ∙ (λ i. Some (record { precedence = precedence_named i; hop = hop i; number = number i }))

pub candidate_named : (c : Option Candidate) → CandidateFits c → candidate_at (in_numbers c) ≡ c
unfolding candidate_at in_numbers
candidate_named None f = refl
candidate_named (Some c) (f, k, l) = ap candidate_at (sym (clock_numbers c k l)) ∙ clock_named c f k l

-- a rank names the candidate whose rank it is
pub rank_candidate : {r : Rank} {c : Option Candidate} → Ranks r c → candidate_at r ≡ c
rank_candidate {r} {c} x = ap candidate_at x.is ∙ candidate_named c x.fits

-- the lower number of a rank that names a clock has its bits
pub lower_within : {r : Rank} {c : Option Candidate} → Ranks r c → (r.1 ≡ last_number → ⊥) → r.1 < lower_end
unfolding in_numbers
lower_within {r} {c} x other = by c x.is where
  by : (c : Option Candidate) → r ≡ in_numbers c → r.1 < lower_end
  by None e = absurd (other (ap (λ (r : Rank). r.1) e))
  by (Some d) e = rw e (omega arith)
