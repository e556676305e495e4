-- Laws of the choice in numbers: a candidate's rank, what is shown of it, and the least of a list.
use mathlib.Core.Path.{◌≡◌, refl, sym, subst}
use mathlib.Core.Bool.{Bool, true, false, cond}
use mathlib.Core.List.Memᴰ
use mathlib.Core.List.{List, [], ◌∷◌, map, Memᴰ}
use mathlib.Core.Logic.{⊎_elim}
use Prim.Native.Nat.{ℕ, ◌≤◌}
use native.Mathlib.Nat.{le_trans, le_refl}
use native.Mathlib.Omega.{arith}
use borrow.Author.Tests.{ltb-true, ltb-false}
use lib.Dec.{ltb}
use Rattle.std.proofs.Common.{Option, Some, None}
use Rattle.choice.specs.Precedence.{precedence_of, key_of}
use Rattle.choice.specs.Choose.{rank_of, candidate_of, own_candidate, shown_port, shown_hop}
use Rattle.choice.specs.Rank.{CandidateFits}
use Rattle.choice.specs.Least.{no_rank, rank_in, announced_rank_of, own_rank_of, least_of, port_in, hop_in}
use Rattle.choice.specs.declared.Precedence.{Precedence}
use Rattle.choice.specs.declared.Announcement.{Announcement}
use Rattle.choice.specs.declared.Candidate.{Candidate}
use Rattle.numbers.proofs.Branches.{if_when}

-- ---- the rank of a candidate

pub announced-rank : (port : ℕ) (a : Option Announcement) → announced_rank_of port a ≡ rank_in (candidate_of port a)
unfolding candidate_of
announced-rank port None = refl
announced-rank port (Some a) = refl

pub own-rank : (capable : Bool) (own : Precedence) → own_rank_of capable own ≡ rank_in (own_candidate capable own)
unfolding own_candidate
own-rank true own = refl
own-rank false own = refl

-- no candidate's rank is above that of none
pub rank_most : (c : Option Candidate) → CandidateFits c → rank_in c ≤ no_rank
unfolding rank_of key_of precedence_of
rank_most None f = le_refl no_rank
rank_most (Some a) (f, k, l) = omega arith

-- what is shown of a candidate stands in its rank, none as FF and FF
pub port_in_rank : (c : Option Candidate) → CandidateFits c → shown_port c ≡ port_in (rank_in c)
unfolding shown_port rank_of
port_in_rank None f = refl
port_in_rank (Some a) (f, k, l) = omega arith

pub hop_in_rank : (c : Option Candidate) → CandidateFits c → shown_hop c ≡ hop_in (rank_in c)
unfolding shown_hop rank_of key_of
hop_in_rank None f = refl
hop_in_rank (Some a) (f, k, l) = omega arith

-- ---- the least of a list

-- the lesser of two is no more than either
lesser_first : (x y : ℕ) → cond (ltb y x) y x ≤ x
lesser_first x y = by (ltb y x) refl where
  by : (t : Bool) → ltb y x ≡ t → cond t y x ≤ x
  by true e = omega (arith, ltb-true y x e)
  by false e = le_refl x

lesser_second : (x y : ℕ) → cond (ltb y x) y x ≤ y
lesser_second x y = by (ltb y x) refl where
  by : (t : Bool) → ltb y x ≡ t → cond t y x ≤ y
  by true e = le_refl y
  by false e = ltb-false y x e

-- of a list whose elements have numbers
module _ {A : Type 0} (f : A → ℕ) where
  -- the least is no more than what it starts from, nor than any of the list
  least_start : (start : ℕ) (l : List A) → least_of start (map f l) ≤ start
  unfolding least_of
  least_start start [] = le_refl start
  least_start start (x ∷ xs) = le_trans (least_start (cond (ltb (f x) start) (f x) start) xs) (lesser_first start (f x))

  least_each : (start : ℕ) (l : List A) (x : A) → Memᴰ x l → least_of start (map f l) ≤ f x
  unfolding least_of
  least_each start [] x m = absurd (Memᴰ.not-nil m)
  least_each start (y ∷ ys) x m =
      let next = cond (ltb (f y) start) (f y) start in
      ⊎_elim (λ e. subst (λ (z : A). least_of next (map f ys) ≤ f z) (sym e) (le_trans (least_start next ys) (lesser_second start (f y)))) (least_each next ys x)
      (Memᴰ.cases_cons m)

  -- and no less than what is no more than all of these
  least_above : (n start : ℕ) (l : List A) → n ≤ start → ((x : A) → Memᴰ x l → n ≤ f x) → n ≤ least_of start (map f l)
  unfolding least_of
  least_above n start [] h each = h
  least_above n start (y ∷ ys) h each =
      least_above n (cond (ltb (f y) start) (f y) start) ys
      (if_when (λ (x : ℕ). n ≤ x) (ltb (f y) start) (λ _. each y (Memᴰ.head refl)) (λ _. h)) (λ x m. each x (Memᴰ.tail m))

  -- so it is the number of that element whose number is no more than any other's
  pub least_is : (a : A) (l : List A) (best : A) → Memᴰ best (a ∷ l) → ((x : A) → Memᴰ x (a ∷ l) → f best ≤ f x) → least_of (f a) (map f l) ≡ f best
  least_is a l best m each =
      let under : least_of (f a) (map f l) ≤ f best = ⊎_elim (λ e. subst (λ (z : A). least_of (f a) (map f l) ≤ f z) (sym e) (least_start (f a) l)) (least_each (f a) l best) (Memᴰ.cases_cons m) in
      let above : f best ≤ least_of (f a) (map f l) = least_above (f best) (f a) l (each a (Memᴰ.head refl)) (λ x n. each x (Memᴰ.tail n)) in
      omega (arith, under, above)
