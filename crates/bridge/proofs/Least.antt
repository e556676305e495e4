-- The choice is one of the candidates, no candidate has a lesser rank, it is none exactly if there are none, and the port that it names announces it.
use mathlib.Core.Path.{◌≡◌, refl, sym, ap, ◌∙◌, subst}
use mathlib.Core.Bool.{Bool, true, false}
use mathlib.Core.List.Memᴰ
use mathlib.Core.List.{List, [], ◌∷◌, Memᴰ}
use mathlib.Core.Logic.{◌⊎◌, inl, inr, ⊎_elim}
use Prim.Native.Nat.{ℕ, suc, ◌+◌}
use native.Mathlib.Nat.{le_trans, le_refl, le_of_lt}
use native.Mathlib.Omega.{arith}
use borrow.Author.Tests.{ltb-true, ltb-false}
use lib.Dec.{ltb}
use Rattle.std.proofs.Common.{Option, Some, None}
use Rattle.times.specs.declared.LocalTime.{LocalTime}
use Rattle.choice.specs.Choose.{rank_of, candidate_of, own_candidate, better_of, best_of}
use Rattle.choice.specs.declared.Announcement.{Announcement}
use Rattle.choice.specs.declared.Candidate.{Candidate}
use Rattle.port.specs.declared.Port.{Port}
use Rattle.bridge.specs.Table.{port_at, candidates_from}
use Rattle.bridge.specs.Chosen.{chosen_of}
use Rattle.bridge.specs.Demands.{candidates, NoWorse}
use Rattle.bridge.specs.declared.Bridge.{Bridge}
use Rattle.numbers.proofs.Branches.{if_when}

-- ---- the better of two

-- the rank of a clock
abbrev rank : Candidate → ℕ
rank c = rank_of c.precedence c.hop c.number

better_either : (a b : Option Candidate) → (better_of a b ≡ a) ⊎ (better_of a b ≡ b)
unfolding better_of
better_either None b = inr refl
better_either (Some c) None = inl refl
better_either (Some c) (Some d) = if_when (λ (x : Option Candidate). (x ≡ Some c) ⊎ (x ≡ Some d)) (ltb (rank d) (rank c)) (λ _. inr refl) (λ _. inl refl)

no_worse_refl : (a : Option Candidate) → NoWorse a a
no_worse_refl None = tt
no_worse_refl (Some c) = le_refl (rank c)

no_worse_trans : (a b c : Option Candidate) → NoWorse a b → NoWorse b c → NoWorse a c
no_worse_trans a b None x y = tt
no_worse_trans a None (Some e) x y = absurd y
no_worse_trans None (Some d) (Some e) x y = absurd x
no_worse_trans (Some c) (Some d) (Some e) x y = le_trans x y

better_first : (a b : Option Candidate) → NoWorse (better_of a b) a
unfolding better_of
better_first None b = tt
better_first (Some c) None = le_refl (rank c)
better_first (Some c) (Some d) =
    if_when (λ (x : Option Candidate). NoWorse x (Some c)) (ltb (rank d) (rank c)) (λ e. le_of_lt (ltb-true _ _ e)) (λ _. le_refl (rank c))

better_second : (a b : Option Candidate) → NoWorse (better_of a b) b
unfolding better_of
better_second None b = no_worse_refl b
better_second (Some c) None = tt
better_second (Some c) (Some d) =
    if_when (λ (x : Option Candidate). NoWorse x (Some d)) (ltb (rank d) (rank c)) (λ _. le_refl (rank d)) (λ e. ltb-false _ _ e)

-- ---- the best of many

best_member : (a : Option Candidate) (l : List (Option Candidate)) → Memᴰ (best_of a l) (a ∷ l)
unfolding best_of
best_member a [] = Memᴰ.head refl
best_member a (c ∷ cs) =
    ⊎_elim
    (λ e. ⊎_elim (λ f. Memᴰ.head (e ∙ f)) (λ f. Memᴰ.tail (Memᴰ.head (e ∙ f))) (better_either a c))
    (λ m. Memᴰ.tail (Memᴰ.tail m))
    (Memᴰ.cases_cons (best_member (better_of a c) cs))

best_first : (a : Option Candidate) (l : List (Option Candidate)) → NoWorse (best_of a l) a
unfolding best_of
best_first a [] = no_worse_refl a
best_first a (c ∷ cs) = no_worse_trans (best_of (better_of a c) cs) (better_of a c) a (best_first (better_of a c) cs) (better_first a c)

best_least : (a : Option Candidate) (l : List (Option Candidate)) (x : Option Candidate) → Memᴰ x (a ∷ l) → NoWorse (best_of a l) x
unfolding best_of
best_least a [] x m = ⊎_elim (λ e. subst (NoWorse a) (sym e) (no_worse_refl a)) (λ n. absurd (Memᴰ.not-nil n)) (Memᴰ.cases_cons m)
best_least a (c ∷ cs) x m =
    ⊎_elim
    (λ e. subst (NoWorse (best_of (better_of a c) cs)) (sym e) (best_first a (c ∷ cs)))
    (λ n. ⊎_elim
    (λ e. subst (NoWorse (best_of (better_of a c) cs)) (sym e)
    (no_worse_trans (best_of (better_of a c) cs) (better_of a c) c (best_first (better_of a c) cs) (better_second a c)))
    (λ r. best_least (better_of a c) cs x (Memᴰ.tail r))
    (Memᴰ.cases_cons n))
    (Memᴰ.cases_cons m)

-- ---- the choice

-- it is the best of the candidates, compared one after the other
pub chosen_best : (b : Bridge) → best_of None (candidates b) ≡ chosen_of b
unfolding chosen_of best_of better_of
chosen_best b = refl

-- it is one of the candidates
pub chosen_member : (b : Bridge) → Memᴰ (chosen_of b) (candidates b)
unfolding chosen_of
chosen_member b = best_member (own_candidate b.setup.capable b.setup.own) (candidates_from 1 b.ports)

-- no candidate has a lesser rank
pub chosen_least : (b : Bridge) (x : Option Candidate) → Memᴰ x (candidates b) → NoWorse (chosen_of b) x
unfolding chosen_of
chosen_least b x m = best_least (own_candidate b.setup.capable b.setup.own) (candidates_from 1 b.ports) x m

-- it is none only if every candidate is none; where every candidate is none, it is one of them
pub chosen_none : (b : Bridge) → chosen_of b ≡ None → (x : Option Candidate) → Memᴰ x (candidates b) → x ≡ None
chosen_none b e x m = go x (subst (λ (y : Option Candidate). NoWorse y x) e (chosen_least b x m))
  where
    go : (x : Option Candidate) → NoWorse None x → x ≡ None
    go None w = refl
    go (Some c) w = absurd w

pub none_chosen : (b : Bridge) → ((x : Option Candidate) → Memᴰ x (candidates b) → x ≡ None) → chosen_of b ≡ None
none_chosen b f = f (chosen_of b) (chosen_member b)

-- ---- the announcement behind it

-- a clock as a port announces it that heard it at this time
abbrev pub announcing : Candidate → LocalTime → Announcement
announcing c when = record { precedence = c.precedence; hop = c.hop; heard_at = when }

-- this clock is announced at index i
abbrev AnnouncedAt : List Port → ℕ → Candidate → Type 0
AnnouncedAt ports i c = (when : LocalTime) × ((port_at ports i).announcement ≡ Some (announcing c when))

-- a port's candidate is its announcement, under its number
candidate_announced : (k : ℕ) (x : Option Announcement) {c : Candidate} → Some c ≡ candidate_of k x
    → (c.number ≡ k) × ((when : LocalTime) × (x ≡ Some (announcing c when)))
unfolding candidate_of
candidate_announced k None e = cc
candidate_announced k (Some a) {c} e =
    let same : c ≡ record { precedence = a.precedence; hop = a.hop; number = k } = cc in
    (ap (λ (d : Candidate). d.number) same, (a.heard_at, λ i. Some (announcing (sym same i) a.heard_at)))

-- a clock among the candidates of the ports is announced at the port of its number
announced_at : (k : ℕ) (ports : List Port) {c : Candidate} → Memᴰ (Some c) (candidates_from k ports) → (i : ℕ) × (c.number ≡ k + i) × AnnouncedAt ports i c
unfolding candidates_from
announced_at k [] m = absurd (Memᴰ.not-nil m)
announced_at k (a ∷ l) m =
    ⊎_elim
    (λ e. let c = candidate_announced k a.announcement e in (0, omega (arith, c.0), c.1))
    (λ r. let c = announced_at (suc k) l r in (suc c.0, omega (arith, c.1), c.2))
    (Memᴰ.cases_cons m)

-- a chosen clock that is not the own one is announced at its port
pub chosen_announced : (b : Bridge) {c : Candidate} {i : ℕ} → chosen_of b ≡ Some c → c.number ≡ suc i → AnnouncedAt b.ports i c
unfolding own_candidate
chosen_announced b {c} {i} e n =
    ⊎_elim (λ own. absurd (not_own b.setup.capable own))
    (λ m. let at = announced_at 1 b.ports m in let same : at.0 ≡ i = omega (arith, at.1, n) in subst (λ (j : ℕ). AnnouncedAt b.ports j c) same at.2)
    (Memᴰ.cases_cons (subst (λ (x : Option Candidate). Memᴰ x (candidates b)) e (chosen_member b)))
  where
    not_own : (t : Bool) → Some c ≡ own_candidate t b.setup.own → ⊥
    not_own true own = let same : c ≡ record { precedence = b.setup.own; hop = 0; number = 0 } = cc in omega (arith, n, ap (λ (d : Candidate). d.number) same)
    not_own false own = cc

-- and one under the number 0 is the own clock, at hop 0
pub chosen_own : (b : Bridge) {c : Candidate} → chosen_of b ≡ Some c → c.number ≡ 0 → (c.precedence ≡ b.setup.own) × (c.hop ≡ 0)
unfolding own_candidate
chosen_own b {c} e n =
    ⊎_elim (by b.setup.capable)
    (λ m. absurd (omega (arith, (announced_at 1 b.ports m).1, n)))
    (Memᴰ.cases_cons (subst (λ (x : Option Candidate). Memᴰ x (candidates b)) e (chosen_member b)))
  where
    by : (t : Bool) → Some c ≡ own_candidate t b.setup.own → (c.precedence ≡ b.setup.own) × (c.hop ≡ 0)
    by true own =
        let same : c ≡ record { precedence = b.setup.own; hop = 0; number = 0 } = cc in
        (ap (λ (d : Candidate). d.precedence) same, ap (λ (d : Candidate). d.hop) same)
    by false own = cc
