-- Laws of the ranking: it is in order, it is the clocks of the list in another order, and there is only one such list; its head is the best; and one candidate that changes is taken out and put in.
use mathlib.Core.Path.{◌≡◌, refl, sym, ap, ◌∙◌, subst}
use mathlib.Core.Bool.{Bool, true, false}
use mathlib.Core.List.Memᴰ
use mathlib.Core.List.{List, [], ◌∷◌, ◌++◌, Memᴰ}
use mathlib.Core.Logic.{◌⊎◌, inl, inr, ⊎_elim}
use Prim.Native.Nat.{ℕ, zero, suc, ◌+◌, ◌<◌, ◌≤◌}
use native.Mathlib.Nat.{lt_trans, le_of_lt, add-zero, zero-add}
use native.Mathlib.Omega.{arith}
use borrow.Author.Tests.{ltb-true, ltb-false, eqb-true, eqb-false, eq-eqb, ne_eqb, le-ltb, lt-ltb}
use lib.Dec.{ltb, eqb}
use lib.ListN.{length}
use Rattle.std.proofs.Common.{Option, Some, None}
use Rattle.choice.specs.Choose.{rank_of, better_of, best_of, number_of}
use Rattle.choice.specs.Least.{rank_in, port_in}
use Rattle.choice.specs.Permutation.{Permutation, empty, placed}
use Rattle.choice.specs.Ranking.{is_better, inserted_of, placed_of, ranking_of, ranked_at, Ordered, IsClock, clocks_in, is_below, how_many_below, without_number, with_candidate}
use Rattle.choice.specs.declared.Candidate.{Candidate}
use Rattle.numbers.proofs.Branches.{if_true, if_false, if_when}
use Rattle.choice.proofs.PermutationLaws.{members_there, members_back}
use Rattle.choice.proofs.CompareLaws.{AllFit, best_same}

-- ---- lists in order

-- two lists in order that hold the same are the same
pub ordered_same : (l k : List (Option Candidate)) → Ordered l → Ordered k → ((x : Option Candidate) → Memᴰ x l → Memᴰ x k) → ((x : Option Candidate) → Memᴰ x k → Memᴰ x l) → l ≡ k
ordered_same [] [] ol ok there back = refl
ordered_same [] (b ∷ k) ol ok there back = absurd (Memᴰ.not-nil (back b (Memᴰ.head refl)))
ordered_same (a ∷ l) [] ol ok there back = absurd (Memᴰ.not-nil (there a (Memᴰ.head refl)))
ordered_same (a ∷ l) (b ∷ k) (first, ol) (least, ok) there back =
    λ i. same i ∷ ordered_same l k ol ok rest_there rest_back i
  where
    same : a ≡ b
    same =
        ⊎_elim (λ e. e)
        (λ m. ⊎_elim sym (λ n. absurd (omega (arith, least a m, first b n))) (Memᴰ.cases_cons (back b (Memᴰ.head refl))))
        (Memᴰ.cases_cons (there a (Memᴰ.head refl)))

    rest_there : (x : Option Candidate) → Memᴰ x l → Memᴰ x k
    rest_there x m =
        ⊎_elim (λ e. absurd (omega (arith, subst (λ (y : Option Candidate). rank_in a < rank_in y) (e ∙ sym same) (first x m)))) (λ n. n)
        (Memᴰ.cases_cons (there x (Memᴰ.tail m)))

    rest_back : (x : Option Candidate) → Memᴰ x k → Memᴰ x l
    rest_back x m =
        ⊎_elim (λ e. absurd (omega (arith, subst (λ (y : Option Candidate). rank_in b < rank_in y) (e ∙ same) (least x m)))) (λ n. n)
        (Memᴰ.cases_cons (back x (Memᴰ.tail m)))

-- ---- a candidate put in

inserted_members : (c : Option Candidate) (l : List (Option Candidate)) {x : Option Candidate} → Memᴰ x (inserted_of c l) → (x ≡ c) ⊎ Memᴰ x l
unfolding inserted_of
inserted_members c [] = λ m. Memᴰ.cases_cons m
inserted_members c (y ∷ l) {x} =
    if_when (λ (k : List (Option Candidate)). Memᴰ x k → (x ≡ c) ⊎ Memᴰ x (y ∷ l)) (is_better c y)
    (λ _ m. Memᴰ.cases_cons m)
    (λ _ m. ⊎_elim (λ e. inr (Memᴰ.head e)) (λ n. ⊎_elim inl (λ r. inr (Memᴰ.tail r)) (inserted_members c l n)) (Memᴰ.cases_cons m))

inserted_there : (c : Option Candidate) (l : List (Option Candidate)) {x : Option Candidate} → (x ≡ c) ⊎ Memᴰ x l → Memᴰ x (inserted_of c l)
unfolding inserted_of
inserted_there c [] w = ⊎_elim Memᴰ.head Memᴰ.tail w
inserted_there c (y ∷ l) {x} w =
    if_when (Memᴰ x) (is_better c y)
    (λ _. ⊎_elim Memᴰ.head Memᴰ.tail w)
    (λ _. ⊎_elim
    (λ e. Memᴰ.tail (inserted_there c l (inl e)))
    (λ m. ⊎_elim Memᴰ.head (λ n. Memᴰ.tail (inserted_there c l (inr n))) (Memᴰ.cases_cons m))
    w)

-- in order, where its rank is that of no other
inserted_ordered : (c : Option Candidate) (l : List (Option Candidate)) → Ordered l → ((x : Option Candidate) → Memᴰ x l → rank_in c ≡ rank_in x → ⊥) → Ordered (inserted_of c l)
unfolding inserted_of
inserted_ordered c [] o other = (λ x m. absurd (Memᴰ.not-nil m), tt)
inserted_ordered c (y ∷ l) (first, o) other =
    if_when Ordered (is_better c y)
    (λ e.
    let less = ltb-true (rank_in c) (rank_in y) e in
    (λ x m. ⊎_elim (λ q. subst (λ (z : Option Candidate). rank_in c < rank_in z) (sym q) less) (λ n. lt_trans less (first x n)) (Memᴰ.cases_cons m), (first, o)))
    (λ e.
    let less : rank_in y < rank_in c = omega (arith, ltb-false (rank_in c) (rank_in y) e, other y (Memᴰ.head refl)) in (
      λ x m. ⊎_elim (λ q. subst (λ (z : Option Candidate). rank_in y < rank_in z) (sym q) less) (first x) (inserted_members c l m),
      inserted_ordered c l o (λ x m. other x (Memᴰ.tail m)),
    ))

-- it stands somewhere among the others, which stay as they are
abbrev Among : Option Candidate → List (Option Candidate) → List (Option Candidate) → Type 0
Among c l k = (before : List (Option Candidate)) × (after : List (Option Candidate)) × (l ≡ before ++ after) × (k ≡ before ++ (c ∷ after))

inserted_among : (c : Option Candidate) (l : List (Option Candidate)) → Among c l (inserted_of c l)
unfolding inserted_of
inserted_among c [] = ([], [], refl, refl)
inserted_among c (y ∷ l) =
    if_when (Among c (y ∷ l)) (is_better c y)
    (λ _. ([], y ∷ l, refl, refl))
    (λ _. let (before, after, e, f) = inserted_among c l in (y ∷ before, after, (λ i. y ∷ e i), (λ i. y ∷ f i)))

inserted_permutation : (c : Option Candidate) (l k : List (Option Candidate)) → Permutation l k → Permutation (c ∷ l) (inserted_of c k)
inserted_permutation c l k p =
    let (before, after, e, f) = inserted_among c k in
    subst (Permutation (c ∷ l)) (sym f) (placed c l before after (subst (Permutation l) e p))

-- ---- the ranking holds the clocks of the list

pub ranking_members : (l : List (Option Candidate)) {x : Option Candidate} → Memᴰ x (ranking_of l) → Memᴰ x (clocks_in l)
unfolding ranking_of placed_of clocks_in
ranking_members [] m = m
ranking_members (None ∷ l) m = ranking_members l m
ranking_members (Some a ∷ l) m = ⊎_elim Memᴰ.head (λ r. Memᴰ.tail (ranking_members l r)) (inserted_members (Some a) (ranking_of l) m)

pub ranking_there : (l : List (Option Candidate)) {x : Option Candidate} → Memᴰ x (clocks_in l) → Memᴰ x (ranking_of l)
unfolding ranking_of placed_of clocks_in
ranking_there [] m = m
ranking_there (None ∷ l) m = ranking_there l m
ranking_there (Some a ∷ l) m =
    inserted_there (Some a) (ranking_of l) (⊎_elim inl (λ r. inr (ranking_there l r)) (Memᴰ.cases_cons m))

-- each once: the clocks in another order
pub ranking_permutation : (l : List (Option Candidate)) → Permutation (clocks_in l) (ranking_of l)
unfolding ranking_of placed_of clocks_in
ranking_permutation [] = empty
ranking_permutation (None ∷ l) = ranking_permutation l
ranking_permutation (Some a ∷ l) = inserted_permutation (Some a) (clocks_in l) (ranking_of l) (ranking_permutation l)

-- no more than there are in the list
inserted_length : (c : Option Candidate) (l : List (Option Candidate)) → length (inserted_of c l) ≡ suc (length l)
unfolding inserted_of
inserted_length c [] = refl
inserted_length c (y ∷ l) = if_when (λ (k : List (Option Candidate)). length k ≡ suc (suc (length l))) (is_better c y) (λ _. refl) (λ _. ap suc (inserted_length c l))

pub ranking_length : (l : List (Option Candidate)) → length (ranking_of l) ≤ length l
unfolding ranking_of placed_of
ranking_length [] = omega arith
ranking_length (None ∷ l) = omega (arith, ranking_length l)
ranking_length (Some a ∷ l) = omega (arith, ranking_length l, inserted_length (Some a) (ranking_of l))

-- the clocks of a list are its members that are clocks
clocks_members : (l : List (Option Candidate)) {x : Option Candidate} → Memᴰ x (clocks_in l) → Memᴰ x l × IsClock x
unfolding clocks_in
clocks_members [] m = absurd (Memᴰ.not-nil m)
clocks_members (None ∷ l) m = let (n, c) = clocks_members l m in (Memᴰ.tail n, c)
clocks_members (Some a ∷ l) m =
    ⊎_elim (λ e. (Memᴰ.head e, subst IsClock (sym e) tt)) (λ r. let (s, c) = clocks_members l r in (Memᴰ.tail s, c)) (Memᴰ.cases_cons m)

clocks_there : (l : List (Option Candidate)) {x : Option Candidate} → Memᴰ x l → IsClock x → Memᴰ x (clocks_in l)
unfolding clocks_in
clocks_there [] m c = absurd (Memᴰ.not-nil m)
clocks_there (None ∷ l) m c = ⊎_elim (λ e. absurd (subst IsClock e c)) (λ n. clocks_there l n c) (Memᴰ.cases_cons m)
clocks_there (Some a ∷ l) m c = ⊎_elim Memᴰ.head (λ r. Memᴰ.tail (clocks_there l r c)) (Memᴰ.cases_cons m)

-- a candidate of the ranking is one of the list, and a clock; and the other way round
pub ranked_member : (l : List (Option Candidate)) {x : Option Candidate} → Memᴰ x (ranking_of l) → Memᴰ x l × IsClock x
ranked_member l m = clocks_members l (ranking_members l m)

pub member_ranked : (l : List (Option Candidate)) {x : Option Candidate} → Memᴰ x l → IsClock x → Memᴰ x (ranking_of l)
member_ranked l m c = ranking_there l (clocks_there l m c)

-- ---- candidates that stand under their numbers, one after the other

-- the candidate under a number has it
abbrev pub Under : ℕ → Option Candidate → Type 0
Under number None = Unit {0}
Under number (Some c) = c.number ≡ number

abbrev pub Numbered : ℕ → List (Option Candidate) → Type 0
Numbered k [] = Unit {0}
Numbered k (c ∷ l) = Under k c × Numbered (suc k) l

-- so each is found by its number
pub numbered_at : (k : ℕ) (l : List (Option Candidate)) → Numbered k l → {a : Candidate} → Memᴰ (Some a) l
    → (i : ℕ) × (a.number ≡ k + i) × (i < length l) × (ranked_at l i ≡ Some a)
numbered_at k [] f m = absurd (Memᴰ.not-nil m)
numbered_at k (c ∷ l) (u, f) {a} m =
    ⊎_elim
    (λ e. (0, subst (Under k) (sym e) u ∙ sym (add-zero k), omega arith, sym e))
    (λ r. let (i, number, within, at) = numbered_at (suc k) l f r in (suc i, omega (arith, number), omega (arith, within), at))
    (Memᴰ.cases_cons m)

-- and what stands at a place has its number
numbered_under : (j : ℕ) (a : List (Option Candidate)) → Numbered j a → (i : ℕ) → Under (j + i) (ranked_at a i)
numbered_under j [] f i = tt
numbered_under j (c ∷ a) (u, f) zero = subst (λ (z : ℕ). Under z c) (sym (add-zero j)) u
numbered_under j (c ∷ a) (u, f) (suc i) = let e : suc j + i ≡ j + suc i = omega arith in subst (λ (z : ℕ). Under z (ranked_at a i)) e (numbered_under (suc j) a f i)

-- what stands at a place is one of the list
pub place_member : (l : List (Option Candidate)) (i : ℕ) → i < length l → Memᴰ (ranked_at l i) l
place_member [] i h = absurd (omega arith)
place_member (y ∷ l) zero h = Memᴰ.head refl
place_member (y ∷ l) (suc i) h = Memᴰ.tail (place_member l i (omega (arith, h)))

-- a place at which a clock stands is one of the list's
pub clock_within : (l : List (Option Candidate)) (i : ℕ) → IsClock (ranked_at l i) → i < length l
clock_within [] i c = absurd c
clock_within (y ∷ l) zero c = omega arith
clock_within (y ∷ l) (suc i) c = omega (arith, clock_within l i c)

-- and the clock is one of the list
at_member : (l : List (Option Candidate)) (i : ℕ) {x : Option Candidate} → IsClock x → ranked_at l i ≡ x → Memᴰ x l
at_member [] i c e = absurd (subst IsClock (sym e) c)
at_member (y ∷ l) zero c e = Memᴰ.head (sym e)
at_member (y ∷ l) (suc i) c e = Memᴰ.tail (at_member l i c e)

-- how many numbers there are
abbrev pub numbers : ℕ
numbers = 256

-- a rank ends in its clock's
rank_number : (a : Candidate) → a.number < numbers → port_in (rank_in (Some a)) ≡ a.number
unfolding rank_of
rank_number a l = omega arith

same_number : (a b : Candidate) → a.number < numbers → b.number < numbers → rank_in (Some a) ≡ rank_in (Some b) → a.number ≡ b.number
same_number a b l m e = sym (rank_number a l) ∙ ap port_in e ∙ rank_number b m

numbered_small : (k : ℕ) (l : List (Option Candidate)) → Numbered k l → {a : Candidate} → Memᴰ (Some a) l → (k ≤ a.number) × (a.number < k + length l)
numbered_small k l f m = let (i, number, within, at) = numbered_at k l f m in (omega (arith, number), omega (arith, number, within))

-- each has another rank than those behind it, so the ranking is in order
pub ranking_ordered : (k : ℕ) (l : List (Option Candidate)) → Numbered k l → k + length l ≤ numbers → Ordered (ranking_of l)
unfolding ranking_of placed_of
ranking_ordered k [] f room = tt
ranking_ordered k (None ∷ l) (u, f) room = ranking_ordered (suc k) l f (omega arith)
ranking_ordered k (Some a ∷ l) (u, f) room = inserted_ordered (Some a) (ranking_of l) (ranking_ordered (suc k) l f (omega arith)) other
  where
    other : (x : Option Candidate) → Memᴰ x (ranking_of l) → rank_in (Some a) ≡ rank_in x → ⊥
    other None m e = (ranked_member l m).1
    other (Some b) m e =
        let (above, below) = numbered_small (suc k) l f (ranked_member l m).0 in
        let same : a.number ≡ b.number = same_number a b (omega (arith, u, room)) (omega (arith, below, room)) e in
        omega (arith, same, u, above)

-- what has the number of another is that
pub numbered_once : (l : List (Option Candidate)) → Numbered 0 l → (x y : Option Candidate) → Memᴰ x (ranking_of l) → Memᴰ y (ranking_of l) → number_of x ≡ number_of y → x ≡ y
numbered_once l f None y m n q = absurd (ranked_member l m).1
numbered_once l f (Some a) None m n q = absurd (ranked_member l n).1
numbered_once l f (Some a) (Some b) m n q =
    let (k, number, _, at) = numbered_at 0 l f (ranked_member l m).0 in
    let (k', number', _, at') = numbered_at 0 l f (ranked_member l n).0 in
    let place : k ≡ k' = omega (arith, number, number', q) in
    sym at ∙ ap (ranked_at l) place ∙ at'

-- ---- the only such list

pub ranking_only : (l k : List (Option Candidate)) → Numbered 0 l → length l ≤ numbers → Ordered k → Permutation (clocks_in l) k → k ≡ ranking_of l
ranking_only l k f room o p =
    ordered_same k (ranking_of l) o (ranking_ordered 0 l f (omega (arith, room)))
    (λ x m. ranking_there l (members_back p m)) (λ x m. members_there p (ranking_members l m))

-- ---- the head is the best

-- a clock that has a lesser rank than all of a list stays the best
best_stays : (c : Option Candidate) (l : List (Option Candidate)) → IsClock c → ((x : Option Candidate) → Memᴰ x l → rank_in c < rank_in x) → ((x : Option Candidate) → Memᴰ x l → IsClock x) → best_of c l ≡ c
unfolding best_of better_of
best_stays c [] ic less clocks = refl
best_stays None (x ∷ l) ic less clocks = absurd ic
best_stays (Some a) (None ∷ l) ic less clocks = absurd (clocks None (Memᴰ.head refl))
best_stays (Some a) (Some b ∷ l) ic less clocks =
    ap (λ (c : Option Candidate). best_of c l) (sym (if_false (ltb (rank_in (Some b)) (rank_in (Some a))) (Some b) (Some a) (le-ltb _ _ (le_of_lt (less (Some b) (Memᴰ.head refl))))))
    ∙ best_stays (Some a) l tt (λ x m. less x (Memᴰ.tail m)) (λ x m. clocks x (Memᴰ.tail m))

-- so of a list in order the best is the first
pub ordered_best : (l : List (Option Candidate)) → Ordered l → ((x : Option Candidate) → Memᴰ x l → IsClock x) → best_of None l ≡ ranked_at l 0
unfolding best_of better_of
ordered_best [] o clocks = refl
ordered_best (c ∷ l) (first, o) clocks = best_stays c l (clocks c (Memᴰ.head refl)) first (λ x m. clocks x (Memᴰ.tail m))

-- each member of a list is none, or in its ranking
none_or_ranked : (l : List (Option Candidate)) (x : Option Candidate) → Memᴰ x l → (x ≡ None) ⊎ Memᴰ x (ranking_of l)
none_or_ranked l None m = inl refl
none_or_ranked l (Some a) m = inr (member_ranked l m tt)

pub ranking_head : (l : List (Option Candidate)) → Numbered 0 l → length l ≤ numbers → AllFit l → ranked_at (ranking_of l) 0 ≡ best_of None l
ranking_head l f room fits =
    sym (ordered_best (ranking_of l) (ranking_ordered 0 l f (omega (arith, room))) (λ x m. (ranked_member l m).1))
    ∙ best_same (ranking_of l) l (λ x m. fits x (ranked_member l m).0) fits (λ x m. inr (ranked_member l m).0) (none_or_ranked l)

-- ---- how many are before a place

inserted_below : (r : ℕ) (c : Option Candidate) (l : List (Option Candidate)) → how_many_below r (inserted_of c l) ≡ is_below r c + how_many_below r l
unfolding inserted_of how_many_below
inserted_below r c [] = refl
inserted_below r c (y ∷ l) =
    if_when (λ (k : List (Option Candidate)). how_many_below r k ≡ is_below r c + (is_below r y + how_many_below r l)) (is_better c y)
    (λ _. refl)
    (λ _. omega (arith, inserted_below r c l))

-- as many of the ranking as of the list
pub ranking_below : (r : ℕ) (l : List (Option Candidate)) → how_many_below r (ranking_of l) ≡ how_many_below r l
unfolding ranking_of placed_of how_many_below
ranking_below r [] = refl
ranking_below r (None ∷ l) = omega (arith, ranking_below r l)
ranking_below r (Some a ∷ l) = omega (arith, inserted_below r (Some a) (ranking_of l), ranking_below r l)

-- none of those that have no lesser rank
none_below : (r : ℕ) (l : List (Option Candidate)) → ((x : Option Candidate) → Memᴰ x l → r ≤ rank_in x) → how_many_below r l ≡ 0
unfolding how_many_below
none_below r [] above = refl
none_below r (None ∷ l) above = omega (arith, none_below r l (λ x m. above x (Memᴰ.tail m)))
none_below r (Some a ∷ l) above =
    let here : is_below r (Some a) ≡ 0 = sym (if_false _ 1 0 (le-ltb (rank_in (Some a)) r (above (Some a) (Memᴰ.head refl)))) in
    omega (arith, here, none_below r l (λ x m. above x (Memᴰ.tail m)))

-- of a list in order, as many as stand before a place
pub ordered_below : (l : List (Option Candidate)) → Ordered l → ((x : Option Candidate) → Memᴰ x l → IsClock x) → (i : ℕ) → i < length l → how_many_below (rank_in (ranked_at l i)) l ≡ i
unfolding how_many_below
ordered_below [] o clocks i h = absurd (omega arith)
ordered_below (None ∷ l) o clocks i h = absurd (clocks None (Memᴰ.head refl))
ordered_below (Some a ∷ l) (first, o) clocks zero within =
    let here : is_below (rank_in (Some a)) (Some a) ≡ 0 = sym (if_false _ 1 0 (le-ltb (rank_in (Some a)) (rank_in (Some a)) (omega arith))) in
    omega (arith, here, none_below (rank_in (Some a)) l (λ x m. le_of_lt (first x m)))
ordered_below (Some a ∷ l) (first, o) clocks (suc i) within =
    let r = rank_in (ranked_at l i) in
    let small : i < length l = omega (arith, within) in
    let here : is_below r (Some a) ≡ 1 = sym (if_true _ 1 0 (lt-ltb (rank_in (Some a)) r (first (ranked_at l i) (place_member l i small)))) in
    omega (arith, here, ordered_below l o (λ x m. clocks x (Memᴰ.tail m)) i small)

-- as many as there are clocks in the list
pub ranking_count : (l : List (Option Candidate)) → length (ranking_of l) ≡ length (clocks_in l)
unfolding ranking_of placed_of clocks_in
ranking_count [] = refl
ranking_count (None ∷ l) = ranking_count l
ranking_count (Some a ∷ l) = inserted_length (Some a) (ranking_of l) ∙ ap suc (ranking_count l)

-- ---- one candidate taken out

pub without_members : (n : ℕ) (l : List (Option Candidate)) {x : Option Candidate} → Memᴰ x (without_number n l) → Memᴰ x l × (number_of x ≡ n → ⊥)
unfolding without_number
without_members n [] = λ m. absurd (Memᴰ.not-nil m)
without_members n (c ∷ l) {x} =
    if_when (λ (k : List (Option Candidate)). Memᴰ x k → Memᴰ x (c ∷ l) × (number_of x ≡ n → ⊥)) (eqb (number_of c) n)
    (λ _ m. let (r, other) = without_members n l m in (Memᴰ.tail r, other))
    (λ e m. ⊎_elim
    (λ q. (Memᴰ.head q, λ z. eqb-false (number_of c) n e (ap number_of (sym q) ∙ z)))
    (λ r. let (s, other) = without_members n l r in (Memᴰ.tail s, other))
    (Memᴰ.cases_cons m))

pub without_there : (n : ℕ) (l : List (Option Candidate)) {x : Option Candidate} → Memᴰ x l → (number_of x ≡ n → ⊥) → Memᴰ x (without_number n l)
unfolding without_number
without_there n [] m other = absurd (Memᴰ.not-nil m)
without_there n (c ∷ l) {x} m other =
    if_when (Memᴰ x) (eqb (number_of c) n)
    (λ e. ⊎_elim (λ q. absurd (other (ap number_of q ∙ eqb-true (number_of c) n e))) (λ r. without_there n l r other) (Memᴰ.cases_cons m))
    (λ _. ⊎_elim Memᴰ.head (λ r. Memᴰ.tail (without_there n l r other)) (Memᴰ.cases_cons m))

-- the rest is in order
pub without_ordered : (n : ℕ) (l : List (Option Candidate)) → Ordered l → Ordered (without_number n l)
unfolding without_number
without_ordered n [] o = tt
without_ordered n (c ∷ l) (first, o) =
    if_when Ordered (eqb (number_of c) n)
    (λ _. without_ordered n l o)
    (λ _. (λ x m. first x (without_members n l m).0, without_ordered n l o))

-- and all of it where there is none with that number
pub without_none : (n : ℕ) (l : List (Option Candidate)) → ((x : Option Candidate) → Memᴰ x l → number_of x ≡ n → ⊥) → without_number n l ≡ l
unfolding without_number
without_none n [] none = refl
without_none n (c ∷ l) none =
    sym (if_false (eqb (number_of c) n) (without_number n l) (c ∷ without_number n l) (ne_eqb (number_of c) n (none c (Memᴰ.head refl))))
    ∙ (λ i. c ∷ without_none n l (λ x m. none x (Memᴰ.tail m)) i)

-- no two of a list are under one number
abbrev pub Once : List (Option Candidate) → Type 0
Once l = (x y : Option Candidate) → Memᴰ x l → Memᴰ y l → number_of x ≡ number_of y → x ≡ y

-- so those behind the first have another number
pub none_behind : (n : ℕ) (c : Option Candidate) (l : List (Option Candidate)) → Ordered (c ∷ l) → Once (c ∷ l) → number_of c ≡ n → without_number n l ≡ l
none_behind n c l (first, o) once e =
    without_none n l
    (λ x m q. omega (arith, subst (λ (y : Option Candidate). rank_in c < rank_in y) (once x c (Memᴰ.tail m) (Memᴰ.head refl) (q ∙ sym e)) (first x m)))

-- and without it they are left
without_first : (n : ℕ) (c : Option Candidate) (l : List (Option Candidate)) → Ordered (c ∷ l) → Once (c ∷ l) → number_of c ≡ n → without_number n (c ∷ l) ≡ l
unfolding without_number
without_first n c l o once e =
    sym (if_true (eqb (number_of c) n) (without_number n l) (c ∷ without_number n l) (eq-eqb (number_of c) n e)) ∙ none_behind n c l o once e

-- ---- and put in again

pub placed_members : (c : Option Candidate) (l : List (Option Candidate)) {x : Option Candidate} → Memᴰ x (placed_of c l) → (IsClock x × (x ≡ c)) ⊎ Memᴰ x l
unfolding placed_of
placed_members None l m = inr m
placed_members (Some a) l m = ⊎_elim (λ e. inl (subst IsClock (sym e) tt, e)) inr (inserted_members (Some a) l m)

pub placed_there : (c : Option Candidate) (l : List (Option Candidate)) {x : Option Candidate} → (IsClock x × (x ≡ c)) ⊎ Memᴰ x l → Memᴰ x (placed_of c l)
unfolding placed_of
placed_there None l w = ⊎_elim (λ (clock, e). absurd (subst IsClock e clock)) (λ m. m) w
placed_there (Some a) l w = inserted_there (Some a) l (⊎_elim (λ (_, e). inl e) inr w)

-- in order, where the others have numbers of their own
pub with_ordered : (n : ℕ) (c : Option Candidate) (l : List (Option Candidate)) → n < numbers → Under n c → Ordered l → ((x : Option Candidate) → Memᴰ x l → IsClock x × (number_of x < numbers))
    → Ordered (with_candidate n c l)
unfolding placed_of
with_ordered n None l small u o each = without_ordered n l o
with_ordered n (Some a) l small u o each = inserted_ordered (Some a) (without_number n l) (without_ordered n l o) other
  where
    other : (x : Option Candidate) → Memᴰ x (without_number n l) → rank_in (Some a) ≡ rank_in x → ⊥
    other None r e = (each None (without_members n l r).0).0
    other (Some b) r e =
        let (there, apart) = without_members n l r in
        apart (sym (same_number a b (omega (arith, u, small)) (each (Some b) there).1 e) ∙ u)

-- what is ranked of candidates that stand under their numbers
ranked_each : (l : List (Option Candidate)) → Numbered 0 l → length l ≤ numbers → (x : Option Candidate) → Memᴰ x (ranking_of l) → IsClock x × (number_of x < numbers)
ranked_each l f room None m = absurd (ranked_member l m).1
ranked_each l f room (Some a) m = (tt, omega (arith, (numbered_small 0 l f (ranked_member l m).0).1, room))

-- two lists of them that differ under one number alone
module _ (l k : List (Option Candidate)) (fl : Numbered 0 l) (fk : Numbered 0 k) (rl : length l ≤ numbers) (rk : length k ≤ numbers)
    (n : ℕ) (small : n < numbers) (same : (i : ℕ) → (i ≡ n → ⊥) → ranked_at k i ≡ ranked_at l i) where
  -- a clock of one under another number is one of the other
  across : (s t : List (Option Candidate)) → Numbered 0 s → ((i : ℕ) → (i ≡ n → ⊥) → ranked_at s i ≡ ranked_at t i) → (x : Option Candidate) → Memᴰ x (ranking_of s)
      → (number_of x ≡ n → ⊥) → Memᴰ x (ranking_of t)
  across s t fs alike None m other = absurd (ranked_member s m).1
  across s t fs alike (Some a) m other =
      let (i, number, within, at) = numbered_at 0 s fs (ranked_member s m).0 in
      member_ranked t (at_member t i tt (sym (alike i (λ z. other (omega (arith, number, z)))) ∙ at)) tt

  -- under this number it is what stands there
  under_it : (x : Option Candidate) → Memᴰ x (ranking_of k) → number_of x ≡ n → IsClock x × (x ≡ ranked_at k n)
  under_it None m e = absurd (ranked_member k m).1
  under_it (Some a) m e =
      let (i, number, within, at) = numbered_at 0 k fk (ranked_member k m).0 in
      let place : i ≡ n = omega (arith, number, e) in
      (tt, sym (ap (ranked_at k) (sym place) ∙ at))

  -- ONE CANDIDATE CHANGES: the ranking made afresh is the one before, in which it takes the place of what stood under its number
  pub ranking_changed : ranking_of k ≡ with_candidate n (ranked_at k n) (ranking_of l)
  ranking_changed =
      let c = ranked_at k n in
      ordered_same (ranking_of k) (with_candidate n c (ranking_of l))
      (ranking_ordered 0 k fk (omega (arith, rk)))
      (with_ordered n c (ranking_of l) small (subst (λ (z : ℕ). Under z c) (zero-add n) (numbered_under 0 k fk n)) (ranking_ordered 0 l fl (omega (arith, rl))) (ranked_each l fl rl))
      (λ x m. by_number x m (eqb (number_of x) n) refl)
      (λ x m. ⊎_elim
      (λ (clock, e). member_ranked k (at_member k n clock (sym e)) clock)
      (λ r. let (s, other) = without_members n (ranking_of l) r in across l k fl (λ i z. sym (same i z)) x s other)
      (placed_members c (without_number n (ranking_of l)) m))
    where
      by_number : (x : Option Candidate) → Memᴰ x (ranking_of k) → (t : Bool) → eqb (number_of x) n ≡ t → Memᴰ x (with_candidate n (ranked_at k n) (ranking_of l))
      by_number x m true e = placed_there (ranked_at k n) (without_number n (ranking_of l)) (inl (under_it x m (eqb-true (number_of x) n e)))
      by_number x m false e =
          let other = eqb-false (number_of x) n e in
          placed_there (ranked_at k n) (without_number n (ranking_of l)) (inr (without_there n (ranking_of l) (across k l fk same x m other) other))

-- ---- the runner-up

-- a list with a first one
abbrev Second : List (Option Candidate) → List (Option Candidate) → Type 0
Second l ranked = ranked_at ranked 1 ≡ best_of None (without_number (number_of (ranked_at ranked 0)) l)

module _ (l : List (Option Candidate)) (f : Numbered 0 l) (room : length l ≤ numbers) (fits : AllFit l) where
  second_is : (ranked : List (Option Candidate)) → ranking_of l ≡ ranked → Second l ranked
  unfolding best_of
  second_is [] e =
      best_same [] (without_number 0 l) (λ x m. absurd (Memᴰ.not-nil m)) (λ x m. fits x (without_members 0 l m).0) (λ x m. absurd (Memᴰ.not-nil m))
      (λ x m. ⊎_elim inl (λ r. inr (subst (Memᴰ x) e r)) (none_or_ranked l x (without_members 0 l m).0))
  second_is (c ∷ r) e =
      let n = number_of c in
      let (first, ordered) = subst Ordered e (ranking_ordered 0 l f (omega (arith, room))) in
      let of-ranking : (x : Option Candidate) → Memᴰ x r → Memᴰ x (ranking_of l) = λ x m. subst (Memᴰ x) (sym e) (Memᴰ.tail m) in
      sym (ordered_best r ordered (λ x m. (ranked_member l (of-ranking x m)).1))
      ∙ best_same r (without_number n l) (λ x m. fits x (ranked_member l (of-ranking x m)).0) (λ x m. fits x (without_members n l m).0)
      (λ x m. inr (without_there n l (ranked_member l (of-ranking x m)).0
      (λ q. omega (arith, subst (λ (y : Option Candidate). rank_in c < rank_in y) (numbered_once l f x c (of-ranking x m) (subst (Memᴰ c) (sym e) (Memᴰ.head refl)) q) (first x m)))))
      (λ x m.
      let (there, other) = without_members n l m in
      ⊎_elim inl (λ s. ⊎_elim (λ q. absurd (other (ap number_of q))) inr (Memᴰ.cases_cons (subst (Memᴰ x) e s))) (none_or_ranked l x there))

  -- at place 1 stands the best of all but the best
  pub ranking_second : ranked_at (ranking_of l) 1 ≡ best_of None (without_number (number_of (best_of None l)) l)
  ranking_second = second_is (ranking_of l) refl ∙ ap (λ (c : Option Candidate). best_of None (without_number (number_of c) l)) (ranking_head l f room fits)

-- where nothing stands under the best's number any more, the second is the best
pub second_next : (l k : List (Option Candidate)) → Numbered 0 l → Numbered 0 k → length l ≤ numbers → length k ≤ numbers → (n : ℕ) → n < numbers
    → ((i : ℕ) → (i ≡ n → ⊥) → ranked_at k i ≡ ranked_at l i) → ranked_at k n ≡ None → IsClock (ranked_at (ranking_of l) 0) → number_of (ranked_at (ranking_of l) 0) ≡ n
    → ranked_at (ranking_of k) 0 ≡ ranked_at (ranking_of l) 1
unfolding placed_of
second_next l k fl fk rl rk n small same none clock number =
    ap (λ (r : List (Option Candidate)). ranked_at r 0)
    (ranking_changed l k fl fk rl rk n small same ∙ ap (λ (c : Option Candidate). with_candidate n c (ranking_of l)) none)
    ∙ by (ranking_of l) (ranking_ordered 0 l fl (omega (arith, rl))) (numbered_once l fl) clock number
  where
    by : (r : List (Option Candidate)) → Ordered r → Once r → IsClock (ranked_at r 0) → number_of (ranked_at r 0) ≡ n → ranked_at (without_number n r) 0 ≡ ranked_at r 1
    by [] o once c e = absurd c
    by (x ∷ r) (first, o) once c e = ap (λ (q : List (Option Candidate)). ranked_at q 0) (without_first n x r (first, o) once e)

-- ---- each once

-- at two places stand two ranks
pub ordered_once : (l : List (Option Candidate)) → Ordered l → (i j : ℕ) → i < length l → j < length l → ranked_at l i ≡ ranked_at l j → i ≡ j
ordered_once [] o i j a b e = absurd (omega arith)
ordered_once (c ∷ l) o zero zero a b e = refl
ordered_once (c ∷ l) (first, o) zero (suc j) a b e =
    absurd (omega (arith, subst (λ (x : Option Candidate). rank_in c < rank_in x) (sym e) (first (ranked_at l j) (place_member l j (omega (arith, b))))))
ordered_once (c ∷ l) (first, o) (suc i) zero a b e =
    absurd (omega (arith, subst (λ (x : Option Candidate). rank_in c < rank_in x) e (first (ranked_at l i) (place_member l i (omega (arith, a))))))
ordered_once (c ∷ l) (first, o) (suc i) (suc j) a b e = ap suc (ordered_once l o i j (omega (arith, a)) (omega (arith, b)) e)
