-- The best of a list of candidates is the same in every order and grouping, however often one is compared, and with or without those that are none.
use mathlib.Core.Path.{◌≡◌, refl, sym, ap, ◌∙◌, subst}
use mathlib.Core.List.Memᴰ
use mathlib.Core.List.{List, ◌++◌, map, map-append, Memᴰ}
use mathlib.Core.Logic.{◌⊎◌, inl, inr, ⊎_elim}
use Rattle.std.proofs.Common.{Option, None}
use Rattle.choice.specs.Choose.{better_of, best_of}
use Rattle.choice.specs.Rank.{CandidateFits}
use Rattle.choice.specs.Permutation.{Permutation}
use Rattle.choice.specs.Compare.{Comparison, single, winners, compared_in, outcome_of, ComparesEach}
use Rattle.choice.specs.declared.Candidate.{Candidate}
use Rattle.choice.proofs.MonoidLaws.{Each, same_folded, parts_folded}
use Rattle.choice.proofs.PermutationLaws.{members_there, members_back}
use Rattle.choice.proofs.BetterLaws.{better_monoid}

-- each of a list has its bits
abbrev pub AllFit : List (Option Candidate) → Type 0
AllFit = Each better_monoid

-- ---- order

-- two lists that hold the same clocks
pub best_same : (l k : List (Option Candidate)) → AllFit l → AllFit k
    → ((x : Option Candidate) → Memᴰ x l → (x ≡ None) ⊎ Memᴰ x k)
    → ((x : Option Candidate) → Memᴰ x k → (x ≡ None) ⊎ Memᴰ x l)
    → best_of None l ≡ best_of None k
unfolding best_of
best_same l k fl fk there back = same_folded better_monoid l k fl fk there back

-- every order of a list
pub best_permuted : (l k : List (Option Candidate)) → AllFit l → Permutation l k → best_of None l ≡ best_of None k
best_permuted l k fl p = best_same l k fl (λ x m. fl x (members_back p m)) (λ x m. inr (members_there p m)) (λ x m. inr (members_back p m))

-- ---- grouping

-- the better of the bests of two parts
pub best_parts : (l k : List (Option Candidate)) → AllFit (l ++ k) → better_of (best_of None l) (best_of None k) ≡ best_of None (l ++ k)
unfolding best_of
best_parts l k fits = sym (parts_folded better_monoid l k (λ x m. fits x (Memᴰ.append_left k m)) (λ x m. fits x (Memᴰ.append_right l m)))

module _ {A : Type 0} (candidate : A → Option Candidate) where
  -- the candidate of each of these has its bits
  abbrev pub EachFits : List A → Type 0
  EachFits l = (a : A) → Memᴰ a l → CandidateFits (candidate a)

  all_fit : (l : List A) → EachFits l → AllFit (map candidate l)
  all_fit l fits x m = let (a, n, e) = Memᴰ.of_map candidate l m in subst CandidateFits e (fits a n)

  -- who wins is the best of those that are compared, one after the other
  pub outcome_best : (way : Comparison A) → EachFits (compared_in way) → outcome_of candidate way ≡ best_of None (map candidate (compared_in way))
  unfolding outcome_of compared_in best_of better_of
  outcome_best (single a) fits = refl
  outcome_best (winners x y) fits =
      let left : EachFits (compared_in x) = λ a m. fits a (Memᴰ.append_left (compared_in y) m) in
      let right : EachFits (compared_in y) = λ a m. fits a (Memᴰ.append_right (compared_in x) m) in
      let whole = map-append candidate (compared_in x) (compared_in y) in
      (λ i. better_of (outcome_best x left i) (outcome_best y right i))
      ∙ best_parts (map candidate (compared_in x)) (map candidate (compared_in y)) (subst AllFit whole (all_fit (compared_in x ++ compared_in y) fits))
      ∙ ap (best_of None) (sym whole)

  -- ---- both

  module _ (all : List A) (way : Comparison A) (fits : EachFits all) (each : ComparesEach candidate all way) where
    -- what is compared is of the list
    from_all : {a : A} → Memᴰ a (compared_in way) → Memᴰ a all
    from_all m = members_back each.once (Memᴰ.append_left each.left_out m)

    compared_fits : EachFits (compared_in way)
    compared_fits a m = fits a (from_all m)

    -- each candidate of one is none, or one of the other
    compared_all : (x : Option Candidate) → Memᴰ x (map candidate (compared_in way)) → (x ≡ None) ⊎ Memᴰ x (map candidate all)
    compared_all x m = let (a, n, e) = Memᴰ.of_map candidate (compared_in way) m in inr (Memᴰ.cast (sym e) (Memᴰ.map candidate (from_all n)))

    all_compared : (x : Option Candidate) → Memᴰ x (map candidate all) → (x ≡ None) ⊎ Memᴰ x (map candidate (compared_in way))
    all_compared x m =
        let (a, n, e) = Memᴰ.of_map candidate all m in
        ⊎_elim
        (λ c. inr (Memᴰ.cast (sym e) (Memᴰ.map candidate c)))
        (λ o. inl (sym e ∙ each.none a o))
        (Memᴰ.append_cases (compared_in way) (members_there each.once n))

    -- every way to compare each of a list once comes to the best of the list
    pub any_way : outcome_of candidate way ≡ best_of None (map candidate all)
    any_way =
        outcome_best way compared_fits
        ∙ best_same (map candidate (compared_in way)) (map candidate all) (all_fit (compared_in way) compared_fits) (all_fit all fits) compared_all all_compared
