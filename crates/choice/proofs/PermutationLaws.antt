-- A list in another order is what the kit's library calls a permutation, with the same behind both it is one, and it holds the same.
use mathlib.Core.Path.{sym, subst}
use mathlib.Core.List.Memᴰ
use mathlib.Core.List.{List, [], ◌∷◌, ◌++◌, append_assoc, Memᴰ}
use mathlib.Core.List.{Perm, perm_middle, append_of_mem, mem-cons_self}
use mathlib.Core.Logic.{⊎_elim, ∥∥₁_elim, ∥∥₁_map, ∥∥₁_prop}
use Rattle.choice.specs.Permutation.{Permutation, empty, placed}

module _ {A : Type 0} where
  -- ---- the library's permutations, no more and no fewer

  pub permutation_perm : {l k : List A} → Permutation l k → Perm l k
  permutation_perm empty = mathlib.Core.List.Perm.nil
  permutation_perm (placed a l before after p) = mathlib.Core.List.Perm.trans (mathlib.Core.List.Perm.cons a (permutation_perm p)) (mathlib.Core.List.Perm.symm (perm_middle before after))

  pub perm_permutation : (l k : List A) → Perm l k → ∥ Permutation l k ∥₁
  perm_permutation [] k p = ∣ subst (Permutation []) (mathlib.Core.List.Perm.nil-eq p) empty ∣₁
  perm_permutation (a ∷ l) k p =
      ∥∥₁_elim (append_of_mem (mathlib.Core.List.Perm.subset p a mem-cons_self)) ∥∥₁_prop
      (λ (before, after, e).
      let around : Perm l (before ++ after) = mathlib.Core.List.Perm.cons_inv (mathlib.Core.List.Perm.trans (subst (Perm (a ∷ l)) e p) (perm_middle before after)) in
      ∥∥₁_map (perm_permutation l (before ++ after) around) (λ q. subst (Permutation (a ∷ l)) (sym e) (placed a l before after q)))

  -- ---- with the same behind both

  pub permutation_append : {l k : List A} (t : List A) → Permutation l k → Permutation (l ++ t) (k ++ t)
  permutation_append [] empty = empty
  permutation_append (x ∷ t) empty = placed x t [] t (permutation_append t empty)
  permutation_append t (placed a l before after p) =
      subst (Permutation (a ∷ (l ++ t))) (sym (append_assoc before (a ∷ after) t))
      (placed a (l ++ t) before (after ++ t) (subst (Permutation (l ++ t)) (append_assoc before after t) (permutation_append t p)))

  -- ---- the same members

  -- what stands around a place, and what stands at it
  around_placed : {x : A} (a : A) (before after : List A) → Memᴰ x (before ++ after) → Memᴰ x (before ++ (a ∷ after))
  around_placed a before after m =
      ⊎_elim (Memᴰ.append_left (a ∷ after)) (λ n. Memᴰ.append_right before (Memᴰ.tail n)) (Memᴰ.append_cases before m)

  pub members_there : {l k : List A} {x : A} → Permutation l k → Memᴰ x l → Memᴰ x k
  members_there empty m = m
  members_there (placed a l before after p) m =
      ⊎_elim (λ e. Memᴰ.append_right before (Memᴰ.head e)) (λ n. around_placed a before after (members_there p n)) (Memᴰ.cases_cons m)

  pub members_back : {l k : List A} {x : A} → Permutation l k → Memᴰ x k → Memᴰ x l
  members_back empty m = m
  members_back (placed a l before after p) m =
      ⊎_elim
      (λ n. Memᴰ.tail (members_back p (Memᴰ.append_left after n)))
      (λ n. ⊎_elim Memᴰ.head (λ r. Memᴰ.tail (members_back p (Memᴰ.append_right before r))) (Memᴰ.cases_cons n))
      (Memᴰ.append_cases before m)
