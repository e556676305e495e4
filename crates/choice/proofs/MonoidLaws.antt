-- Laws of a commutative, idempotent monoid: what is folded with its operation depends neither on order nor on grouping nor on repetition, and what is neutral may be left out.
use mathlib.Core.Path.{◌≡◌, refl, sym, ap, ◌∙◌}
use mathlib.Core.List.Memᴰ
use mathlib.Core.List.{List, [], ◌∷◌, ◌++◌, foldl, Memᴰ}
use mathlib.Core.Logic.{◌⊎◌, ⊎_elim}
use Rattle.choice.specs.Monoid.{CommutativeIdempotentMonoid}

module _ {A : Type 0} {In : A → Type 0} {op : A → A → A} {none : A} (laws : CommutativeIdempotentMonoid In op none) where
  -- all of a list
  abbrev pub folded : List A → A
  folded l = foldl op none l

  -- each of a list is in the monoid
  abbrev pub Each : List A → Type 0
  Each l = (x : A) → Memᴰ x l → In x

  each_rest : {a : A} {l : List A} → Each (a ∷ l) → Each l
  each_rest each x m = each x (Memᴰ.tail m)

  each_first : {a : A} {l : List A} → Each (a ∷ l) → In a
  each_first {a} each = each a (Memᴰ.head refl)

  -- ---- the first by itself

  from_in : (a : A) (l : List A) → In a → Each l → In (foldl op a l)
  from_in a [] i each = i
  from_in a (x ∷ l) i each = from_in (op a x) l (laws.op_in a x i (each_first each)) (each_rest each)

  folded_in : (l : List A) → Each l → In (folded l)
  folded_in l each = from_in none l laws.none_in each

  -- a fold that starts from a is a with all of the list
  from_folded : (a : A) (l : List A) → In a → Each l → foldl op a l ≡ op a (folded l)
  from_folded a [] i each = sym (laws.neutral_right a i)
  from_folded a (x ∷ l) i each =
      let j : In x = each_first each in
      let rest : Each l = each_rest each in
      from_folded (op a x) l (laws.op_in a x i j) rest
      ∙ laws.associative a x (folded l) i j (folded_in l rest)
      ∙ ap (op a) (sym (from_folded x l j rest))
      ∙ ap (λ (y : A). op a (foldl op y l)) (sym (laws.neutral_left x j))

  first_folded : (a : A) (l : List A) → Each (a ∷ l) → folded (a ∷ l) ≡ op a (folded l)
  first_folded a l each =
      let i : In a = each_first each in
      ap (λ (y : A). foldl op y l) (laws.neutral_left a i) ∙ from_folded a l i (each_rest each)

  -- ---- repetition: what is in a list already, or neutral, changes nothing

  abbrev pub NeutralOrIn : A → List A → Type 0
  NeutralOrIn x l = (x ≡ none) ⊎ Memᴰ x l

  -- a member at the front or further on
  again_first : (a : A) (l : List A) → In a → Each l → op a (op a (folded l)) ≡ op a (folded l)
  again_first a l i each = sym (laws.associative a a (folded l) i i (folded_in l each)) ∙ ap (λ (y : A). op y (folded l)) (laws.idempotent a i)

  past_first : (x a : A) (l : List A) → In x → In a → Each l → op x (op a (folded l)) ≡ op a (op x (folded l))
  past_first x a l j i each =
      let f : In (folded l) = folded_in l each in
      sym (laws.associative x a (folded l) j i f) ∙ ap (λ (y : A). op y (folded l)) (laws.commutative x a j i) ∙ laws.associative a x (folded l) i j f

  member_again : (x : A) (l : List A) → Each l → Memᴰ x l → op x (folded l) ≡ folded l
  member_again x [] each m = absurd (Memᴰ.not-nil m)
  member_again x (a ∷ l) each m =
      let rest : Each l = each_rest each in
      ap (op x) (first_folded a l each)
      ∙ ⊎_elim
      (λ e. ap (λ (y : A). op y (op a (folded l))) e ∙ again_first a l (each_first each) rest)
      (λ n. past_first x a l (each x m) (each_first each) rest ∙ ap (op a) (member_again x l rest n))
      (Memᴰ.cases_cons m)
      ∙ sym (first_folded a l each)

  once_more : (x : A) (l : List A) → Each l → NeutralOrIn x l → op x (folded l) ≡ folded l
  once_more x l each w =
      ⊎_elim (λ e. ap (λ (y : A). op y (folded l)) e ∙ laws.neutral_left (folded l) (folded_in l each)) (member_again x l each) w

  -- so a list that holds nothing else adds nothing
  adds_nothing : (k l : List A) → Each k → Each l → ((x : A) → Memᴰ x k → NeutralOrIn x l) → op (folded k) (folded l) ≡ folded l
  adds_nothing [] l ek el within = laws.neutral_left (folded l) (folded_in l el)
  adds_nothing (a ∷ k) l ek el within =
      let rest : Each k = each_rest ek in
      ap (λ (y : A). op y (folded l)) (first_folded a k ek)
      ∙ laws.associative a (folded k) (folded l) (each_first ek) (folded_in k rest) (folded_in l el)
      ∙ ap (op a) (adds_nothing k l rest el (λ x m. within x (Memᴰ.tail m)))
      ∙ once_more a l el (within a (Memᴰ.head refl))

  -- two lists that hold the same, in whatever order and however often, and whatever is neutral in one of them, come to the same
  pub same_folded : (k l : List A) → Each k → Each l → ((x : A) → Memᴰ x k → NeutralOrIn x l) → ((x : A) → Memᴰ x l → NeutralOrIn x k) → folded k ≡ folded l
  same_folded k l ek el there back =
      sym (adds_nothing l k el ek back)
      ∙ laws.commutative (folded l) (folded k) (folded_in l el) (folded_in k ek)
      ∙ adds_nothing k l ek el there

  -- ---- grouping: two parts by themselves, and then the two

  pub parts_folded : (l k : List A) → Each l → Each k → folded (l ++ k) ≡ op (folded l) (folded k)
  parts_folded [] k el ek = sym (laws.neutral_left (folded k) (folded_in k ek))
  parts_folded (a ∷ l) k el ek =
      let rest : Each l = each_rest el in
      first_folded a (l ++ k) (each_part a l k el ek)
      ∙ ap (op a) (parts_folded l k rest ek)
      ∙ sym (laws.associative a (folded l) (folded k) (each_first el) (folded_in l rest) (folded_in k ek))
      ∙ ap (λ (y : A). op y (folded k)) (sym (first_folded a l el))
    where
      each_part : (a : A) (l k : List A) → Each (a ∷ l) → Each k → Each ((a ∷ l) ++ k)
      each_part a l k el ek x m = ⊎_elim (el x) (ek x) (Memᴰ.append_cases (a ∷ l) m)
