-- Laws of a ranking that is kept: the rank at a place names the candidate there; a clock is found by its number; and what is taken out and put in at the places is taken out of and put into the ranking.
use mathlib.Core.Path.{◌≡◌, refl, sym, ap, ◌∙◌, subst}
use mathlib.Core.Bool.{Bool, true, false, cond}
use mathlib.Core.List.Memᴰ
use mathlib.Core.List.{List, [], ◌∷◌, ◌++◌, Memᴰ}
use mathlib.Core.Logic.{inl, inr, ⊎_elim}
use Prim.Native.Nat.{ℕ, zero, suc, ◌+◌, ◌<◌, ◌≤◌}
use native.Mathlib.Nat.{le_of_lt, le_refl}
use native.Mathlib.Omega.{arith}
use borrow.Author.Tests.{ltb-true, ltb-false, eqb-true, eqb-false, ne_eqb, le-ltb, lt-ltb}
use lib.Dec.{ltb, eqb}
use lib.ListN.{length, take, drop, set, replicate, get_or-eq_default}
use Rattle.std.proofs.Common.{Option, Some, None}
use Rattle.choice.specs.Choose.{rank_of, number_of}
use Rattle.choice.specs.Rank.{last_number, in_numbers, CandidateFits, Ranks, worth_of, candidate_at}
use Rattle.choice.specs.Least.{rank_in, port_in}
use Rattle.choice.specs.Ranking.{is_better, inserted_of, placed_of, ranked_at, Ordered, IsClock, without_number, with_candidate}
use Rattle.choice.specs.Places.{places, no_number, places_of, Whole, Keeps, Kept, rank_at, candidate_in, place_in, closed_at_of, inserted_in}
use Rattle.choice.specs.declared.Candidate.{Candidate}
use Rattle.choice.specs.declared.Rank.{Rank}
use Rattle.numbers.proofs.Branches.{if_true, if_false, if_when, if_both}
use Rattle.choice.proofs.RankLaws.{same_order, clock_below, candidate_named, rank_candidate}
use Rattle.choice.proofs.RankingLaws.{Once, Under, numbers, none_behind, ordered_same, without_members, without_there, without_ordered, placed_members, placed_there, with_ordered}

-- each of a list has its bits
abbrev Fit : List (Option Candidate) → Type 0
Fit l = (x : Option Candidate) → Memᴰ x l → CandidateFits x

-- and is a clock
abbrev Clocks : List (Option Candidate) → Type 0
Clocks l = (x : Option Candidate) → Memᴰ x l → IsClock x

-- ---- the ranks at the places

pub places_length : (k : ℕ) (l : List (Option Candidate)) → length (places_of k l) ≡ k
unfolding places_of
places_length zero l = refl
places_length (suc k) [] = ap suc (places_length k [])
places_length (suc k) (c ∷ l) = ap suc (places_length k l)

-- the rank at a place is that of the candidate at it
pub place_rank : (k : ℕ) (l : List (Option Candidate)) (i : ℕ) → i < k → rank_at (places_of k l) i ≡ in_numbers (ranked_at l i)
unfolding places_of
place_rank zero l i h = absurd (omega arith)
place_rank (suc k) [] zero h = refl
place_rank (suc k) [] (suc i) h = place_rank k [] i (omega arith)
place_rank (suc k) (c ∷ l) zero h = refl
place_rank (suc k) (c ∷ l) (suc i) h = place_rank k l i (omega arith)

-- ---- put in

-- of two clocks the ranks in numbers are compared as the ranks are
clocks_compared : (c x : Option Candidate) → IsClock c → IsClock x → ltb (worth_of (in_numbers c)) (worth_of (in_numbers x)) ≡ ltb (rank_in c) (rank_in x)
unfolding in_numbers
clocks_compared None x ic ix = absurd ic
clocks_compared (Some a) None ic ix = absurd ix
clocks_compared (Some a) (Some b) ic ix = same_order (rank_in (Some a)) (rank_in (Some b))

-- before a clock no rank of none is put in, and behind it all are such
worth_most : (c : Option Candidate) → CandidateFits c → worth_of (in_numbers c) ≤ worth_of (in_numbers None)
worth_most None f = le_refl _
worth_most (Some a) f = le_of_lt (clock_below a f)

-- no candidate put in leaves the places as they are
pub none_inserted : (k : ℕ) (l : List (Option Candidate)) → Fit l → inserted_in (in_numbers None) (places_of k l) ≡ places_of k l
unfolding places_of inserted_in
none_inserted zero l fit = refl
none_inserted (suc k) [] fit =
    sym (if_false _ _ _ (le-ltb _ _ (le_refl (worth_of (in_numbers None))))) ∙ (λ i. in_numbers None ∷ none_inserted k [] fit i)
none_inserted (suc k) (c ∷ l) fit =
    sym (if_false _ _ _ (le-ltb _ _ (worth_most c (fit c (Memᴰ.head refl)))))
    ∙ (λ i. in_numbers c ∷ none_inserted k l (λ x m. fit x (Memᴰ.tail m)) i)

-- a clock put in where none stands
alone_inserted : (k : ℕ) (c : Option Candidate) → IsClock c → CandidateFits c → inserted_in (in_numbers c) (places_of (suc k) []) ≡ places_of (suc k) (c ∷ [])
unfolding places_of inserted_in
alone_inserted k None ic f = absurd ic
alone_inserted k (Some a) ic f =
    sym (if_true _ _ _ (lt-ltb _ _ (clock_below a f)))
    ∙ (λ i. in_numbers (Some a) ∷ none_inserted k [] (λ x m. absurd (Memᴰ.not-nil m)) i)

-- one that is better than all moves each one place on
first_inserted : (k : ℕ) (c : Option Candidate) (l : List (Option Candidate)) → IsClock c → CandidateFits c → Ordered (c ∷ l) → Clocks l → Fit l
    → inserted_in (in_numbers c) (places_of k l) ≡ places_of k (c ∷ l)
unfolding places_of inserted_in
first_inserted zero c l ic f o clocks fit = refl
first_inserted (suc k) c [] ic f o clocks fit = alone_inserted k c ic f
first_inserted (suc k) c (x ∷ l) ic f (first, o) clocks fit =
    let here = Memᴰ.head refl in
    sym (if_true _ _ _ (clocks_compared c x ic (clocks x here) ∙ lt-ltb _ _ (first x here)))
    ∙ (λ i. in_numbers c ∷ first_inserted k x l (clocks x here) (fit x here) o (λ y m. clocks y (Memᴰ.tail m)) (λ y m. fit y (Memᴰ.tail m)) i)

-- a clock put in at its place
pub clock_inserted : (k : ℕ) (c : Option Candidate) (l : List (Option Candidate)) → IsClock c → CandidateFits c → Ordered l → Clocks l → Fit l
    → inserted_in (in_numbers c) (places_of k l) ≡ places_of k (inserted_of c l)
unfolding places_of inserted_in inserted_of
clock_inserted zero c l ic f o clocks fit = refl
clock_inserted (suc k) c [] ic f o clocks fit = alone_inserted k c ic f
clock_inserted (suc k) c (x ∷ l) ic f (first, o) clocks fit =
    let here = Memᴰ.head refl in
    let clocks-behind : Clocks l = λ y m. clocks y (Memᴰ.tail m) in
    let fit-behind : Fit l = λ y m. fit y (Memᴰ.tail m) in
    rw (clocks_compared c x ic (clocks x here))
    (if_both (λ (s : List Rank) (ranked : List (Option Candidate)). s ≡ places_of (suc k) ranked) (is_better c x)
    (λ _. λ i. in_numbers c ∷ first_inserted k x l (clocks x here) (fit x here) (first, o) clocks-behind fit-behind i)
    (λ _. λ i. in_numbers x ∷ clock_inserted k c l ic f o clocks-behind fit-behind i))

-- so is every candidate
pub placed_inserted : (k : ℕ) (c : Option Candidate) (l : List (Option Candidate)) → CandidateFits c → Ordered l → Clocks l → Fit l → inserted_in (in_numbers c) (places_of k l) ≡ places_of k (placed_of c l)
unfolding placed_of
placed_inserted k None l f o clocks fit = none_inserted k l fit
placed_inserted k (Some a) l f o clocks fit = clock_inserted k (Some a) l tt f o clocks fit

-- one alone: its rank at the first place, and that of none at all others
pub alone_placed : {r : Rank} {c : Option Candidate} → Ranks r c → set (replicate places (in_numbers None)) 0 r ≡ places_of places (placed_of c [])
unfolding places_of placed_of inserted_of
alone_placed {r} {c} x = (λ i. set (replicate places (in_numbers None)) 0 (x.is i)) ∙ by c
  where
    by : (c : Option Candidate) → set (replicate places (in_numbers None)) 0 (in_numbers c) ≡ places_of places (placed_of c [])
    by None = refl
    by (Some a) = refl

-- ---- found by its number

-- the last byte of a rank is the clock's number
number_shown : (c : Option Candidate) → IsClock c → CandidateFits c → port_in (in_numbers c).1 ≡ number_of c
unfolding in_numbers rank_of
number_shown None ic f = absurd ic
number_shown (Some a) ic (pf, hf, nf) = omega arith

-- where none has the number, there is no such place
nowhere : (n k : ℕ) → n < no_number → place_in n (places_of k []) ≡ k
unfolding places_of place_in in_numbers
nowhere n zero small = refl
nowhere n (suc k) small = sym (if_false (eqb (port_in last_number) n) _ _ (ne_eqb (port_in last_number) n (λ e. omega (arith, e, small)))) ∙ ap suc (nowhere n k small)

-- ---- taken out

-- the places of no more than there is room for, with a free one behind
free_behind : (k : ℕ) (l : List (Option Candidate)) → length l ≤ k → places_of k l ++ (in_numbers None ∷ []) ≡ places_of (suc k) l
unfolding places_of
free_behind zero [] h = refl
free_behind zero (c ∷ l) h = absurd (omega arith)
free_behind (suc k) [] h = λ i. in_numbers None ∷ free_behind k [] (omega arith) i
free_behind (suc k) (c ∷ l) h = λ i. in_numbers c ∷ free_behind k l (omega (arith, h)) i

-- a later place closed
later_closed : (r : Rank) (s : List Rank) (i : ℕ) → closed_at_of (suc i) (r ∷ s) ≡ r ∷ closed_at_of i s
unfolding closed_at_of
later_closed r s i =
    let behind : suc i + 1 ≡ suc (i + 1) = omega arith in
    λ j. r ∷ (take i s ++ (drop (behind j) (r ∷ s) ++ (in_numbers None ∷ [])))

module _ (n : ℕ) (small : n < no_number) where
  -- the place of a number among the clocks of a list: that of the first, or a later one
  place_cons : (c : Option Candidate) (s : List Rank) → IsClock c → CandidateFits c → place_in n (in_numbers c ∷ s) ≡ cond (eqb (number_of c) n) 0 (suc (place_in n s))
  unfolding place_in
  place_cons c s ic f = ap (λ (m : ℕ). cond (eqb m n) 0 (suc (place_in n s))) (number_shown c ic f)

  -- of the rest as of all
  once_behind : {c : Option Candidate} {l : List (Option Candidate)} → Once (c ∷ l) → Once l
  once_behind once x y m k = once x y (Memᴰ.tail m) (Memᴰ.tail k)

  -- the place of a number closed: the list without it
  pub closed_without : (k : ℕ) (l : List (Option Candidate)) → length l ≤ k → Ordered l → Once l → Clocks l → Fit l → place_in n (places_of k l) < k
      → closed_at_of (place_in n (places_of k l)) (places_of k l) ≡ places_of k (without_number n l)
  unfolding places_of without_number closed_at_of
  closed_without zero l room o once clocks fit h = absurd (omega arith)
  closed_without (suc k) [] room o once clocks fit h = absurd (omega (arith, h, nowhere n (suc k) small))
  closed_without (suc k) (c ∷ l) room (first, o) once clocks fit h =
      let here = Memᴰ.head refl in
      let s = places_of k l in
      let whole = in_numbers c ∷ s in
      let place = place_cons c s (clocks c here) (fit c here) in
      ap (λ (i : ℕ). closed_at_of i whole) place
      ∙ if_both (λ (i : ℕ) (ranked : List (Option Candidate)). i < suc k → closed_at_of i whole ≡ places_of (suc k) ranked) (eqb (number_of c) n)
      (λ e _. free_behind k l (omega (arith, room)) ∙ ap (places_of (suc k)) (sym (none_behind n c l (first, o) once (eqb-true _ _ e))))
      (λ _ later. later_closed (in_numbers c) s (place_in n s)
      ∙ (λ i. in_numbers c
      ∷ closed_without k l (omega (arith, room)) o (once_behind once) (λ x m. clocks x (Memᴰ.tail m)) (λ x m. fit x (Memᴰ.tail m)) (omega (arith, later)) i))
      (subst (λ (i : ℕ). i < suc k) place h)

  -- where the number has no place, the list is without it
  pub nowhere_without : (k : ℕ) (l : List (Option Candidate)) → length l ≤ k → Clocks l → Fit l → k ≤ place_in n (places_of k l) → without_number n l ≡ l
  unfolding places_of without_number
  nowhere_without k [] room clocks fit h = refl
  nowhere_without zero (c ∷ l) room clocks fit h = absurd (omega arith)
  nowhere_without (suc k) (c ∷ l) room clocks fit h =
      let here = Memᴰ.head refl in
      if_both (λ (i : ℕ) (ranked : List (Option Candidate)). suc k ≤ i → ranked ≡ c ∷ l) (eqb (number_of c) n)
      (λ _ none. absurd (omega (arith, none)))
      (λ _ later. λ i. c ∷ nowhere_without k l (omega (arith, room)) (λ x m. clocks x (Memᴰ.tail m)) (λ x m. fit x (Memᴰ.tail m)) (omega (arith, later)) i)
      (subst (λ (i : ℕ). suc k ≤ i) (place_cons c (places_of k l) (clocks c here) (fit c here)) h)

  -- where it has one, the clock with the number stands there
  found_there : (k : ℕ) (l : List (Option Candidate)) → Clocks l → Fit l → place_in n (places_of k l) < k
      → let i = place_in n (places_of k l) in Memᴰ (ranked_at l i) l × (number_of (ranked_at l i) ≡ n)
  unfolding places_of
  found_there zero l clocks fit h = absurd (omega arith)
  found_there (suc k) [] clocks fit h = absurd (omega (arith, h, nowhere n (suc k) small))
  found_there (suc k) (c ∷ l) clocks fit h =
      let here = Memᴰ.head refl in
      let place = place_cons c (places_of k l) (clocks c here) (fit c here) in
      subst (λ (i : ℕ). Memᴰ (ranked_at (c ∷ l) i) (c ∷ l) × (number_of (ranked_at (c ∷ l) i) ≡ n)) (sym place)
      (if_when (λ (i : ℕ). i < suc k → Memᴰ (ranked_at (c ∷ l) i) (c ∷ l) × (number_of (ranked_at (c ∷ l) i) ≡ n)) (eqb (number_of c) n)
      (λ e _. (here, eqb-true _ _ e))
      (λ _ later.
      let (m, e) = found_there k l (λ x m. clocks x (Memᴰ.tail m)) (λ x m. fit x (Memᴰ.tail m)) (omega (arith, later)) in
      (Memᴰ.tail m, e))
      (subst (λ (i : ℕ). i < suc k) place h))

-- ---- a ranking that is kept

-- what stands at a place has its bits
ranked_fits : (l : List (Option Candidate)) → Fit l → (i : ℕ) → CandidateFits (ranked_at l i)
ranked_fits [] fit i = tt
ranked_fits (c ∷ l) fit zero = fit c (Memᴰ.head refl)
ranked_fits (c ∷ l) fit (suc i) = ranked_fits l (λ x m. fit x (Memᴰ.tail m)) i

pub kept_whole : {s : List Rank} → Kept s → Whole s
kept_whole {s} (l, k) = ap length k.is ∙ places_length places l

-- the rank at a place is that of the candidate there
pub kept_rank : {s : List Rank} {l : List (Option Candidate)} → Keeps s l → (i : ℕ) → i < places → Ranks (rank_at s i) (ranked_at l i)
kept_rank {s} {l} k i h = record { is = ap (λ (x : List Rank). rank_at x i) k.is ∙ place_rank places l i h; fits = ranked_fits l k.fits i }

-- so what is read at a place is the candidate there
pub kept_candidate : {s : List Rank} {l : List (Option Candidate)} → Keeps s l → (i : ℕ) → candidate_in s i ≡ ranked_at l i
unfolding candidate_in
kept_candidate {s} {l} k i =
    if_when (λ (c : Option Candidate). c ≡ ranked_at l i) (ltb i places)
    (λ e. rank_candidate (kept_rank k i (ltb-true i places e)))
    (λ e. sym (get_or-eq_default l None {n = i} (omega (arith, k.within, ltb-false i places e))))

-- ---- a candidate that takes the place of what stood under its number

module _ (s : List Rank) (l : List (Option Candidate)) (k : Keeps s l) (n : ℕ) (small : n < no_number) (c : Option Candidate) (f : CandidateFits c) where
  -- by the list itself
  same_place : place_in n s ≡ place_in n (places_of places l)
  same_place = ap (place_in n) k.is

  -- the rest
  rest_clocks : Clocks (without_number n l)
  rest_clocks x m = k.clocks x (without_members n l m).0

  rest_fits : Fit (without_number n l)
  rest_fits x m = k.fits x (without_members n l m).0

  -- one with that number stood there
  pub kept_moved : place_in n s < places → inserted_in (in_numbers c) (closed_at_of (place_in n s) s) ≡ places_of places (with_candidate n c l)
  kept_moved h =
      ap (λ (x : List Rank). inserted_in (in_numbers c) (closed_at_of (place_in n x) x)) k.is
      ∙ ap (inserted_in (in_numbers c)) (closed_without n small places l k.within k.ordered k.once k.clocks k.fits (subst (λ (i : ℕ). i < places) same_place h))
      ∙ placed_inserted places c (without_number n l) f (without_ordered n l k.ordered) rest_clocks rest_fits

  -- none did
  pub kept_new : places ≤ place_in n s → inserted_in (in_numbers c) s ≡ places_of places (with_candidate n c l)
  kept_new h =
      let without = nowhere_without n small places l k.within k.clocks k.fits (subst (λ (i : ℕ). places ≤ i) same_place h) in
      ap (inserted_in (in_numbers c)) (k.is ∙ ap (places_of places) (sym without))
      ∙ placed_inserted places c (without_number n l) f (without_ordered n l k.ordered) rest_clocks rest_fits

  -- it is the one that stood there: nothing moves
  pub kept_same : place_in n s < places → rank_at s (place_in n s) ≡ in_numbers c → s ≡ places_of places (with_candidate n c l)
  kept_same h e =
      let i = place_in n (places_of places l) in
      let within : i < places = subst (λ (j : ℕ). j < places) same_place h in
      let (there, number) = found_there n small places l k.clocks k.fits within in
      let rank : in_numbers (ranked_at l i) ≡ in_numbers c = sym (place_rank places l i within) ∙ sym (ap (λ (x : List Rank). rank_at x (place_in n x)) k.is) ∙ e in
      let is : ranked_at l i ≡ c = sym (candidate_named (ranked_at l i) (ranked_fits l k.fits i)) ∙ ap candidate_at rank ∙ candidate_named c f in
      k.is ∙ ap (places_of places) (unchanged (subst (λ (x : Option Candidate). Memᴰ x l) is there) (sym (ap number_of is) ∙ number))
    where
      -- a clock of the list under its own number
      own_number : (x : Option Candidate) → Memᴰ x l → number_of x ≡ n → Under n x
      own_number None m e = tt
      own_number (Some a) m e = e

      numbers_small : (x : Option Candidate) → Memᴰ x l → IsClock x × (number_of x < numbers)
      numbers_small None m = absurd (k.clocks None m)
      numbers_small (Some a) m = (tt, omega (arith, (k.fits (Some a) m).2))

      unchanged : Memᴰ c l → number_of c ≡ n → l ≡ with_candidate n c l
      unchanged m number =
          ordered_same l (with_candidate n c l) k.ordered (with_ordered n c l (omega (arith, small)) (own_number c m number) k.ordered numbers_small)
          (λ x r. by_number x r (eqb (number_of x) n) refl)
          (λ x r. ⊎_elim (λ (_, e). subst (λ (y : Option Candidate). Memᴰ y l) (sym e) m) (λ t. (without_members n l t).0) (placed_members c (without_number n l) r))
        where
          by_number : (x : Option Candidate) → Memᴰ x l → (t : Bool) → eqb (number_of x) n ≡ t → Memᴰ x (with_candidate n c l)
          by_number x r true e = placed_there c (without_number n l) (inl (k.clocks x r, k.once x c r m (eqb-true _ _ e ∙ sym number)))
          by_number x r false e = placed_there c (without_number n l) (inr (without_there n l r (eqb-false _ _ e)))
