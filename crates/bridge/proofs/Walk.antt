-- A loop that changes a list element by element, from the front: the elements below i are changed, and in the end all are.
use mathlib.Core.Path.{◌≡◌, refl, sym, ap, ◌∙◌, subst}
use mathlib.Core.List.{List, [], ◌∷◌}
use Prim.Native.Nat.{ℕ, zero, suc, ◌+◌, ◌-◌, ◌<◌, ◌≤◌}
use native.Mathlib.Nat.{add-zero, zero-add, add-suc, suc-add, le_antisymm}
use native.Mathlib.Numerals.{add-one}
use native.Mathlib.Omega.{arith}
use lib.ListN.{length, get_or, set}
use lib.Seq.{set-get_or}
use Rattle.bridge.specs.Table.{each}

module _ {A : Type 0} (f : ℕ → A → A) where
  -- the first i elements only
  unfoldable pub up_to : ℕ → ℕ → List A → List A
  up_to k zero l = l
  up_to k (suc i) [] = []
  up_to k (suc i) (a ∷ l) = f k a ∷ up_to (suc k) i l

  up_to_get : (k i : ℕ) (l : List A) (d : A) → get_or (up_to k i l) i d ≡ get_or l i d
  unfolding up_to
  up_to_get k zero l d = refl
  up_to_get k (suc i) [] d = refl
  up_to_get k (suc i) (a ∷ l) d = up_to_get (suc k) i l d

  up_to_set : (k i j : ℕ) (l : List A) (d : A) → k + i ≡ j → set (up_to k i l) i (f j (get_or l i d)) ≡ up_to k (suc i) l
  unfolding up_to
  up_to_set k zero j [] d e = refl
  up_to_set k (suc i) j [] d e = refl
  up_to_set k zero j (a ∷ l) d e = ap (λ (n : ℕ). f n a ∷ l) (sym e ∙ add-zero k)
  up_to_set k (suc i) j (a ∷ l) d e = ap (λ (r : List A). f k a ∷ r) (up_to_set (suc k) i j l d (suc-add k i ∙ sym (add-suc k i) ∙ e))

  up_to_all : (k n : ℕ) (l : List A) → length l ≡ n → up_to k n l ≡ each f k l
  unfolding up_to each
  up_to_all k n [] e = ap (λ (m : ℕ). up_to k m []) (sym e)
  up_to_all k n (a ∷ l) e = ap (λ (m : ℕ). up_to k m (a ∷ l)) (sym e) ∙ ap (λ (r : List A). f k a ∷ r) (up_to_all (suc k) (length l) l refl)

  -- where a loop over a list of n elements stands at i
  pub record Walked (n : ℕ) (l : List A) (i : ℕ) (now : List A) : Type 0 where
    pub count : length l ≡ n
    pub within : i ≤ n
    pub is : now ≡ up_to 0 i l

  pub walked_start : (n : ℕ) (l : List A) → length l ≡ n → Walked n l 0 l
  unfolding up_to
  walked_start n l e = record { count = e; within = omega arith; is = refl }

  pub walked_more : (n : ℕ) (l : List A) (i : ℕ) (now : List A) (d q : A) → Walked n l i now → i < n → q ≡ f i (get_or now i d) → Walked n l (i + 1) (set now i q)
  walked_more n l i now d q w h e = record {
    count = w.count;
    within = omega arith;
    is =
        ap (λ (r : List A). set r i q) w.is
        ∙ ap (λ (a : A). set (up_to 0 i l) i a) (e ∙ ap (λ (r : List A). f i (get_or r i d)) w.is ∙ ap (f i) (up_to_get 0 i l d))
        ∙ up_to_set 0 i i l d (zero-add i)
        ∙ ap (λ (n : ℕ). up_to 0 n l) (sym (add-one i));
  }

  walked_end : (n : ℕ) (l : List A) (i : ℕ) (now : List A) → Walked n l i now → n ≤ i → now ≡ each f 0 l
  walked_end n l i now w h = w.is ∙ ap (λ (m : ℕ). up_to 0 m l) (le_antisymm w.within h) ∙ up_to_all 0 n l w.count

  -- an element that is to stay as it is need not be stored
  pub walked_same : (n : ℕ) (l : List A) (i : ℕ) (now : List A) (d : A) → Walked n l i now → i < n → get_or now i d ≡ f i (get_or now i d) → Walked n l (i + 1) now
  walked_same n l i now d w h e = subst (Walked n l (i + 1)) (set-get_or now i d) (walked_more n l i now d (get_or now i d) w h e)

  -- nor need the loop go on where every element from i on is to stay as it is
  pub walked_first : (n : ℕ) (l : List A) (i : ℕ) (now : List A) (d : A) → Walked n l i now → ((k : ℕ) → i ≤ k → k < n → get_or now k d ≡ f k (get_or now k d)) → now ≡ each f 0 l
  walked_first n l i now d w h = go (n - i) i (omega (arith, w.within)) w h
    where
      go : (m i : ℕ) → i + m ≡ n → Walked n l i now → ((k : ℕ) → i ≤ k → k < n → get_or now k d ≡ f k (get_or now k d)) → now ≡ each f 0 l
      go zero i e w h = walked_end n l i now w (omega arith)
      go (suc m) i e w h = go m (i + 1) (omega arith) (walked_same n l i now d w (omega arith) (h i (omega arith) (omega arith))) (λ k a b. h k (omega arith) b)

  pub each_length : (k : ℕ) (l : List A) → length (each f k l) ≡ length l
  unfolding each
  each_length k [] = refl
  each_length k (a ∷ l) = ap suc (each_length (suc k) l)

  -- the element at i is that of the list, changed
  pub each_at : (k i : ℕ) (l : List A) (d : A) → i < length l → get_or (each f k l) i d ≡ f (k + i) (get_or l i d)
  unfolding each
  each_at k i [] d h = absurd (omega arith)
  each_at k zero (a ∷ l) d h = ap (λ (n : ℕ). f n a) (sym (add-zero k))
  each_at k (suc i) (a ∷ l) d h = each_at (suc k) i l d (omega arith) ∙ ap (λ (n : ℕ). f n (get_or l i d)) (suc-add k i ∙ sym (add-suc k i))

  -- what holds of each element, and of what f makes of one of which it holds, holds of each element afterwards
  pub each_all : (P : A → Type 0) (d : A) → P d → ((k : ℕ) (a : A) → P a → P (f k a)) → (k : ℕ) (l : List A) → ((i : ℕ) → P (get_or l i d))
      → (i : ℕ) → P (get_or (each f k l) i d)
  unfolding each
  each_all P d pd g k [] h i = pd
  each_all P d pd g k (a ∷ l) h zero = g k a (h 0)
  each_all P d pd g k (a ∷ l) h (suc i) = each_all P d pd g (suc k) l (λ j. h (suc j)) i

-- the same where one element is replaced
pub set_all : {A : Type 0} (P : A → Type 0) (d : A) → P d → (l : List A) (n : ℕ) (a : A) → P a → ((i : ℕ) → P (get_or l i d))
    → (i : ℕ) → P (get_or (set l n a) i d)
set_all P d pd [] n a pa h i = pd
set_all P d pd (b ∷ l) zero a pa h zero = pa
set_all P d pd (b ∷ l) zero a pa h (suc i) = h (suc i)
set_all P d pd (b ∷ l) (suc n) a pa h zero = h 0
set_all P d pd (b ∷ l) (suc n) a pa h (suc i) = set_all P d pd l n a pa (λ j. h (suc j)) i
