-- Laws of the search for a mark: one byte more, a block more, and where it ends.
use Rattle.std.proofs.Common.{◌≡◌, ℕ, zero, suc, ◌+◌, ◌<◌, ◌≤◌, Bool, true, false, cond, eqb, List, [], ◌∷◌, length, get_or, take, drop, refl, ap, ◌∙◌, true≢false, add-one, arith, length-drop, drop_of_length-le, drop-cons, drop-drop, eq-eqb, ne_eqb, ◌++◌, sym, length-append, take_at, drop_at}
use Rattle.hexadecimal.specs.Search.{contains, up_to, found_at}

-- ---- whether there is one

-- one byte more
pub contains_next : (mark : ℕ) (s : List ℕ) (i : ℕ) (met r : Bool) → i < length s → r ≡ cond met true (eqb (get_or s i 0) mark)
    → cond r true (contains mark (drop (i + 1) s)) ≡ cond met true (contains mark (drop i s))
unfolding contains
contains_next mark s i met r h e = rw (add-one i, drop-cons s i 0 h) (ap (λ (b : Bool). cond b true (contains mark (drop (suc i) s))) e ∙ go met)
  where
    go : (f : Bool)
        → cond (cond f true (eqb (get_or s i 0) mark)) true (contains mark (drop (suc i) s)) ≡ cond f true (cond (eqb (get_or s i 0) mark) true (contains mark (drop (suc i) s)))
    go true = refl
    go false = refl

-- and after the last
pub contains_end : (mark : ℕ) (s : List ℕ) (i : ℕ) (met : Bool) → length s ≤ i → met ≡ cond met true (contains mark (drop i s))
unfolding contains
contains_end mark s i met h = rw (drop_of_length-le s h) (go met)
  where
    go : (f : Bool) → f ≡ cond f true false
    go true = refl
    go false = refl

-- ---- the bytes before it

pub up_stop : (mark : ℕ) (s : List ℕ) (i : ℕ) → i < length s → get_or s i 0 ≡ mark → up_to mark (drop i s) ≡ []
unfolding up_to
up_stop mark s i h e = rw (drop-cons s i 0, eq-eqb (get_or s i 0) mark e)

pub up_next : (mark : ℕ) (s : List ℕ) (i : ℕ) → i < length s → (get_or s i 0 ≡ mark → ⊥) → up_to mark (drop i s) ≡ get_or s i 0 ∷ up_to mark (drop (i + 1) s)
unfolding up_to
up_next mark s i h e = rw (add-one, drop-cons s i 0, ne_eqb (get_or s i 0) mark e)

pub up_end : (mark : ℕ) (s : List ℕ) (i : ℕ) → length s ≤ i → up_to mark (drop i s) ≡ []
unfolding up_to
up_end mark s i h = rw (drop_of_length-le s h)

-- they are that many of the first
pub up_taken : (mark : ℕ) (s : List ℕ) → take (length (up_to mark s)) s ≡ up_to mark s
unfolding up_to
up_taken mark [] = refl
up_taken mark (c ∷ s) = go (eqb c mark) (up_taken mark s)
  where
    go : (b : Bool) → take (length (up_to mark s)) s ≡ up_to mark s → take (length (cond b [] (c ∷ up_to mark s))) (c ∷ s) ≡ cond b [] (c ∷ up_to mark s)
    go true e = refl
    go false e = ap (λ (x : List ℕ). c ∷ x) e

up_short : (mark : ℕ) (s : List ℕ) → length (up_to mark s) ≤ length s
unfolding up_to
up_short mark [] = omega arith
up_short mark (c ∷ s) = go (eqb c mark) (up_short mark s)
  where
    go : (b : Bool) → length (up_to mark s) ≤ length s → length (cond b [] (c ∷ up_to mark s)) ≤ length (c ∷ s)
    go true h = omega arith
    go false h = omega arith

-- n bytes without the mark all stand before it
up_past : (mark n : ℕ) (s : List ℕ) → n ≤ length s → contains mark (take n s) ≡ false → length (up_to mark s) ≡ n + length (up_to mark (drop n s))
unfolding contains up_to
up_past mark zero s h e = omega arith
up_past mark (suc n) [] h e = absurd (omega arith)
up_past mark (suc n) (c ∷ s) h e = go (up_past mark n s (omega arith)) (eqb c mark) e
  where
    go : (contains mark (take n s) ≡ false → length (up_to mark s) ≡ n + length (up_to mark (drop n s)))
        → (b : Bool) → cond b true (contains mark (take n s)) ≡ false → length (cond b [] (c ∷ up_to mark s)) ≡ suc n + length (up_to mark (drop n s))
    go rest true k = absurd (true≢false k)
    go rest false k = omega (arith, rest k)

-- ---- where it stands

pub found_next : (mark : ℕ) (s : List ℕ) (i : ℕ) → i < length s → (get_or s i 0 ≡ mark → ⊥) → found_at mark s (i + 1) ≡ found_at mark s i
found_next mark s i h e = rw (up_next mark s i h e) (omega arith)

pub found_past : (mark n : ℕ) (s : List ℕ) (i : ℕ) → i + n ≤ length s → contains mark (take n (drop i s)) ≡ false → found_at mark s (i + n) ≡ found_at mark s i
found_past mark n s i h e =
    let k = up_past mark n (drop i s) (rw (length-drop i s) (omega arith)) e in
    omega (arith, ap (λ (x : List ℕ). length (up_to mark x)) (drop-drop n i s), k)

block_within : (s : List ℕ) (i n : ℕ) → 0 < n → n ≤ length (drop i s) → i + n ≤ length s
block_within s i n p h = omega (arith, length-drop i s)

-- past a block without the mark: what is left, and where the first mark stands
pub block_past : (mark n : ℕ) (s : List ℕ) (i : ℕ) (block rest : List ℕ) → drop i s ≡ block ++ rest → length block ≡ n → 0 < n → contains mark block ≡ false
    → (rest ≡ drop (i + n) s) × (found_at mark s (i + n) ≡ found_at mark s i)
block_past mark n s i block rest e l p k =
    let m : length (drop i s) ≡ n + length rest = rw (e, length-append, l) refl in
    let h : i + n ≤ length s = block_within s i n p (omega arith) in (
      sym (drop_at block rest n l) ∙ ap (drop n) (sym e) ∙ drop-drop n i s,
      found_past mark n s i h (rw (e, take_at block rest n l) k),
    )

pub found_within : (mark : ℕ) (s : List ℕ) (from : ℕ) → from ≤ length s → found_at mark s from ≤ length s
found_within mark s from h = omega (arith, up_short mark (drop from s), length-drop from s)
