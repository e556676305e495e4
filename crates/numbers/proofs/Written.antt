-- A loop that writes one list over another, element by element from the front: how far it has come, and that in the end it has written all.
use mathlib.Core.Path.{◌≡◌, sym, ap, ◌∙◌, subst}
use mathlib.Core.List.{List, [], ◌∷◌, ◌++◌, append_assoc, append-nil}
use Prim.Native.Nat.{ℕ, suc, ◌+◌, ◌-◌, ◌<◌, ◌≤◌}
use native.Mathlib.Numerals.{add-one}
use native.Mathlib.Omega.{arith}
use lib.ListN.{length, get_or, take, drop, set, take-append-drop, drop_of_length-le}
use lib.Seq.{length-take-le, take_all, take-suc, drop-cons, set_at, get_or-append-add, get_or-drop, set-get_or}

module _ {A : Type 0} where
  -- the first i are written, the others are as they were
  pub record Written (w l : List A) (i : ℕ) (now : List A) : Type 0 where
    pub room : length w ≡ length l
    pub is : now ≡ take i w ++ drop i l

  pub written_start : (w l : List A) (i : ℕ) → length w ≡ length l → take i w ≡ take i l → Written w l i l
  written_start w l i room e = record { room = room; is = sym (take-append-drop i l) ∙ ap (λ (x : List A). x ++ drop i l) (sym e) }

  module _ (w l : List A) (i : ℕ) (now : List A) (s : Written w l i now) (d : A) where
    -- one more
    pub written_more : (q : A) → i < length l → q ≡ get_or w i d → Written w l (i + 1) (set now i q)
    written_more q h e = record {
      room = s.room;
      is =
          ap (λ (x : List A). set x i q) (s.is ∙ ap (λ (x : List A). take i w ++ x) (drop-cons l i d h))
          ∙ set_at (take i w) (get_or l i d) (drop (suc i) l) q i (length-take-le i w (omega (arith, h, s.room)))
          ∙ ap (λ (x : A). take i w ++ (x ∷ drop (suc i) l)) e
          ∙ sym (append_assoc (take i w) (get_or w i d ∷ []) (drop (suc i) l))
          ∙ ap (λ (x : List A). x ++ drop (suc i) l) (sym (take-suc w i d (omega (arith, h, s.room))))
          ∙ ap (λ (k : ℕ). take k w ++ drop k l) (sym (add-one i));
    }

    -- what is not yet written is as it was
    pub written_later : (j : ℕ) → i ≤ j → i ≤ length l → get_or now j d ≡ get_or l j d
    written_later j h within =
        let front : length (take i w) ≡ i = length-take-le i w (omega (arith, within, s.room)) in
        let at : j ≡ length (take i w) + (j - i) = omega (arith, front, h) in
        let back : i + (j - i) ≡ j = omega (arith, h) in
        ap (λ (x : List A). get_or x j d) s.is
        ∙ ap (λ (k : ℕ). get_or (take i w ++ drop i l) k d) at
        ∙ get_or-append-add (take i w) (drop i l) (j - i) d
        ∙ get_or-drop i l (j - i) d
        ∙ ap (λ (k : ℕ). get_or l k d) back

    -- an element that is to stay as it is need not be written
    pub written_same : i < length l → get_or l i d ≡ get_or w i d → Written w l (i + 1) now
    written_same h e =
        let stays = written_later i (omega arith) (omega (arith, h)) in
        subst (Written w l (i + 1)) (ap (set now i) (sym stays) ∙ set-get_or now i d) (written_more (get_or l i d) h e)

    -- in the end all are
    pub written_all : length l ≤ i → now ≡ w
    written_all h =
        s.is
        ∙ ap (λ (x : List A). take i w ++ x) (drop_of_length-le l h)
        ∙ append-nil (take i w)
        ∙ take_all i w (omega (arith, h, s.room))
