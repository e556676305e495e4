-- Loops over the places of a ranking: the search for a number, the closing of a place, and the putting in of a rank.
use Rattle.std.proofs.Common.{◌≡◌, refl, sym, ap, ◌∙◌, subst, ℕ, suc, ◌+◌, ◌-◌, ◌<◌, ◌≤◌, arith, Bool, true, false, cond, ltb, eqb, List, [], ◌∷◌, ◌++◌, append_assoc, length, take, drop, get_or, set, Option, Some, None, MatchOption, add-one, drop-cons}
use Rattle.std.proofs.lemmas.List.{get_or_default}
use lib.ListN.{length-append, length-drop, drop_of_length-le}
use lib.Seq.{drop-drop, get_or-drop, length-take-le, set_at}
use borrow.Author.Tests.{ltb-true, ltb-false}
use Rattle.std.specs.List.{position, position_or_len, copy_within}
use Rattle.std.proofs.lemmas.List.Edits.{paste_all}
use Rattle.std.proofs.lemmas.List.Recursion.{is_position_or_len}
use Rattle.choice.specs.Rank.{in_numbers, worth_of}
use Rattle.choice.specs.Least.{port_in}
use Rattle.choice.specs.Places.{places, Whole, rank_at, place_in, closed_at_of, inserted_in}
use Rattle.choice.specs.declared.Rank.{Rank}
use Rattle.numbers.proofs.Branches.{if_when}
use Rattle.numbers.proofs.Written.{Written, written_start, written_more, written_later, written_all}

-- the rank that is read at a place, whatever stands for what lies beyond the last
pub read_rank : (s : List Rank) (place : ℕ) (d : Rank) → place < length s → get_or s place d ≡ rank_at s place
read_rank s place d h = get_or_default s place d (in_numbers None) h

-- ---- the search for a number

module _ (number : ℕ) (s : List Rank) (whole : Whole s) where
  -- a rank ends in it
  abbrev ends : Rank → Bool
  ends r = eqb (port_in r.1) number

  place_position : place_in number s ≡ position_or_len ends s
  unfolding place_in
  place_position = is_position_or_len (place_in number) ends refl (λ r l. ap (λ (n : ℕ). cond (ends r) 0 n) (omega arith)) s

  -- where one does, it stands at the place, and where none does there is no such place
  abbrev Found : Option ℕ → Type 0
  Found o = MatchOption o (places ≤ place_in number s) (λ place. (place ≡ place_in number s) × (place < places))

  found : Found (position ends s)
  found =
      if_when Found (ltb (position_or_len ends s) (length s))
      (λ e. (sym place_position, omega (arith, whole, ltb-true _ _ e)))
      (λ e. omega (arith, whole, place_position, ltb-false _ _ e))

  pub place_found : {place : ℕ} → Some place ≡ position ends s → (place ≡ place_in number s) × (place < places)
  place_found e = subst Found (sym e) found

  pub place_missing : None ≡ position ends s → places ≤ place_in number s
  place_missing e = subst Found (sym e) found

-- ---- a place closed

-- the last place
abbrev pub last_place : ℕ
last_place = 8

module _ (place : ℕ) (s : List Rank) (whole : Whole s) (h : place < places) where
  abbrev behind : List Rank
  behind = drop (place + 1) s

  front_length : length (take place s ++ behind) ≡ last_place
  front_length = omega (arith, length-append (take place s) behind, length-take-le place s (omega (arith, whole, h)), length-drop (place + 1) s, whole, h)

  -- those behind moved one place up, and then the last place
  pub closing : set (copy_within s (place + 1) (length s) place) last_place (in_numbers None) ≡ closed_at_of place s
  unfolding closed_at_of
  closing =
      let count : length s - (place + 1) ≡ length behind = sym (length-drop (place + 1) s) in
      let last : place + (length s - (place + 1)) ≡ last_place = omega (arith, whole, h) in
      ap (λ (l : List Rank). set l last_place (in_numbers None))
      (paste_all s place behind (length s - (place + 1)) count
      ∙ sym (append_assoc (take place s) behind _)
      ∙ ap (λ (k : ℕ). (take place s ++ behind) ++ drop k s) last
      ∙ ap (λ (l : List Rank). (take place s ++ behind) ++ l) (drop-cons s last_place (in_numbers None) (omega (arith, whole))))
      ∙ set_at (take place s ++ behind) (rank_at s last_place) (drop (suc last_place) s) (in_numbers None) last_place front_length
      ∙ ap (λ (l : List Rank). (take place s ++ behind) ++ (in_numbers None ∷ l)) (drop_of_length-le s {i = suc last_place} (omega (arith, whole)))
      ∙ append_assoc (take place s) behind (in_numbers None ∷ [])

-- ---- a rank put in

inserted_length : (s : List Rank) (r : Rank) → length (inserted_in r s) ≡ length s
unfolding inserted_in
inserted_length [] r = refl
inserted_length (x ∷ l) r =
    if_when (λ (k : List Rank). length k ≡ suc (length l)) (ltb (worth_of r) (worth_of x))
    (λ _. ap suc (inserted_length l x))
    (λ _. ap suc (inserted_length l r))

-- a rank, and those from the next place on
from_place : (s : List Rank) (place : ℕ) → place < length s → drop place s ≡ rank_at s place ∷ drop (place + 1) s
from_place s place h = drop-cons s place (in_numbers None) h ∙ ap (λ (k : ℕ). rank_at s place ∷ drop k s) (sym (add-one place))

module _ (rank : Rank) (s : List Rank) where
  abbrev whole_inserted : List Rank
  whole_inserted = inserted_in rank s

  -- where the loop stands: what is left is to put in the one that is moved
  pub record Inserting (place : ℕ) (moved : Rank) (now : List Rank) : Type 0 where
    pub written : Written whole_inserted s place now
    pub rest : drop place whole_inserted ≡ inserted_in moved (drop place s)

  pub inserting_start : Inserting 0 rank s
  inserting_start = record { written = written_start whole_inserted s 0 (inserted_length s rank) refl; rest = refl }

  module _ (place : ℕ) (moved : Rank) (now : List Rank) (c : Inserting place moved now) (h : place < length s) (d : Rank) where
    abbrev held : Rank
    held = get_or now place d

    -- the rank that is held at the place is as it was
    held_there : held ≡ rank_at s place
    held_there = written_later whole_inserted s place now c.written d place (omega arith) (omega (arith, h)) ∙ read_rank s place d h

    -- what is to stand from the place on
    turned : {t : Bool} → ltb (worth_of moved) (worth_of held) ≡ t
        → drop place whole_inserted ≡ cond t (moved ∷ inserted_in held (drop (place + 1) s)) (held ∷ inserted_in moved (drop (place + 1) s))
    unfolding inserted_in
    turned e =
        c.rest ∙ ap (inserted_in moved) (from_place s place h ∙ ap (λ (r : Rank). r ∷ drop (place + 1) s) (sym held_there))
        ∙ ap (λ (t : Bool). cond t (moved ∷ inserted_in held (drop (place + 1) s)) (held ∷ inserted_in moved (drop (place + 1) s))) e

    -- the parts of a list from a place on
    first_there : {x : Rank} {r : List Rank} → drop place whole_inserted ≡ x ∷ r → rank_at whole_inserted place ≡ x
    first_there e =
        ap (λ (k : ℕ). rank_at whole_inserted k) (omega arith) ∙ sym (get_or-drop place whole_inserted 0 (in_numbers None)) ∙ ap (λ (l : List Rank). get_or l 0 (in_numbers None)) e

    rest_there : {x : Rank} {r : List Rank} → drop place whole_inserted ≡ x ∷ r → drop (place + 1) whole_inserted ≡ r
    rest_there e = sym (drop-drop 1 place whole_inserted) ∙ ap (drop 1) e

    -- the rank that is moved goes in, and the one that is held moves on
    pub inserting_moved : ltb (worth_of moved) (worth_of held) ≡ true → Inserting (place + 1) held (set now place moved)
    inserting_moved e =
        let there = turned e in
        record {
          written = written_more whole_inserted s place now c.written (in_numbers None) moved h (sym (first_there there));
          rest = rest_there there;
        }

    -- the one that is held stays
    pub inserting_stays : ltb (worth_of moved) (worth_of held) ≡ false → Inserting (place + 1) moved (set now place held)
    inserting_stays e =
        let there = turned e in
        record {
          written = written_more whole_inserted s place now c.written (in_numbers None) held h (sym (first_there there));
          rest = rest_there there;
        }

  pub inserting_over : (place : ℕ) (moved : Rank) (now : List Rank) → Inserting place moved now → length s ≤ place → now ≡ inserted_in rank s
  inserting_over place moved now c h = written_all whole_inserted s place now c.written (in_numbers None) h
