-- Laws of a table of widths: taking apart and putting together undo each other.
use mathlib.Core.Path.{◌≡◌, refl, sym, ap, ◌∙◌}
use mathlib.Core.List.{List, [], ◌∷◌, ◌++◌, append_assoc}
use Prim.Native.Nat.{ℕ, zero, suc, ◌+◌, ◌^◌, ◌<◌, ◌≤◌, max}
use native.Mathlib.Nat.{le_trans, le-max_left, le-max_right}
use native.Mathlib.Omega.{arith}
use lib.ListN.{length, take, drop, get_or, length-append, length-drop}
use lib.Seq.{take-add, drop-drop, take_at, drop_at}
use Rattle.numbers.specs.Bytes.{number_at, number_bytes, Bytes}
use Rattle.numbers.specs.Table.{total, parted, joined, Held}
use Rattle.numbers.proofs.Places.{bytes_drop, bytes_append, digits_bytes, length_digits, value_digits, digits_value, number_at_small}

pub held_at : (ws vs : List ℕ) (k : ℕ) → Held ws vs → k < length ws → get_or vs k 0 < 256 ^ get_or ws k 0
held_at [] vs k h l = absurd (omega arith)
held_at (w ∷ ws) [] k h l = absurd h
held_at (w ∷ ws) (v ∷ vs) zero h l = h.0
held_at (w ∷ ws) (v ∷ vs) (suc k) h l = held_at ws vs k h.1 (omega arith)

-- the widest row
abbrev pub widest : List ℕ → ℕ
widest [] = 0
widest (w ∷ ws) = max w (widest ws)

pub at_most_widest : (ws : List ℕ) (k : ℕ) → get_or ws k 0 ≤ widest ws
at_most_widest [] k = omega arith
at_most_widest (w ∷ ws) zero = le-max_left w (widest ws)
at_most_widest (w ∷ ws) (suc k) = le_trans (at_most_widest ws k) (le-max_right w (widest ws))

-- the numbers that stand in bytes fit their widths
pub held_parted : (ws : List ℕ) (a : ℕ) (s : List ℕ) → Bytes s → a + total ws ≤ length s → Held ws (parted ws a s)
unfolding parted
held_parted [] a s b h = tt
held_parted (w ∷ ws) a s b h = (number_at_small s b a w (omega arith), held_parted ws (a + w) s b (omega arith))

pub length_joined : (ws vs t : List ℕ) → Held ws vs → length (joined ws vs t) ≡ total ws + length t
unfolding joined
length_joined [] [] t h = omega arith
length_joined [] (v ∷ vs) t h = absurd h
length_joined (w ∷ ws) [] t h = absurd h
length_joined (w ∷ ws) (v ∷ vs) t h = omega (arith, length-append (number_bytes w v) (joined ws vs t), length_digits w v, length_joined ws vs t h.1)

-- numbers put together are bytes
pub joined_bytes : (ws vs t : List ℕ) → Bytes t → Bytes (joined ws vs t)
unfolding joined
joined_bytes [] vs t b = b
joined_bytes (w ∷ ws) [] t b = b
joined_bytes (w ∷ ws) (v ∷ vs) t b = bytes_append (number_bytes w v) (joined ws vs t) (digits_bytes w v) (joined_bytes ws vs t b)

-- what is put after the table's bytes comes after them
pub joined_append : (ws vs t : List ℕ) → joined ws vs t ≡ joined ws vs [] ++ t
unfolding joined
joined_append [] vs t = refl
joined_append (w ∷ ws) [] t = refl
joined_append (w ∷ ws) (v ∷ vs) t = rw (append_assoc) (ap (λ (l : List ℕ). number_bytes w v ++ l) (joined_append ws vs t))

-- bytes taken apart and put together again
pub joined_parted : (ws : List ℕ) (a : ℕ) (s t : List ℕ) → Bytes s → a + total ws ≤ length s
    → joined ws (parted ws a s) t ≡ take (total ws) (drop a s) ++ t
unfolding parted joined
joined_parted [] a s t b h = refl
joined_parted (w ∷ ws) a s t b h =
    rw (digits_value (drop a s) (bytes_drop s a b) w (rw length-drop (omega arith)), joined_parted ws (a + w) s t b (omega arith), take-add, drop-drop, append_assoc)

-- values put together after p and taken apart again
pub parted_joined : (ws vs p t : List ℕ) (a : ℕ) → length p ≡ a → Held ws vs → parted ws a (p ++ joined ws vs t) ≡ vs
unfolding parted joined
parted_joined [] [] p t a e h = refl
parted_joined [] (v ∷ vs) p t a e h = absurd h
parted_joined (w ∷ ws) [] p t a e h = absurd h
parted_joined (w ∷ ws) (v ∷ vs) p t a e h =
    let s = p ++ (number_bytes w v ++ joined ws vs t) in
    let here : number_at s a w ≡ v =
    rw (drop_at p (number_bytes w v ++ joined ws vs t) a e, take_at (number_bytes w v) (joined ws vs t) w (length_digits w v)) (value_digits w v h.0) in
    let l : length (p ++ number_bytes w v) ≡ a + w = length-append p (number_bytes w v) ∙ rw (e, length_digits) refl in
    let rest : parted ws (a + w) ((p ++ number_bytes w v) ++ joined ws vs t) ≡ vs = parted_joined ws vs (p ++ number_bytes w v) t (a + w) l h.1 in
    λ i. here i ∷ (rw append_assoc at rest) i

-- the rows from k on stand where those before them end, whatever their values
pub drop_joined : (ws vs t : List ℕ) (k : ℕ) → k ≤ length ws → length vs ≡ length ws → drop (total (take k ws)) (joined ws vs t) ≡ joined (drop k ws) (drop k vs) t
unfolding joined
drop_joined ws vs t zero h e = refl
drop_joined [] vs t (suc k) h e = absurd (omega arith)
drop_joined (w ∷ ws) [] t (suc k) h e = absurd (omega arith)
drop_joined (w ∷ ws) (v ∷ vs) t (suc k) h e =
    sym (drop-drop (total (take k ws)) w (number_bytes w v ++ joined ws vs t))
    ∙ ap (drop (total (take k ws))) (drop_at (number_bytes w v) (joined ws vs t) w (length_digits w v))
    ∙ drop_joined ws vs t k (omega arith) (omega arith)
