-- Laws of printed bytes.
use Rattle.std.proofs.Common.{◌≡◌, ℕ, suc, ◌+◌, ◌*◌, ◌/◌, ◌%◌, ◌<◌, List, [], ◌∷◌, ◌++◌, length, get_or, take, drop, sym, refl, ap, ◌∙◌, append_assoc, append-nil, add-one, arith, length-append, length-take-le, drop-cons, take_at}
use lib.Seq.{take-length, drop-length, sets-eq}
use Rattle.hexadecimal.specs.Print.{capital_of, text_of, with_byte_of}

-- a byte's digits are a run of two stores
pub with_byte : (xs : List ℕ) (at b : ℕ) → at + 1 < length xs
    → with_byte_of xs at b ≡ take at xs ++ (capital_of (b / 16) ∷ capital_of (b % 16) ∷ drop (at + 2) xs)
unfolding with_byte_of
with_byte xs at b h =
    let two = capital_of (b / 16) ∷ capital_of (b % 16) ∷ [] in
    rw add-one (sets-eq two xs at (omega arith) ∙ append_assoc (take at xs) two (drop (at + 2) xs))

pub text_append : (s t : List ℕ) → text_of (s ++ t) ≡ text_of s ++ text_of t
unfolding text_of
text_append [] t = refl
text_append (b ∷ s) t = ap (λ (l : List ℕ). capital_of (b / 16) ∷ capital_of (b % 16) ∷ l) (text_append s t)

pub length_text : (s : List ℕ) → length (text_of s) ≡ length s * 2
unfolding text_of
length_text [] = refl
length_text (b ∷ s) = ap (λ (n : ℕ). suc (suc n)) (length_text s) ∙ omega arith

text_next : (s : List ℕ) (i : ℕ) → i < length s → text_of (drop i s) ≡ capital_of (get_or s i 0 / 16) ∷ capital_of (get_or s i 0 % 16) ∷ text_of (drop (suc i) s)
unfolding text_of
text_next s i h = rw (drop-cons s i 0)

-- one byte more
pub text_step : (s out : List ℕ) (i : ℕ) → i < length s → length out ≡ length s * 2
    → take ((i + 1) * 2) (with_byte_of out (i * 2) (get_or s i 0)) ++ text_of (drop (i + 1) s) ≡ take (i * 2) out ++ text_of (drop i s)
text_step s out i h l =
    let b = get_or s i 0 in
    let two = capital_of (b / 16) ∷ capital_of (b % 16) ∷ [] in
    let z : (i + 1) * 2 ≡ i * 2 + 2 = omega arith in
    let m : i * 2 + 1 < length out = omega arith in
    let n : length (take (i * 2) out) ≡ i * 2 = length-take-le (i * 2) out (omega arith) in
    let k : length (take (i * 2) out ++ two) ≡ i * 2 + 2 = rw (length-append, n) refl in
    let t = text_of (drop (suc i) s) in
    rw (z, with_byte out (i * 2) b m, text_next s i h, add-one)
    (ap (λ (l : List ℕ). take (i * 2 + 2) l ++ t) (sym (append_assoc (take (i * 2) out) two (drop (i * 2 + 2) out)))
    ∙ ap (λ (l : List ℕ). l ++ t) (take_at (take (i * 2) out ++ two) (drop (i * 2 + 2) out) (i * 2 + 2) k)
    ∙ append_assoc (take (i * 2) out) two t)

-- and the last
pub text_end : (s out : List ℕ) (i : ℕ) → i ≡ length s → length out ≡ length s * 2 → out ≡ take (i * 2) out ++ text_of (drop i s)
unfolding text_of
text_end s out i e l = rw (e, ← l, drop-length, take-length) (sym (append-nil out))
