-- Laws of numbers and their bytes, each stated once over the width.
use mathlib.Core.Path.{◌≡◌, refl, sym, ap, ◌∙◌}
use mathlib.Core.List.{List, [], ◌∷◌, ◌++◌}
use Prim.Native.Nat.{ℕ, zero, suc, ◌+◌, ◌*◌, ◌-◌, ◌/◌, ◌%◌, ◌^◌, ◌<◌, ◌≤◌}
use native.Mathlib.Numerals.{add-one, sub-one}
use native.Mathlib.Nat.{pow-suc, pow-succ', pow-le-pow_right, lt_of_lt_of_le, mul_assoc, add-mul, div-lt_iff_lt-mul, div-add-mod'}
use native.Mathlib.Omega.{arith}
use lib.Arith.{digits_lt, digits_div, digits_mod}
use lib.Dec.{lit<}
use lib.ListN.{length, take, drop, get_or, set, length-set, length-append, length-drop}
use lib.Seq.{drop-cons, get_or-set_same, drop-set-lt, append_snoc, take-suc, take-add, drop-drop, get_or-drop, length-take-le}
use Rattle.numbers.specs.Bytes.{onto, number_at, number_bytes, Bytes}

-- ---- the loop that reads

-- one byte more
pub room : (i v b : ℕ) → v < 256 ^ i → b < 256 → v * 256 + b < 256 ^ (i + 1)
room i v b hv hb = rw (add-one, pow-suc) (digits_lt hv hb)

-- eight bytes at most
pub room8 : (i : ℕ) {v : ℕ} → v < 256 ^ i → i ≤ 8 → v < 2 ^ 64
room8 i hv hi = lt_of_lt_of_le hv (pow-le-pow_right (lit< tt) hi)

-- what is read and what is left, before and after a byte
pub onto_next : (s : List ℕ) (i v : ℕ) → i < length s → onto (v * 256 + get_or s i 0) (drop (i + 1) s) ≡ onto v (drop i s)
onto_next s i v h = rw (add-one, drop-cons s i 0)

-- ---- the loop that puts

-- the rest of a list from a place on, once that place is filled
pub put_next : (out : List ℕ) (b k : ℕ) → k < length out → drop k (set out k b) ≡ b ∷ drop (suc k) out
put_next out b k h =
    let h' : k < length (set out k b) = simp length-set (omega arith) in
    let l : k < suc k = omega arith in
    rw (drop-cons (set out k b) k 0, get_or-set_same, drop-set-lt)

-- what is left to put and what stands, before and after a byte
pub put_step : (out : List ℕ) (rest i : ℕ) → 0 < i → i ≤ length out
    → number_bytes (i - 1) (rest / 256) ++ drop (i - 1) (set out (i - 1) (rest % 256)) ≡ number_bytes i rest ++ drop i out
put_step out rest zero h l = absurd (omega arith)
put_step out rest (suc k) h l =
    let h' : k < length out = omega arith in
    rw (sub-one, put_next) (sym (append_snoc (number_bytes k (rest / 256)) (rest % 256) (drop (suc k) out)))

-- ---- a number and its bytes

pub bytes_drop : (s : List ℕ) (a : ℕ) → Bytes s → Bytes (drop a s)
bytes_drop s a b i = rw get_or-drop (b (a + i))

pub bytes_append : (s t : List ℕ) → Bytes s → Bytes t → Bytes (s ++ t)
bytes_append [] t a b i = b i
bytes_append (x ∷ s) t a b zero = a 0
bytes_append (x ∷ s) t a b (suc i) = bytes_append s t (λ j. a (suc j)) b i

-- what a number is written as is bytes
pub digits_bytes : (n v : ℕ) → Bytes (number_bytes n v)
digits_bytes zero v = λ _. lit< tt
digits_bytes (suc n) v = bytes_append (number_bytes n (v / 256)) (v % 256 ∷ []) (digits_bytes n (v / 256)) one
  where
    one : Bytes (v % 256 ∷ [])
    one zero = omega arith
    one (suc i) = lit< tt

pub onto_append : (v : ℕ) (xs ys : List ℕ) → onto v (xs ++ ys) ≡ onto (onto v xs) ys
onto_append v [] ys = refl
onto_append v (x ∷ xs) ys = onto_append (v * 256 + x) xs ys

pub length_digits : (n v : ℕ) → length (number_bytes n v) ≡ n
length_digits zero v = refl
length_digits (suc n) v = length-append (number_bytes n (v / 256)) (v % 256 ∷ []) ∙ rw (length_digits n (v / 256)) (omega arith)

-- a number that fits its width is what its bytes make
pub value_digits : (n v : ℕ) → v < 256 ^ n → onto 0 (number_bytes n v) ≡ v
value_digits zero v h = omega arith
value_digits (suc n) v h =
    onto_append 0 (number_bytes n (v / 256)) (v % 256 ∷ [])
    ∙ ap (λ (q : ℕ). q * 256 + v % 256) (value_digits n (v / 256) ((div-lt_iff_lt-mul (lit< tt)).1 (rw pow-suc at h)))
    ∙ div-add-mod' v 256

-- bytes are the number_bytes of what they make
pub digits_value : (s : List ℕ) → Bytes s → (n : ℕ) → n ≤ length s → number_bytes n (onto 0 (take n s)) ≡ take n s
digits_value s b zero h = refl
digits_value s b (suc n) h =
    let l : n < length s = omega arith in
    let o = onto 0 (take n s) in
    let x = get_or s n 0 in
    rw (take-suc s n 0, onto_append 0 (take n s) (x ∷ []), digits_div o (b n), digits_mod o (b n))
    (ap (λ (l : List ℕ). l ++ (x ∷ [])) (digits_value s b n (omega arith)))

-- what n bytes make fits n bytes
pub number_small : (s : List ℕ) → Bytes s → (n : ℕ) → n ≤ length s → onto 0 (take n s) < 256 ^ n
number_small s b zero h = lit< tt
number_small s b (suc n) h =
    let l : n < length s = omega arith in
    rw (take-suc s n 0, onto_append 0 (take n s) (get_or s n 0 ∷ []), pow-suc) (digits_lt (number_small s b n (omega arith)) (b n))

-- the same for the bytes from a on
pub number_at_small : (s : List ℕ) → Bytes s → (a n : ℕ) → a + n ≤ length s → number_at s a n < 256 ^ n
number_at_small s b a n h = number_small (drop a s) (bytes_drop s a b) n (rw length-drop (omega arith))

-- ---- a number in two parts

-- bytes that follow those of v
pub onto_split : (xs : List ℕ) (v : ℕ) → onto v xs ≡ v * 256 ^ length xs + onto 0 xs
onto_split [] v = omega arith
onto_split (x ∷ xs) v =
    let p = 256 ^ length xs in
    let e : (v * 256 + x) * p ≡ v * 256 * p + x * p = add-mul (v * 256) x p in
    let g : (0 * 256 + x) * p ≡ x * p = ap (λ (y : ℕ). y * p) (omega arith) in
    let m : v * 256 * p ≡ v * 256 ^ suc (length xs) = mul_assoc v 256 p ∙ ap (λ (y : ℕ). v * y) (sym (pow-succ' 256 (length xs))) in
    omega (arith, onto_split xs (v * 256 + x), onto_split xs (0 * 256 + x))

-- m + n bytes make what the first m make, moved by n bytes, and what the other n make
pub number_add : (s : List ℕ) (a m n : ℕ) → a + (m + n) ≤ length s → number_at s a (m + n) ≡ number_at s a m * 256 ^ n + number_at s (a + m) n
number_add s a m n h =
    let l : length (take n (drop (a + m) s)) ≡ n = length-take-le n (drop (a + m) s) (rw length-drop (omega arith)) in
    rw (take-add, drop-drop, onto_append, onto_split (take n (drop (a + m) s)), l) refl
