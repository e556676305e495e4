-- Laws of lines by columns: lengths, one byte of a number, two texts one after the other, and a text that is equal to another.
use mathlib.Core.Path.{◌≡◌, refl, sym, ap, ◌∙◌, subst}
use Prim.Native.Nat.{ℕ, zero, suc, ◌+◌, ◌*◌, ◌-◌, ◌/◌, ◌%◌, ◌<◌, ◌≤◌}
use mathlib.Core.List.{List, [], ◌∷◌, ◌++◌, append_assoc}
use native.Mathlib.Omega.{arith}
use lib.ListN.{length, take, drop, take-append-drop, length-append}
use lib.Seq.{length-take-le, take-append-le, take-take, take_at, drop_at, drop-drop}
use Rattle.numbers.specs.Bytes.{number_bytes}
use Rattle.numbers.proofs.Places.{length_digits}
use Rattle.hexadecimal.specs.Print.{text_of, with_byte_of}
use Rattle.hexadecimal.proofs.PrintLaws.{with_byte, text_append, length_text}
use Rattle.columns.specs.Columns.{most_bytes, longest_answer, column_text, columns_text, column_room, room, bytes_text, bytes_line, Prints}
use Rattle.hexadecimal.specs.Character.{newline, no_bytes_mark}

-- ---- the cases of a column and of bytes

pub column_character : (w v : ℕ) → w ≡ 0 → column_text w v ≡ v % 256 ∷ []
unfolding column_text
column_character zero v e = refl
column_character (suc w) v e = absurd (omega arith)

pub column_number : (w v : ℕ) → (w ≡ 0 → ⊥) → (column_room w ≡ w * 2) × (column_text w v ≡ text_of (number_bytes w v))
unfolding column_text
column_number zero v h = absurd (h refl)
column_number (suc w) v h = (refl, refl)

pub bytes_none : (s : List ℕ) → length s ≡ 0 → bytes_text s ≡ no_bytes_mark ∷ []
bytes_none [] e = refl
bytes_none (b ∷ s) e = absurd (omega arith)

pub bytes_some : (s : List ℕ) → (length s ≡ 0 → ⊥) → bytes_text s ≡ text_of s
bytes_some [] h = absurd (h refl)
bytes_some (b ∷ s) h = refl

-- ---- lengths

pub length_column : (w v : ℕ) → length (column_text w v) ≡ column_room w
unfolding column_text
length_column zero v = refl
length_column (suc w) v = length_text (number_bytes (suc w) v) ∙ ap (λ (n : ℕ). n * 2) (length_digits (suc w) v)

pub length_columns : (ws vs : List ℕ) → length ws ≡ length vs → length (columns_text ws vs) ≡ room ws
unfolding columns_text
length_columns [] vs e = refl
length_columns (w ∷ ws) [] e = absurd (omega arith)
length_columns (w ∷ ws) (v ∷ vs) e =
    length-append (column_text w v) (columns_text ws vs) ∙ omega (arith, length_column w v, length_columns ws vs (omega arith))

-- bytes fit where the mark and all number_bytes fit
pub bytes_fit : (s : List ℕ) (n : ℕ) → 1 ≤ n → length s * 2 ≤ n → length (bytes_text s) ≤ n
bytes_fit [] n h k = h
bytes_fit (b ∷ s) n h k = omega (arith, length_text (b ∷ s))

pub bytes_most : (s : List ℕ) → length s ≤ most_bytes → length (bytes_line s) ≤ 257
unfolding bytes_line
bytes_most s h = omega (arith, length-append (bytes_text s) (newline ∷ []), bytes_fit s 256 (omega arith) (omega arith))

-- ---- one byte of a number, from the last

pub number_step : (out t : List ℕ) (at rest i : ℕ) → 0 < i → at + i * 2 ≤ length out → t ≡ with_byte_of out (at + (i - 1) * 2) (rest % 256)
    → take at t ++ (text_of (number_bytes (i - 1) (rest / 256)) ++ drop (at + (i - 1) * 2) t) ≡ take at out ++ (text_of (number_bytes i rest) ++ drop (at + i * 2) out)
unfolding text_of
number_step out t at rest zero p h e = absurd (omega arith)
number_step out t at rest (suc k) p h e =
    let n = at + k * 2 in
    let b = text_of (rest % 256 ∷ []) in
    let q : length (take n out) ≡ n = length-take-le n out (omega arith) in
    let z : suc k - 1 ≡ k = omega arith in
    let f : t ≡ take n out ++ (b ++ drop (n + 2) out) = e ∙ rw z (with_byte out n (rest % 256) (omega arith)) in
    let m : n + 2 ≡ at + suc k * 2 = omega arith in
    let x : take at t ≡ take at out = ap (take at) f ∙ take-append-le at (take n out) (b ++ drop (n + 2) out) (omega arith) ∙ take-take at n out (omega arith) in
    let y : drop n t ≡ b ++ drop (n + 2) out = ap (drop n) f ∙ drop_at (take n out) (b ++ drop (n + 2) out) n q in
    rw (z, x, y, text_append (number_bytes k (rest / 256)) (rest % 256 ∷ []), append_assoc (text_of (number_bytes k (rest / 256))) b (drop (at + suc k * 2) out), m) refl

-- ---- a text in the output from `at` up to `end`, whose rest is as it was

abbrev pub Puts : List ℕ → ℕ → ℕ → List ℕ → List ℕ → Type 0
Puts text at end was left = record { value : end ≡ at + length text; out_after : left ≡ take at was ++ (text ++ drop end was) }

pub puts_nothing : (at : ℕ) (out : List ℕ) → Puts [] at at out out
puts_nothing at out = record { value = omega arith; out_after = sym (take-append-drop at out) }

pub puts_both : (was mid left s t : List ℕ) (at m end : ℕ) → at ≤ length was → Puts s at m was mid → Puts t m end mid left → Puts (s ++ t) at end was left
puts_both was mid left s t at m end h p q =
    let n : length (take at was ++ s) ≡ m = length-append (take at was) s ∙ ap (λ (k : ℕ). k + length s) (length-take-le at was h) ∙ sym p.value in
    let e : mid ≡ (take at was ++ s) ++ drop m was = p.out_after ∙ sym (append_assoc (take at was) s (drop m was)) in
    let x : take m mid ≡ take at was ++ s = ap (take m) e ∙ take_at (take at was ++ s) (drop m was) m n in
    let y : drop m mid ≡ drop m was = ap (drop m) e ∙ drop_at (take at was ++ s) (drop m was) m n in
    let z : drop end mid ≡ drop end was = rw (q.value, ← drop-drop (length t) m mid, ← drop-drop (length t) m was, y) refl in record {
      value = omega (arith, length-append s t);
      out_after = q.out_after ∙ rw (x, z, append_assoc (take at was) s (t ++ drop end was), append_assoc s t (drop end was)) refl;
    }

-- ---- one column more

pub next_column : (w v : ℕ) (ws vs out mid left : List ℕ) (at m end : ℕ) → at ≤ length out → Puts (column_text w v) at m out mid → Puts (columns_text ws vs) m end mid left
    → Puts (columns_text (w ∷ ws) (v ∷ vs)) at end out left
unfolding columns_text
next_column w v ws vs out mid left at m end k p q = puts_both out mid left (column_text w v) (columns_text ws vs) at m end k p q

-- and none
pub no_columns : (ws vs : List ℕ) → length ws ≡ 0 → columns_text ws vs ≡ []
unfolding columns_text
no_columns [] vs e = refl
no_columns (w ∷ ws) vs e = absurd (omega arith)

-- ---- for callers

-- a text at the start that fits a line
pub printed : {text was left : List ℕ} {len : ℕ} → Puts text 0 len was left → len ≤ longest_answer → Prints text len was left
printed {text = text} {was = was} p f =
    let l : _ ≡ length text = p.value ∙ omega arith in
    record {
      size = l;
      bytes = p.out_after ∙ ap (λ (k : ℕ). text ++ drop k was) l;
      fits = f;
    }

-- ---- what is printed of one text is printed of its equal

pub as_prints : {want other : List ℕ} {len : ℕ} {was left : List ℕ} → want ≡ other → Prints want len was left → Prints other len was left
as_prints {len = len} {was = was} {left = left} e s = subst (λ (w : List ℕ). Prints w len was left) e s

-- and what is printed for the case that an answer is found to be is printed for what the call is to answer
pub as_answered : {A : Type 0} (text : A → List ℕ) {want answer case : A} {len : ℕ} {was left : List ℕ} → answer ≡ want → answer ≡ case → Prints (text case) len was left
    → Prints (text want) len was left
as_answered text e g p = as_prints (ap text (sym g ∙ e)) p
