-- Laws of a walk over a table of widths from its first row on: where it stands, what it has taken apart, and what it has put together.
use Rattle.std.proofs.Common.{◌≡◌, sym, ap, ◌∙◌, ℕ, ◌+◌, ◌<◌, ◌≤◌, List, ◌∷◌, ◌++◌, length, take, drop, get_or, set, append_assoc, add-one, arith, length-append}
use Rattle.std.proofs.Math.Seq.{drop-cons}
use Rattle.std.proofs.lemmas.List.{take_more_set, take_at, drop_at, drop-drop, length-take-le}
use Rattle.numbers.specs.Bytes.{number_at, number_bytes, spliced}
use Rattle.numbers.specs.Table.{total, parted, joined}
use Rattle.numbers.proofs.Places.{length_digits}

-- the n bytes from a on of what has a number there, with those before them, and the bytes after them
module _ (xs : List ℕ) (a n v : ℕ) (h : a + n ≤ length xs) where
  filled_length : length (take a xs ++ number_bytes n v) ≡ a + n
  filled_length = omega (arith, length-append (take a xs) (number_bytes n v), length_digits n v, length-take-le a xs (omega arith))

  spliced_first : take (a + n) (spliced xs a n v) ≡ take a xs ++ number_bytes n v
  spliced_first =
      ap (take (a + n)) (sym (append_assoc (take a xs) (number_bytes n v) (drop (a + n) xs)))
      ∙ take_at (take a xs ++ number_bytes n v) (drop (a + n) xs) (a + n) filled_length

  spliced_rest : drop (a + n) (spliced xs a n v) ≡ drop (a + n) xs
  spliced_rest =
      ap (drop (a + n)) (sym (append_assoc (take a xs) (number_bytes n v) (drop (a + n) xs)))
      ∙ drop_at (take a xs ++ number_bytes n v) (drop (a + n) xs) (a + n) filled_length

-- where the rows from k on take the bytes from a on
module _ (ws : List ℕ) (a k : ℕ) (h : k < length ws) (e : a + total (drop k ws) ≡ total ws) where
  -- the row at k, and those after it
  rows_here : drop k ws ≡ get_or ws k 0 ∷ drop (k + 1) ws
  rows_here = rw add-one (drop-cons ws k 0 h)

  pub row_ends : (a + get_or ws k 0) + total (drop (k + 1) ws) ≡ total ws
  row_ends = omega (arith, ap total rows_here)

  pub row_fits : a + get_or ws k 0 ≤ total ws
  row_fits = omega (arith, row_ends)

  -- its number, taken out
  pub row_parted : (vs s all : List ℕ) (v : ℕ) → k < length vs → v ≡ number_at s a (get_or ws k 0) → take k vs ++ parted (drop k ws) a s ≡ all
      → take (k + 1) (set vs k v) ++ parted (drop (k + 1) ws) (a + get_or ws k 0) s ≡ all
  unfolding parted
  row_parted vs s all v l q r =
      rw (take_more_set, append_assoc)
      ((λ i. take k vs ++ (q i ∷ parted (drop (k + 1) ws) (a + get_or ws k 0) s)) ∙ (rw rows_here at r))

  -- its number, put in
  pub row_joined : (vs t xs all : List ℕ) → k < length vs → a + get_or ws k 0 ≤ length xs → take a xs ++ joined (drop k ws) (drop k vs) t ≡ all
      → take (a + get_or ws k 0) (spliced xs a (get_or ws k 0) (get_or vs k 0)) ++ joined (drop (k + 1) ws) (drop (k + 1) vs) t ≡ all
  unfolding joined
  row_joined vs t xs all l m r =
      let w = get_or ws k 0 in
      let here : drop k vs ≡ get_or vs k 0 ∷ drop (k + 1) vs = rw add-one (drop-cons vs k 0 l) in
      ap (λ (x : List ℕ). x ++ joined (drop (k + 1) ws) (drop (k + 1) vs) t) (spliced_first xs a w (get_or vs k 0) m)
      ∙ append_assoc (take a xs) (number_bytes w (get_or vs k 0)) (joined (drop (k + 1) ws) (drop (k + 1) vs) t)
      ∙ (rw (rows_here, here) at r)

  -- what stands after it stays
  pub row_after : (xs ys : List ℕ) (v : ℕ) → a + get_or ws k 0 ≤ length xs → drop a xs ≡ drop a ys
      → drop (a + get_or ws k 0) (spliced xs a (get_or ws k 0) v) ≡ drop (a + get_or ws k 0) ys
  row_after xs ys v m r =
      let w = get_or ws k 0 in
      spliced_rest xs a w v m ∙ sym (drop-drop w a xs) ∙ ap (drop w) r ∙ drop-drop w a ys
