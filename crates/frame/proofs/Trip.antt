-- The round trips: an accepted frame, read and written, has its bytes; fields that are written and read are those fields.
-- And where precedence, version, hopCount, grand time, frameCount and errorTime stand in a frame, as the numbers that their bytes make.
use mathlib.Core.Path.{◌≡◌, refl, sym, ap, ◌∙◌, subst}
use mathlib.Core.List.{List, [], ◌∷◌, ◌++◌, append_assoc}
use Prim.Native.Nat.{ℕ, ◌+◌, ◌*◌, ◌^◌, ◌<◌, ◌≤◌}
use native.Mathlib.Omega.{arith}
use lib.Dec.{lit<, lit≤}
use lib.ListN.{length, take, drop, get_or, length-append}
use lib.Seq.{take_all, take_at}
use Rattle.std.proofs.Common.{Ok}
use Rattle.refusals.specs.Answer.{granted}
use Rattle.refusals.specs.declared.Refusal.TheVariants.{WrongVersion}
use Rattle.numbers.specs.Bytes.{onto, number_at, number_bytes, Bytes}
use Rattle.numbers.specs.Table.{total, parted, joined, Held}
use Rattle.times.specs.Times.{units, InRange}
use Rattle.choice.specs.Precedence.{precedence_of}
use Rattle.frame.specs.Frame.{frame_length, widths, values_of, fields_of}
use Rattle.frame.specs.Read.{rows_of, read_of}
use Rattle.frame.specs.Write.{write_refusal, bytes_of, written_of}
use Rattle.frame.specs.Better.{precedence_start, precedence_bytes}
use Rattle.frame.specs.Demands.{Typed}
use Rattle.frame.specs.declared.Fields.{Fields}
use Rattle.numbers.proofs.Places.{number_add, onto_append, onto_split, length_digits, value_digits}
use Rattle.numbers.proofs.Table.{held_at, held_parted, length_joined, joined_bytes, joined_append, joined_parted, parted_joined, drop_joined}
use Rattle.frame.proofs.FrameLaws.{require_past, Accepted, accepted, by_rows, framed, reading, Written, in_range, unrefused, filled}

-- ---- read, then written

-- the rows of an accepted frame are what its fields put into them
rows_values : (s : List ℕ) → Accepted s → values_of (fields_of (rows_of s)) ≡ rows_of s
unfolding parted
rows_values s a =
    let v : ℕ → ℕ = λ k. get_or (rows_of s) k 0 in
    λ i. sym a.da i
    ∷ v 1 ∷ v 2 ∷ v 3 ∷ v 4 ∷ v 5 ∷ v 6
    ∷ sym a.protocol_type i ∷ sym a.function i ∷ v 9
    ∷ v 10 ∷ v 11 ∷ v 12 ∷ v 13 ∷ v 14
    ∷ v 15 ∷ v 16 ∷ sym a.byte31 i
    ∷ v 18 ∷ v 19 ∷ v 20 ∷ v 21 ∷ v 22 ∷ v 23 ∷ []

-- the times of an accepted frame fit their rows, and its version is one
rows_written : (s : List ℕ) (n : ℕ) → Bytes s → Accepted s → frame_length ≤ n → Written (fields_of (rows_of s)) n
rows_written s n b a r =
    let h : Held widths (rows_of s) = held_parted widths 0 s b (omega (arith, a.sized)) in
    record {
      seconds = held_at widths (rows_of s) 18 h (lit< tt);
      fraction = held_at widths (rows_of s) 19 h (lit< tt);
      local = held_at widths (rows_of s) 20 h (lit< tt);
      tx = held_at widths (rows_of s) 21 h (lit< tt);
      rx = held_at widths (rows_of s) 22 h (lit< tt);
      room = r;
      version = a.version;
    }

-- the bytes of an accepted frame's fields are the frame
rows_joined : (s t : List ℕ) → Bytes s → Accepted s → joined widths (values_of (fields_of (rows_of s))) t ≡ s ++ t
rows_joined s t b a =
    ap (λ (vs : List ℕ). joined widths vs t) (rows_values s a)
    ∙ joined_parted widths 0 s t b (omega (arith, a.sized))
    ∙ ap (λ (l : List ℕ). l ++ t) (take_all frame_length s (omega (arith, a.sized)))

-- the fields of an accepted frame are written, and give its bytes
pub read_written : (s out : List ℕ) (f : Fields) → Bytes s → read_of s ≡ Ok f → frame_length ≤ length out
    → (write_refusal f (length out) ≡ granted) × (written_of f out ≡ s ++ drop frame_length out)
unfolding bytes_of
read_written s out f b e r =
    let q = reading s f e in
    let a = accepted s q.0 in
    subst (λ (g : Fields). (write_refusal g (length out) ≡ granted) × (written_of g out ≡ s ++ drop frame_length out)) q.1
    (let g = fields_of (rows_of s) in
    let z : write_refusal g (length out) ≡ granted = unrefused g (length out) (rows_written s (length out) b a r) in
    (z, sym (filled g out (sym z)) ∙ rows_joined s (drop frame_length out) b a))

-- ---- written, then read

-- each field fits its row
values_held : (f : Fields) (n : ℕ) → Typed f → Written f n → Held widths (values_of f)
values_held f n t w = omega arith

-- the first 64 bytes of what is written are the rows of the fields
written_first : (f : Fields) (out : List ℕ) → Held widths (values_of f) → write_refusal f (length out) ≡ granted
    → take frame_length (written_of f out) ≡ joined widths (values_of f) []
unfolding bytes_of
written_first f out h e =
    ap (take frame_length) (sym (filled f out (sym e)) ∙ joined_append widths (values_of f) (drop frame_length out))
    ∙ take_at (joined widths (values_of f) []) (drop frame_length out) frame_length (length_joined widths (values_of f) [] h)

-- fields that are written are what is read of the first 64 bytes
pub written_read : (f : Fields) (out : List ℕ) → Typed f → write_refusal f (length out) ≡ granted → read_of (take frame_length (written_of f out)) ≡ Ok f
written_read f out t e =
    let vs = values_of f in
    let w = in_range f (length out) e in
    let h : Held widths vs = values_held f (length out) t w in
    let s = joined widths vs [] in
    let rows : rows_of s ≡ vs = parted_joined widths vs [] [] 0 refl h in
    ap read_of (written_first f out h e)
    ∙ sym (framed s (require_past _ WrongVersion w.version refl ∙ by_rows s vs (length_joined widths vs [] h) (sym rows)))
    ∙ ap (λ (v : List ℕ). Ok (fields_of v)) rows

-- ---- precedence

-- where the layout puts precedence, and how many bytes a frame has
pub precedence_place : (total (take 10 widths) ≡ precedence_start) × (total (take 5 (drop 10 widths)) ≡ precedence_bytes) × (total widths ≡ frame_length)
precedence_place = (refl, refl, refl)

-- the number of 104 bits is the one that the 13 bytes make
pub precedence_number : (s : List ℕ) (f : Fields) → read_of s ≡ Ok f → precedence_of f.precedence ≡ number_at s precedence_start precedence_bytes
unfolding precedence_of parted
precedence_number s f e =
    let q = reading s f e in
    let l = (accepted s q.0).sized in
    ap (λ (g : Fields). precedence_of g.precedence) (sym q.1)
    ∙ omega (arith, number_add s 16 1 12 (omega arith), number_add s 17 1 11 (omega arith), number_add s 18 2 9 (omega arith), number_add s 20 1 8 (omega arith))

-- ---- hopCount

-- the hop that is read is byte 29
pub hop_number : (s : List ℕ) (f : Fields) → read_of s ≡ Ok f → f.hop ≡ number_at s 29 1
unfolding parted
hop_number s f e = ap (λ (g : Fields). g.hop) (sym (reading s f e).1)

-- ---- what a written frame is made of, and where it has its grand time, its version, its hopCount, its frameCount and its errorTime

-- bytes, where what follows it is
pub frame_bytes : (f : Fields) (t : List ℕ) → Bytes t → Bytes (bytes_of f t)
unfolding bytes_of
frame_bytes f t b = joined_bytes widths (values_of f) t b

-- the rows from k on, in the bytes of a frame
rows_from : (f : Fields) (t : List ℕ) (k : ℕ) → k ≤ 24 → drop (total (take k widths)) (bytes_of f t) ≡ joined (drop k widths) (drop k (values_of f)) t
unfolding bytes_of
rows_from f t k h = drop_joined widths (values_of f) t k h refl

-- the ten bytes from byte 32 on make the grand time
pub grand-bytes : (f : Fields) (t : List ℕ) → InRange f.grand → number_at (bytes_of f t) 32 10 ≡ units f.grand
unfolding joined
grand-bytes f t r =
    let s = number_bytes 5 f.grand.0 in
    let x = number_bytes 5 f.grand.1 in
    let rest = joined (drop 20 widths) (drop 20 (values_of f)) t in
    let both : length (s ++ x) ≡ 10 = length-append s x ∙ (λ i. length_digits 5 f.grand.0 i + length_digits 5 f.grand.1 i) in
    let value : onto 0 s ≡ f.grand.0 = value_digits 5 f.grand.0 r.seconds in
    ap (λ (l : List ℕ). onto 0 (take 10 l)) (rows_from f t 18 (lit≤ tt) ∙ sym (append_assoc s x rest))
    ∙ ap (onto 0) (take_at (s ++ x) rest 10 both)
    ∙ onto_append 0 s x
    ∙ ap (λ (v : ℕ). onto v x) value
    ∙ onto_split x f.grand.0
    ∙ (λ i. f.grand.0 * 256 ^ length_digits 5 f.grand.1 i + value_digits 5 f.grand.1 r.fraction i)

-- a row of n bytes makes its value
row_value : (n v : ℕ) (rest : List ℕ) → v < 256 ^ n → onto 0 (take n (number_bytes n v ++ rest)) ≡ v
row_value n v rest h = ap (onto 0) (take_at (number_bytes n v) rest n (length_digits n v)) ∙ value_digits n v h

-- byte 15 is the version
pub version_byte : (f : Fields) (t : List ℕ) → f.version < 256 → number_at (bytes_of f t) 15 1 ≡ f.version
unfolding joined
version_byte f t h = ap (λ (l : List ℕ). onto 0 (take 1 l)) (rows_from f t 9 (lit≤ tt)) ∙ row_value 1 f.version (joined (drop 10 widths) (drop 10 (values_of f)) t) h

-- byte 29 is the hopCount
pub hop_byte : (f : Fields) (t : List ℕ) → f.hop < 256 → number_at (bytes_of f t) 29 1 ≡ f.hop
unfolding joined
hop_byte f t h = ap (λ (l : List ℕ). onto 0 (take 1 l)) (rows_from f t 15 (lit≤ tt)) ∙ row_value 1 f.hop (joined (drop 16 widths) (drop 16 (values_of f)) t) h

-- byte 30 is the frameCount
pub count_byte : (f : Fields) (t : List ℕ) → f.count < 256 → number_at (bytes_of f t) 30 1 ≡ f.count
unfolding joined
count_byte f t h = ap (λ (l : List ℕ). onto 0 (take 1 l)) (rows_from f t 16 (lit≤ tt)) ∙ row_value 1 f.count (joined (drop 17 widths) (drop 17 (values_of f)) t) h

-- the four bytes from byte 60 on make the 32 bits of errorTime
pub error-bytes : (f : Fields) (t : List ℕ) → f.error.0 < 2 ^ 32 → number_at (bytes_of f t) 60 4 ≡ f.error.0
unfolding joined
error-bytes f t h = ap (λ (l : List ℕ). onto 0 (take 4 l)) (rows_from f t 23 (lit≤ tt)) ∙ row_value 4 f.error.0 t h
