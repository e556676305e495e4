-- What a caller may count on: where a text has a form, no number is more than its kind allows (a byte is below 256, a length or a count of bytes at most 128); and its bytes are 256.
use mathlib.Core.Path.{◌≡◌, refl, sym, ap, ◌∙◌}
use Prim.Native.Nat.{ℕ, zero, suc, ◌+◌, ◌-◌, ◌*◌, ◌<◌, ◌≤◌}
use mathlib.Core.List.{List, [], ◌∷◌}
use native.Mathlib.Omega.{arith}
use lib.Dec.{eqb}
use lib.ListN.{length, take, drop, get_or, length-set, length-drop}
use lib.Seq.{get_or-set_same, get_or-set_other, get_or-take, length-take-le}
use borrow.Rule.Slice.PartMut.{same_len_mid}
use Rattle.std.proofs.Common.{Option, Some, None}
use Rattle.std.specs.Prelude.{IfSome}
use Rattle.hexadecimal.specs.Digit.{pairs}
use Rattle.forms.specs.Field.{rule_of, field_at}
use Rattle.forms.specs.Form.{most_fields, buffer_bytes, kinds_of, Taken, nothing_taken, with_field, walk, form_of}
use Rattle.forms.specs.declared.kind.Kind.{Kind}
use Rattle.forms.specs.declared.kind.Kind.TheVariants.{Byte}
use Rattle.forms.specs.declared.field.Field.{Field}
use Rattle.forms.specs.declared.Form.{Form}
use Rattle.forms.proofs.FieldLaws.{either, most_of, within}
use Rattle.forms.proofs.FormLaws.{kinds_most}

-- what holds of nothing, and after each field, holds after a field that there may be
through : (P : Option Form → Type 0) (o : Option Field) {rest : Field → Option Form} → P None → ((x : Field) → Some x ≡ o → P (rest x)) → P (with_field o rest)
through P None n s = n
through P (Some x) n s = s x refl

-- what follows for each form follows for one that there may be
onward : {P Q : Form → Type 0} (o : Option Form) → ((f : Form) → P f → Q f) → IfSome o P → IfSome o Q
onward None s p = tt
onward (Some f) s p = s f p

-- ---- no number is more than its kind allows

-- the fields after the first i leave the numbers of those alone
kept : (kinds : List Kind) (text : List ℕ) (i : ℕ) (h : Taken) (j : ℕ) → j < i → IfSome (walk kinds text i h) (λ f. get_or f.numbers j 0 ≡ get_or h.numbers j 0)
unfolding walk
kept [] text i h j l = either (λ (o : Option Form). IfSome o (λ f. get_or f.numbers j 0 ≡ get_or h.numbers j 0)) (eqb (length text) 0) (λ e. refl) tt
kept (kind ∷ kinds) text i h j l =
    through (λ (o : Option Form). IfSome o (λ f. get_or f.numbers j 0 ≡ get_or h.numbers j 0)) (field_at kind (buffer_bytes - h.used) text) tt
    (λ x e. onward (walk kinds _ (i + 1) _) (λ f p. p ∙ get_or-set_other h.numbers i j x.number 0 (λ z. omega arith)) (kept kinds _ (i + 1) _ j (omega arith)))

-- the number of field n is one of its kind
abbrev pub Small : Kind → ℕ → Form → Type 0
Small kind n f = get_or f.numbers n 0 ≤ most_of (rule_of kind)

small : (kinds : List Kind) (text : List ℕ) (i j : ℕ) (h : Taken) → j < length kinds → i + j < length h.numbers → IfSome (walk kinds text i h) (λ f. Small (get_or kinds j Byte) (i + j) f)
unfolding walk
small [] text i j h l m = absurd (omega arith)
small (kind ∷ kinds) text i zero h l m =
    let z : i + 0 ≡ i = omega arith in
    through (λ (o : Option Form). IfSome o (λ f. Small kind (i + 0) f)) (field_at kind (buffer_bytes - h.used) text) tt
    (λ x e.
    onward (walk kinds _ (i + 1) _) (λ f p. rw (z, p, get_or-set_same h.numbers i x.number 0 (omega arith)) (within kind (buffer_bytes - h.used) text e).small)
    (kept kinds _ (i + 1) _ i (omega arith)))
small (kind ∷ kinds) text i (suc j) h l m =
    let z : i + suc j ≡ i + 1 + j = omega arith in
    through (λ (o : Option Form). IfSome o (λ f. Small (get_or kinds j Byte) (i + suc j) f)) (field_at kind (buffer_bytes - h.used) text) tt
    (λ x e. rw z (small kinds _ (i + 1) j _ (omega arith) (simp length-set (omega arith))))

-- of a form that is read by the row
pub form_most : (row : List Kind) (text : List ℕ) (i : ℕ) {x : Form} → Some x ≡ form_of row text → i < length (kinds_of row) → Small (get_or row i Byte) i x
unfolding form_of
form_most row text i e l =
    let z : 0 + i ≡ i = omega arith in
    rw (z, get_or-take most_fields row i Byte (omega (arith, kinds_most row)), ← e) at (small (kinds_of row) text 0 i nothing_taken l (omega (arith, kinds_most row)))

-- ---- the bytes are always 256

length_pairs : (s : List ℕ) (n : ℕ) → length s ≡ n * 2 → length (pairs s) ≡ n
unfolding pairs
length_pairs [] n e = omega arith
length_pairs (a ∷ []) n e = absurd (omega arith)
length_pairs (a ∷ b ∷ s) zero e = absurd (omega arith)
length_pairs (a ∷ b ∷ s) (suc n) e = ap suc (length_pairs s n (omega arith))

whole : (kinds : List Kind) (text : List ℕ) (i : ℕ) (h : Taken) → h.used ≤ buffer_bytes → length h.bytes ≡ buffer_bytes
    → IfSome (walk kinds text i h) (λ f. length f.bytes ≡ buffer_bytes)
unfolding walk
whole [] text i h u s = either (λ (o : Option Form). IfSome o (λ f. length f.bytes ≡ buffer_bytes)) (eqb (length text) 0) (λ e. s) tt
whole (kind ∷ kinds) text i h u s =
    let part = drop h.used h.bytes in
    through (λ (o : Option Form). IfSome o (λ f. length f.bytes ≡ buffer_bytes)) (field_at kind (buffer_bytes - h.used) text) tt
    (λ x e.
    let digits = take (x.size * 2) (drop 1 text) in
    let w = within kind (buffer_bytes - h.used) text e in
    let n = length_pairs digits x.size (length-take-le (x.size * 2) (drop 1 text) (omega (arith, length-drop 1 text))) in
    let m = length-take-le x.size part (omega (arith, length-drop h.used h.bytes)) in
    whole kinds _ (i + 1) _ (omega arith) (same_len_mid h.used x.size h.bytes (pairs digits) (n ∙ sym m) ∙ s))

pub form_bytes : (row : List Kind) (text : List ℕ) {x : Form} → Some x ≡ form_of row text → length x.bytes ≡ buffer_bytes
unfolding form_of
form_bytes row text e = rw (← e) at (whole (kinds_of row) text 0 nothing_taken (omega arith) refl)
