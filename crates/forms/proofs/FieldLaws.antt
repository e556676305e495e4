-- Laws of one field: a number has at most 16 digits, and a field lies within its text, its room and its kind's most.
use mathlib.Core.Path.{◌≡◌, refl, sym, ap, ◌∙◌}
use mathlib.Core.Bool.{Bool, true, false, cond, true≢false}
use Prim.Native.Nat.{ℕ, suc, ◌+◌, ◌*◌, ◌-◌, ◌/◌, ◌%◌, ◌<◌, ◌≤◌}
use mathlib.Core.List.{List, [], ◌∷◌}
use native.Mathlib.Numerals.{add-one}
use native.Mathlib.Omega.{arith}
use lib.Dec.{ltb, leb, eqb}
use lib.ListN.{length, take, drop}
use borrow.Author.Tests.{ltb-false, leb-true}
use Rattle.hexadecimal.specs.Digit.{all_digits, worth}
use Rattle.hexadecimal.specs.Search.{up_to, found_at}
use Rattle.hexadecimal.proofs.SearchLaws.{up_taken, found_within}
use Rattle.forms.specs.Field.{most_digits, rule_of, is_mark, are_digits, content_field, bytes_field, number_field, ruled_field, field_of, field_at}
use Rattle.hexadecimal.specs.Character.{space}
use Rattle.std.proofs.Common.{Option, Some}
use Rattle.std.specs.Prelude.{IfSome}
use Rattle.forms.specs.declared.kind.Kind.{Kind}
use Rattle.forms.specs.declared.kind.Kind.TheVariants.{Byte, Number, NumberOrDefault, DelayOrMeasured, Flag, Length, Bytes, Exactly}
use Rattle.forms.specs.declared.field.Content.{Content}
use Rattle.forms.specs.declared.field.Content.TheVariants.{UpTo, WholeBytes}
use Rattle.forms.specs.declared.field.Rule.{Rule}
use Rattle.forms.specs.declared.field.Field.{Field}

-- what holds of both, of the first where the test holds, holds of the one that is chosen
pub either : {A : Type 0} (P : A → Type 0) (b : Bool) {x y : A} → (b ≡ true → P x) → P y → P (cond b x y)
either P true p q = p refl
either P false p q = q

-- ---- a number has at most 16 digits

short : (kind : Kind) {greatest : ℕ} → (rule_of kind).content ≡ UpTo greatest → (rule_of kind).most ≤ most_digits
unfolding rule_of
short Byte e = omega arith
short Number e = omega arith
short NumberOrDefault e = omega arith
short DelayOrMeasured e = omega arith
short Flag e = omega arith
short Length e = omega arith
short Bytes e = absurd (cc)
short (Exactly n) e = absurd (cc)

at_most : (f : List ℕ) (fewest most : ℕ) → are_digits f fewest most ≡ true → length f ≤ most
unfolding are_digits
at_most f fewest most = go (ltb (length f) fewest) (ltb most (length f)) refl
  where
    go : (a b : Bool) → ltb most (length f) ≡ b → cond a false (cond b false (all_digits f)) ≡ true → length f ≤ most
    go true b e p = absurd (true≢false (sym p))
    go false true e p = absurd (true≢false (sym p))
    go false false e p = ltb-false most (length f) e

pub number_digits : (kind : Kind) (f : List ℕ) {r : Rule} {greatest : ℕ} → r ≡ rule_of kind → r.content ≡ UpTo greatest → are_digits f r.fewest r.most ≡ true → length f ≤ most_digits
number_digits kind f {r} e b d = omega (arith, at_most f r.fewest r.most d, short kind (ap (λ (x : Rule). x.content) (sym e) ∙ b), ap (λ (x : Rule). x.most) e)

-- ---- a field within its text

-- what is cut out after a space is the field
pub field_taken : (s : List ℕ) (from to : ℕ) → to ≡ found_at space s (from + 1) → take (to - (from + 1)) (drop (from + 1) s) ≡ up_to space (drop (suc from) s)
field_taken s from to e =
    let rest = drop (from + 1) s in
    let n : to - (from + 1) ≡ length (up_to space rest) = omega arith in
    ap (λ (k : ℕ). take k rest) n ∙ up_taken space rest ∙ ap (λ (k : ℕ). up_to space (drop k s)) (add-one from)

-- the greatest number of a rule, or the most bytes
abbrev pub most_content : Content → ℕ → ℕ
most_content (UpTo greatest) most = greatest
most_content WholeBytes most = most / 2

abbrev pub most_of : Rule → ℕ
most_of r = most_content r.content r.most

-- a field with its space lies within n characters, has two digits for each byte and room for its bytes, and its number is at most this
pub record Within (room n most : ℕ) (x : Field) : Type 0 where
  pub inside : x.width < n
  pub digits : x.size * 2 ≤ x.width
  pub fits : x.size ≤ room
  pub small : x.number ≤ most

abbrev Sound : ℕ → ℕ → ℕ → Option Field → Type 0
Sound room n most o = IfSome o (λ x. Within room n most x)

digits_sound : (room n most : ℕ) (content : Content) (f : List ℕ) → length f < n → length f ≤ most → Sound room n (most_content content most) (content_field content room f)
unfolding number_field bytes_field
digits_sound room n most (UpTo greatest) f h m =
    either (Sound room n greatest) (leb (worth 0 f) greatest) (λ t. record { inside = h; digits = omega arith; fits = omega arith; small = leb-true (worth 0 f) greatest t }) tt
digits_sound room n most WholeBytes f h m =
    let P = Sound room n (most / 2) in
    either P (eqb (length f % 2) 0)
    (λ e. either P (leb (length f / 2) room) (λ t. record { inside = h; digits = omega arith; fits = leb-true (length f / 2) room t; small = omega arith }) tt) tt

ruled_sound : (r : Rule) (room n : ℕ) (f : List ℕ) → length f < n → Sound room n (most_of r) (ruled_field r room f)
ruled_sound r room n f h =
    let P = Sound room n (most_of r) in
    either P (is_mark f r.mark) (λ m. record { inside = h; digits = omega arith; fits = omega arith; small = omega arith })
    (either P (are_digits f r.fewest r.most) (λ d. digits_sound room n r.most r.content f h (at_most f r.fewest r.most d)) tt)

sound : (kind : Kind) (room : ℕ) (s : List ℕ) → Sound room (length s) (most_of (rule_of kind)) (field_at kind room s)
unfolding field_at field_of
sound kind room [] = tt
sound kind room (c ∷ s) =
    let n = suc (length s) in
    either (Sound room n (most_of (rule_of kind))) (eqb c space)
    (λ t. ruled_sound (rule_of kind) room n (up_to space s) (omega (arith, found_within space s 0 (omega arith))))
    tt

pub within : (kind : Kind) (room : ℕ) (s : List ℕ) {x : Field} → Some x ≡ field_at kind room s → Within room (length s) (most_of (rule_of kind)) x
within kind room s e = (rw (← e) at (sound kind room s))
