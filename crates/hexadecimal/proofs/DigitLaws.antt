-- Laws of digits: the value in each range of characters, how long a text of n digits is, and one character more for each loop.
use Rattle.std.proofs.Common.{◌≡◌, ℕ, suc, ◌+◌, ◌-◌, ◌*◌, ◌%◌, ◌^◌, ◌<◌, ◌≤◌, Bool, true, false, cond, eqb, ltb, List, [], ◌∷◌, ◌++◌, length, get_or, take, drop, set, sym, refl, ap, ◌∙◌, true≢false, inl, inr, ◌⊎◌, append-nil, lt_of_lt_of_le, pow-suc, lt_of_not-le, add-one, arith, lit<, drop-cons, le-ltb, lt-ltb, ne_eqb, eqb-true, le-leb}
use native.Mathlib.Nat.{pow-le-pow_right}
use native.Mathlib.Decide.{dec_le}
use lib.Arith.{digits_lt}
use lib.Seq.{append_snoc, take-suc-set, take-length, drop-length}
use borrow.Author.Tests.{lt-leb}
use Rattle.std.specs.Ordering.{ord_max, nat_cmp}
use Rattle.std.specs.Cmp.{nat_cmp_is}
use Rattle.std.specs.declared.cmp.Ordering.TheVariants.{Less, Equal, Greater}
use Rattle.numbers.proofs.Branches.{if_false}
use Rattle.hexadecimal.specs.Digit.{no_digit, within, value_of, is_digit, all_digits, exactly, worth, byte_of, pairs}

-- ---- the value of a character

inside : (a b c : ℕ) → a ≤ c → c ≤ b → within a b c ≡ true
inside a b c h k = rw (le-leb a c h) (le-leb c b k)

outside : (a b c : ℕ) → (a ≤ c → c ≤ b → ⊥) → within a b c ≡ false
outside a b c f = go (dec_le a c) (dec_le c b)
  where
    go : Dec (a ≤ c) → Dec (c ≤ b) → within a b c ≡ false
    go (no h) k = rw (lt-leb a c (lt_of_not-le h))
    go (yes h) (no k) = rw (le-leb a c h) (lt-leb c b (lt_of_not-le k))
    go (yes h) (yes k) = absurd (f h k)

pub value_decimal : (c : ℕ) → 48 ≤ c → c ≤ 57 → value_of c ≡ c - 48
unfolding value_of
value_decimal c h k = rw (inside 48 57 c h k)

pub value_capital : (c : ℕ) → 65 ≤ c → c ≤ 70 → value_of c ≡ c - 55
unfolding value_of
value_capital c h k = rw (outside 48 57 c (λ l m. omega arith), inside 65 70 c h k)

pub value_small : (c : ℕ) → 97 ≤ c → c ≤ 102 → value_of c ≡ c - 87
unfolding value_of
value_small c h k = rw (outside 48 57 c (λ l m. omega arith), outside 65 70 c (λ l m. omega arith), inside 97 102 c h k)

pub value_none : (c : ℕ) → (48 ≤ c → c ≤ 57 → ⊥) → (65 ≤ c → c ≤ 70 → ⊥) → (97 ≤ c → c ≤ 102 → ⊥) → value_of c ≡ no_digit
unfolding value_of
value_none c f g h = rw (outside 48 57 c f, outside 65 70 c g, outside 97 102 c h)

-- ---- a text of n digits

-- is n characters long
pub exactly_length : (n : ℕ) (s : List ℕ) → exactly n s ≡ true → length s ≡ n
unfolding exactly
exactly_length n s = by (eqb (length s) n) refl
  where
    by : (t : Bool) → eqb (length s) n ≡ t → cond t (all_digits s) false ≡ true → length s ≡ n
    by true k e = eqb-true _ _ k
    by false k e = absurd (true≢false (sym e))

-- and a longer text is none
pub exactly_long : (n : ℕ) (s : List ℕ) → n < length s → exactly n s ≡ false
unfolding exactly
exactly_long n s h = sym (if_false _ _ _ (ne_eqb _ _ (λ (e : length s ≡ n). omega arith)))

-- ---- the loops

-- one character more
pub all_next : (s : List ℕ) (i : ℕ) {b : Bool} → i < length s → is_digit (get_or s i 0) ≡ b → all_digits (drop i s) ≡ cond b (all_digits (drop (i + 1) s)) false
unfolding all_digits
all_next s i h e = ap all_digits (drop-cons s i 0 h) ∙ rw add-one (ap (λ (t : Bool). cond t (all_digits (drop (suc i) s)) false) e)

cond_false : (p : Bool) → cond p false false ≡ false
cond_false true = refl
cond_false false = refl

-- the greater of two values
greatest_of : (a b : ℕ) → (b < a × ord_max nat_cmp a b ≡ a) ⊎ (a ≤ b × ord_max nat_cmp a b ≡ b)
greatest_of a b = go (dec_le a b) (dec_le b a)
  where
    go : Dec (a ≤ b) → Dec (b ≤ a) → (b < a × ord_max nat_cmp a b ≡ a) ⊎ (a ≤ b × ord_max nat_cmp a b ≡ b)
    go (no h) k = inl (lt_of_not-le h, rw (← nat_cmp_is b a Less (lt_of_not-le h)) refl)
    go (yes h) (no k) = inr (h, rw (← nat_cmp_is b a Greater (lt_of_not-le k)) refl)
    go (yes h) (yes k) = inr (h, rw (← nat_cmp_is b a Equal (omega arith)) refl)

-- is a digit's where both are
greater_digit : (a b : ℕ) → ltb (ord_max nat_cmp a b) no_digit ≡ cond (ltb a no_digit) (ltb b no_digit) false
greater_digit a b = go (greatest_of a b) (dec_le no_digit a) (dec_le no_digit b)
  where
    go : (b < a × ord_max nat_cmp a b ≡ a) ⊎ (a ≤ b × ord_max nat_cmp a b ≡ b) → Dec (no_digit ≤ a) → Dec (no_digit ≤ b)
        → ltb (ord_max nat_cmp a b) no_digit ≡ cond (ltb a no_digit) (ltb b no_digit) false
    go (inl (h, e)) (yes k) l = rw (e, le-ltb a no_digit k)
    go (inl (h, e)) (no k) l = rw (e, lt-ltb a no_digit (lt_of_not-le k), lt-ltb b no_digit (omega (arith, lt_of_not-le k)))
    go (inr (h, e)) k (yes l) = rw (e, le-ltb b no_digit l) (sym (cond_false (ltb a no_digit)))
    go (inr (h, e)) k (no l) = rw (e, lt-ltb b no_digit (lt_of_not-le l), lt-ltb a no_digit (omega (arith, lt_of_not-le l)))

cond_nested : (p q r : Bool) → cond (cond p q false) r false ≡ cond p (cond q r false) false
cond_nested true q r = refl
cond_nested false q r = refl

pub cond_itself : (p : Bool) → cond p true false ≡ p
cond_itself true = refl
cond_itself false = refl

-- one character more, the greatest value so far being g
pub all_more : (s : List ℕ) (i g v r : ℕ) → i < length s → v ≡ value_of (get_or s i 0) → r ≡ ord_max nat_cmp g v
    → cond (ltb r no_digit) (all_digits (drop (i + 1) s)) false ≡ cond (ltb g no_digit) (all_digits (drop i s)) false
all_more s i g v r h e f =
    let rest = all_digits (drop (i + 1) s) in
    ap (λ (x : ℕ). cond (ltb x no_digit) rest false) f
    ∙ ap (λ (p : Bool). cond p rest false) (greater_digit g v)
    ∙ cond_nested (ltb g no_digit) (ltb v no_digit) rest
    ∙ ap (λ (p : Bool). cond (ltb g no_digit) p false) (sym (all_next s i h (ap (λ (x : ℕ). ltb x no_digit) (sym e))))

pub all_end : all_digits [] ≡ true
unfolding all_digits
all_end = refl

-- room for one digit more, and for 16
pub room : (i v d : ℕ) → v < 16 ^ i → d < 16 → v * 16 + d < 16 ^ (i + 1)
room i v d hv hd = rw (add-one, pow-suc) (digits_lt hv hd)

pub room16 : (i : ℕ) {v : ℕ} → v < 16 ^ i → i ≤ 16 → v < 2 ^ 64
room16 i hv hi = lt_of_lt_of_le hv (pow-le-pow_right (lit< tt) hi)

pub worth_next : (s : List ℕ) (i v : ℕ) → i < length s → worth (v * 16 + value_of (get_or s i 0) % 16) (drop (i + 1) s) ≡ worth v (drop i s)
unfolding worth
worth_next s i v h = rw (add-one, drop-cons s i 0)

pub worth_end : (v : ℕ) → worth v [] ≡ v
unfolding worth
worth_end v = refl

pub pairs_next : (s : List ℕ) (j : ℕ) → j * 2 + 1 < length s → pairs (drop (j * 2) s) ≡ byte_of (get_or s (j * 2) 0) (get_or s (j * 2 + 1) 0) ∷ pairs (drop (suc j * 2) s)
unfolding pairs
pairs_next s j h =
    let l : j * 2 < length s = omega arith in
    let e : suc (suc (j * 2)) ≡ suc j * 2 = omega arith in
    let m : suc (j * 2) < length s = omega arith in
    ap pairs (drop-cons s (j * 2) 0 l ∙ ap (λ (t : List ℕ). get_or s (j * 2) 0 ∷ t) (drop-cons s (suc (j * 2)) 0 m)) ∙ rw (add-one, e) refl

-- one byte more
pub pairs_step : (s out : List ℕ) (i b : ℕ) → i < length out → length s ≡ length out * 2 → b ≡ byte_of (get_or s (i * 2) 0) (get_or s (i * 2 + 1) 0)
    → take (i + 1) (set out i b) ++ pairs (drop ((i + 1) * 2) s) ≡ take i out ++ pairs (drop (i * 2) s)
pairs_step s out i b h l e =
    let m : i * 2 + 1 < length s = omega arith in
    rw (add-one, take-suc-set, pairs_next s i m, e) (append_snoc (take i out) (byte_of (get_or s (i * 2) 0) (get_or s (i * 2 + 1) 0)) (pairs (drop (suc i * 2) s)))

-- and the last
pub pairs_end : (s out : List ℕ) (i : ℕ) → i ≡ length out → length s ≡ length out * 2 → out ≡ take i out ++ pairs (drop (i * 2) s)
unfolding pairs
pairs_end s out i e l = rw (e, ← l, drop-length, take-length) (sym (append-nil out))
