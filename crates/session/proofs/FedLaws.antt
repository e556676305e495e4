-- Laws of lines one after the other, and of what is kept of a line.
use mathlib.Core.Path.{◌≡◌, refl, sym, ap, ◌∙◌}
use mathlib.Core.Bool.{Bool, true, false, cond}
use mathlib.Core.List.{List, [], ◌∷◌, ◌++◌, append-nil, append_assoc}
use Prim.Native.Nat.{ℕ, zero, suc, ◌+◌, ◌-◌, ◌<◌, ◌≤◌, min}
use native.Mathlib.Omega.{arith}
use borrow.Author.Tests.{ltb-true, ltb-false}
use lib.Dec.{ltb, eqb}
use lib.ListN.{length, take, drop, length-append, length-take, length-drop}
use native.Mathlib.Nat.{lt_of_not-le}
use native.Mathlib.Decide.{dec_le}
use lib.Seq.{drop-drop, take-add, take-append-add, append_snoc, take_all, take_at, length-take-le}
use Rattle.bridge.specs.declared.Bridge.{Bridge}
use Rattle.hexadecimal.specs.Search.{up_to, found_at}
use Rattle.answer.specs.Answer.{Answer}
use Rattle.replay_grammar.specs.Line.{longest_line}
use Rattle.session_programs.specs.Programs.{Rules, ProgramLaws}
use Rattle.session.specs.Lines.{kept_bytes, part, Fed, left, saying, ended, fed_of, kept_text}
use Rattle.hexadecimal.specs.Character.{newline}
use Rattle.hexadecimal.proofs.SearchLaws.{up_taken}

-- ---- lists

-- a part is its own parts
pub parts : (s : List ℕ) (from mid to : ℕ) → from ≤ mid → mid ≤ to → part s from to ≡ part s from mid ++ part s mid to
parts s from mid to h k =
    let n : to - from ≡ mid - from + (to - mid) = omega arith in
    let m : from + (mid - from) ≡ mid = omega arith in
    ap (λ (i : ℕ). take i (drop from s)) n
    ∙ take-add (mid - from) (to - mid) (drop from s)
    ∙ ap (λ (x : List ℕ). part s from mid ++ take (to - mid) x) (drop-drop (mid - from) from s ∙ ap (λ (i : ℕ). drop i s) m)

-- what is printed after n bytes of the output
pub printed : (out text rest lent post : List ℕ) (n len : ℕ) → n ≤ length out → len ≡ length text → lent ≡ text ++ rest
    → take (n + len) (take n out ++ (lent ++ post)) ≡ take n out ++ text
printed out text rest lent post n len h l e =
    rw (e, append_assoc text rest post, ← append_assoc (take n out) text (rest ++ post))
    (take_at (take n out ++ text) (rest ++ post) (n + len) (rw (length-append, length-take-le n out h) (omega arith)))

-- what is cut twice is cut once
pub cut_twice : (n : ℕ) (s t : List ℕ) → take n (take n s ++ t) ≡ take n (s ++ t)
cut_twice zero s t = refl
cut_twice (suc n) [] t = refl
cut_twice (suc n) (c ∷ s) t = ap (λ (x : List ℕ). c ∷ x) (cut_twice n s t)

-- ---- what is kept

-- as much more as there is room for
pub kept_more : (text more part tail : List ℕ) (len n : ℕ) → len ≤ kept_bytes → length text ≡ kept_bytes → n ≡ min (length more) (kept_bytes - len) → part ≡ take n more
    → take (len + n) (take len text ++ (part ++ tail)) ≡ kept_text (take len text) more
kept_more text more part tail len n h l e p =
    let was = take len text in
    let k : length was ≡ len = length-take-le len text (omega arith) in
    let m : n ≤ length more = omega arith in
    let whole : length (was ++ part) ≡ len + n = rw (p, length-append, k, length-take-le n more m) refl in
    let z : length was + (kept_bytes - len) ≡ kept_bytes = omega arith in
    ap (take (len + n)) (sym (append_assoc was part tail))
    ∙ take_at (was ++ part) tail (len + n) whole
    ∙ ap (λ (x : List ℕ). was ++ x) (p ∙ as_much (dec_le (length more) (kept_bytes - len)))
    ∙ sym (take-append-add was more (kept_bytes - len))
    ∙ ap (λ (i : ℕ). take i (was ++ more)) z
  where
    as_much : Dec (length more ≤ kept_bytes - len) → take n more ≡ take (kept_bytes - len) more
    as_much (yes x) = take_all n more (omega arith) ∙ sym (take_all (kept_bytes - len) more x)
    as_much (no x) = let y : n ≡ kept_bytes - len = omega (arith, lt_of_not-le x) in rw y refl

pub kept_length : (text more : List ℕ) (len n : ℕ) → len ≤ kept_bytes → length text ≡ kept_bytes → n ≡ min (length more) (kept_bytes - len)
    → len + n ≡ length (kept_text (take len text) more)
kept_length text more len n h l e = rw (length-take, length-append, length-take-le len text (omega arith)) (omega arith)

-- where nothing is kept, there was nothing
pub kept_empty : (was bytes : List ℕ) (from end : ℕ) → from ≤ end → end ≤ length bytes → length (kept_text was (part bytes from end)) ≡ 0 → end ≡ from
kept_empty was bytes from end h k e = omega (arith, rw (length-take, length-append, length-take, length-drop) at e)

-- ---- lines one after the other

abbrev until_newline : List ℕ → List ℕ
until_newline s = up_to newline s

-- the one line of an answer
abbrev pub answered : Answer → Fed
answered a = ended a.next a.text

module _ (p : Rules) where
  -- ---- one part of the bytes after the other

  -- what holds of both ways on holds whichever is taken
  pub both_ways : (P : Fed → Fed → Type 0) (f₁ f₂ g₁ g₂ : Fed) → P f₁ g₁ → P f₂ g₂ → (x : Bool) → P (cond x f₁ f₂) (cond x g₁ g₂)
  both_ways P f₁ f₂ g₁ g₂ h k true = h
  both_ways P f₁ f₂ g₁ g₂ h k false = k

  -- what the bytes of s leave, the bytes of t go on from
  abbrev Joins : List ℕ → Fed → Fed → Type 0
  Joins t whole first = whole ≡ saying first.text (fed_of p first.next first.line t)

  said_twice : (t u : List ℕ) (f : Fed) → saying t (saying u f) ≡ saying (t ++ u) f
  said_twice t u f =
      let e = sym (append_assoc t u f.text) in
      λ i. record { next = f.next; line = f.line; text = e i }

  pub fed_parts : (s t line : List ℕ) (b : Bridge) → Joins t (fed_of p b line (s ++ t)) (fed_of p b line s)
  unfolding fed_of
  fed_parts [] t line b = refl
  fed_parts (c ∷ s) t line b =
      let a = p.answer b line in
      let more = line ++ (c ∷ []) in
      let f = fed_of p a.next [] s in
      both_ways (Joins t) (saying a.text (fed_of p a.next [] (s ++ t))) (fed_of p b more (s ++ t)) (saying a.text f) (fed_of p b more s)
      (ap (saying a.text) (fed_parts s t [] a.next) ∙ said_twice a.text f.text (fed_of p f.next f.line t))
      (fed_parts s t more b) (eqb c newline)

  -- the first line of the bytes
  fed_line : (s line : List ℕ) (b : Bridge) → length (until_newline s) < length s
      → fed_of p b line (take (suc (length (until_newline s))) s) ≡ answered (p.answer b (line ++ until_newline s))
  unfolding fed_of up_to
  fed_line [] line b h = absurd (omega arith)
  fed_line (c ∷ s) line b h = go (fed_line s (line ++ (c ∷ [])) b) (eqb c newline) h
    where
      go : (length (until_newline s) < length s → fed_of p b (line ++ (c ∷ [])) (take (suc (length (until_newline s))) s) ≡ answered (p.answer b (line ++ (c ∷ []) ++ until_newline s)))
          → (e : Bool) → let u = cond e [] (c ∷ until_newline s) in length u < length (c ∷ s)
          → cond e (saying (p.answer b line).text (fed_of p (p.answer b line).next [] (take (length u) s))) (fed_of p b (line ++ (c ∷ [])) (take (length u) s))
          ≡ answered (p.answer b (line ++ u))
      go rest true k = ap (ended (p.answer b line).next) (append-nil (p.answer b line).text) ∙ ap (λ (x : List ℕ). answered (p.answer b x)) (sym (append-nil line))
      go rest false k = rest (omega arith) ∙ ap (λ (x : List ℕ). answered (p.answer b x)) (append_snoc line c (until_newline s))

  -- and before its newline
  fed_rest : (s line : List ℕ) (b : Bridge) → fed_of p b line (until_newline s) ≡ left b (line ++ until_newline s)
  unfolding fed_of up_to
  fed_rest [] line b = ap (left b) (sym (append-nil line))
  fed_rest (c ∷ s) line b = go (fed_rest s (line ++ (c ∷ [])) b) (eqb c newline) refl
    where
      go : fed_of p b (line ++ (c ∷ [])) (until_newline s) ≡ left b (line ++ (c ∷ []) ++ until_newline s)
          → (e : Bool) → eqb c newline ≡ e → fed_of p b line (cond e [] (c ∷ until_newline s)) ≡ left b (line ++ cond e [] (c ∷ until_newline s))
      go rest true k = ap (left b) (sym (append-nil line))
      go rest false k = rw k (rest ∙ ap (left b) (append_snoc line c (until_newline s)))

  -- ---- the same of places in the bytes

  module _ (b : Bridge) (line bytes : List ℕ) (from end : ℕ) (e : end ≡ found_at newline bytes from) where
    size : end - from ≡ length (until_newline (drop from bytes))
    size = omega arith

    until_end : until_newline (drop from bytes) ≡ part bytes from end
    until_end = sym (rw size (up_taken newline (drop from bytes)))

    -- the line that ends at a place, with its newline and without
    pub line_fed : end < length bytes → fed_of p b line (part bytes from (end + 1)) ≡ answered (p.answer b (line ++ part bytes from end))
    line_fed h =
        let n : end + 1 - from ≡ suc (length (until_newline (drop from bytes))) = omega (arith, size) in
        ap (λ (k : ℕ). fed_of p b line (take k (drop from bytes))) n
        ∙ fed_line (drop from bytes) line b (rw (length-drop from bytes) (omega arith))
        ∙ ap (λ (x : List ℕ). answered (p.answer b (line ++ x))) until_end

    pub rest_fed : fed_of p b line (part bytes from end) ≡ left b (line ++ part bytes from end)
    rest_fed = rw (← until_end) (fed_rest (drop from bytes) line b)

  -- one part and then the next
  pub more_fed : (b b₁ : Bridge) (line line₁ bytes t₁ : List ℕ) (from mid to : ℕ) → from ≤ mid → mid ≤ to
      → fed_of p b line (part bytes from mid) ≡ record { next = b₁; line = line₁; text = t₁ }
      → fed_of p b line (part bytes from to) ≡ saying t₁ (fed_of p b₁ line₁ (part bytes mid to))
  more_fed b b₁ line line₁ bytes t₁ from mid to h k e =
      ap (fed_of p b line) (parts bytes from mid to h k)
      ∙ fed_parts (part bytes from mid) (part bytes mid to) line b
      ∙ ap (λ (x : Fed). saying x.text (fed_of p x.next x.line (part bytes mid to))) e

  -- ---- a line that is too long

  -- is answered as every such line, so what is kept of a line is answered as the whole line is
  pub kept_answers : ProgramLaws p → (b : Bridge) (line : List ℕ) → p.answer b (take kept_bytes line) ≡ p.answer b line
  kept_answers laws b line = by (ltb longest_line (length line)) refl
    where
      by : (long : Bool) → ltb longest_line (length line) ≡ long → p.answer b (take kept_bytes line) ≡ p.answer b line
      by true e =
          let h = ltb-true longest_line (length line) e in
          let k : longest_line < length (take kept_bytes line) = rw (length-take kept_bytes line) (omega (arith, h)) in
          laws.long_alike b (take kept_bytes line) line k h
      by false e = ap (p.answer b) (take_all kept_bytes line (omega (arith, ltb-false longest_line (length line) e)))
