-- Whole lines one after the other: the first is held, and those after it are cut out of the bytes.
use mathlib.Core.Path.{◌≡◌, refl, sym, ap, ◌∙◌}
use mathlib.Core.Bool.{Bool, true, false, cond}
use mathlib.Core.Logic.{◌⊎◌, ⊎_elim}
use mathlib.Core.List.{List, [], ◌∷◌, ◌++◌, append-nil}
use Prim.Native.Nat.{ℕ, ◌+◌, ◌-◌, ◌<◌, ◌≤◌}
use native.Mathlib.Omega.{arith}
use borrow.Rule.Slice.PartMut.{same_len_mid}
use lib.Dec.{eqb}
use lib.ListN.{length, take, drop, length-take, length-drop}
use lib.Seq.{drop-drop, take-length}
use Rattle.hexadecimal.specs.Search.{up_to}
use Rattle.hexadecimal.specs.Character.{newline}
use Rattle.bridge.specs.State.{Lawful}
use Rattle.bridge.specs.declared.Bridge.{Bridge}
use Rattle.columns.specs.Columns.{longest_answer, Prints}
use Rattle.answer.specs.Answer.{Answer}
use Rattle.session_programs.specs.Programs.{Rules}
use Rattle.session.specs.Lines.{part, line_end, Fed, saying, ended, fed_of, shown_of, Ends}
use Rattle.session.proofs.FedLaws.{printed, answered, line_fed, more_fed}

-- nothing stands before the mark where the mark stands
up_mark : (mark : ℕ) (s : List ℕ) → length (up_to mark s) < length s → up_to mark (drop (length (up_to mark s)) s) ≡ []
unfolding up_to
up_mark mark [] h = absurd (omega arith)
up_mark mark (c ∷ s) h = go (up_mark mark s) (eqb c mark) refl h
  where
    go : (length (up_to mark s) < length s → up_to mark (drop (length (up_to mark s)) s) ≡ [])
        → (e : Bool) → eqb c mark ≡ e → let u = cond e [] (c ∷ up_to mark s) in length u < length (c ∷ s) → up_to mark (drop (length u) (c ∷ s)) ≡ []
    go rest true e k = rw e refl
    go rest false e k = rest (omega arith)

-- so a line that starts at its newline ends there
end_stays : (bytes : List ℕ) (from : ℕ) → line_end bytes from < length bytes → line_end bytes (line_end bytes from) ≡ line_end bytes from
end_stays bytes from h =
    let n = length (up_to newline (drop from bytes)) in
    let none = ap (up_to newline) (sym (drop-drop n from bytes)) ∙ up_mark newline (drop from bytes) (rw (length-drop from bytes) (omega arith)) in
    omega (arith, ap length none)

-- ---- the line that is shown

pub shown_fresh : (held fresh : List ℕ) → length held ≡ 0 → fresh ≡ shown_of held fresh
shown_fresh [] fresh e = refl
shown_fresh (c ∷ held) fresh e = absurd (omega arith)

-- what is held is shown, where the line of the bytes is empty with it
pub shown_held : (held fresh : List ℕ) → (held ≡ [] → fresh ≡ []) → shown_of held fresh ≡ held
shown_held [] fresh f = f refl
shown_held (c ∷ held) fresh f = refl

-- ---- what is printed for a line

-- a line that is answered with `want`, n bytes of the output being filled: the state after it, the output, and how much of it is filled then
pub record Adds (want : Answer) (out : List ℕ) (n : ℕ) (b₁ : Bridge) (out₁ : List ℕ) (n₁ : ℕ) : Type 0 where
  pub state : b₁ ≡ want.next
  pub lawful : Lawful b₁
  pub text : take n₁ out₁ ≡ take n out ++ want.text
  pub same : length out₁ ≡ length out
  pub fits : n₁ ≤ length out₁

-- where it is printed in the rest of the output
pub adds : (want : Answer) (out was lent : List ℕ) (n len : ℕ) (b₁ : Bridge) →
    let k = length out - n in
    n ≤ length out → longest_answer ≤ k → length lent ≡ length (take k (drop n out)) → b₁ ≡ want.next → Lawful b₁ → Prints want.text len was lent
    → Adds want out n b₁ (take n out ++ (lent ++ drop k (drop n out))) (n + len)
adds want out was lent n len b₁ h room same e l p =
    let whole = same_len_mid n (length out - n) out lent same in
    record { state = e; lawful = l; text = printed out _ _ lent _ n len h p.size p.bytes; same = whole; fits = omega (arith, whole, p.fits) }

-- ---- line by line

-- where the lines stand: none is answered yet and the first is held, or one was and nothing is held
abbrev pub Stands : List ℕ → List ℕ → ℕ → ℕ → ℕ → ℕ → Type 0
Stands kept bytes from held n start = ((held ≡ length kept) × (n ≡ 0) × (start ≡ from)) ⊎ ((held ≡ 0) × (line_end bytes from < start))

-- so the next starts after the first
pub next_after : (kept bytes : List ℕ) (from held n start : ℕ) → Stands kept bytes from held n start → line_end bytes from < line_end bytes start + 1
next_after kept bytes from held n start w = ⊎_elim (λ x. omega (arith, ap (line_end bytes) x.2)) (λ x. omega (arith, x.1)) w

module _ (p : Rules) (b : Bridge) (kept bytes : List ℕ) (from : ℕ) where
  -- where the kept line ends
  abbrev first : ℕ
  first = line_end bytes from

  -- what the bytes from there on lead to and print, up to a place
  abbrev before : ℕ → Fed
  before to = fed_of p b kept (part bytes first to)

  -- with a line left and a text printed
  abbrev pub Goes : ℕ → ℕ → Bridge → List ℕ → Type 0
  Goes held start b₁ t₁ = before start ≡ record { next = b₁; line = take held kept; text = t₁ }

  -- no line
  pub lines_none : Goes (length kept) from b []
  unfolding fed_of
  lines_none =
      let z : from - first ≡ 0 = omega arith in
      rw (z, take-length kept) refl

  -- and one more
  module _ (ends : Ends kept bytes from) (b₁ b₂ : Bridge) (shown t₁ t₂ : List ℕ) (held n start end : ℕ) (e : end ≡ line_end bytes start) (k : end < length bytes)
      (d : Goes held start b₁ t₁) (s : shown ≡ shown_of (take held kept) (part bytes start end))
      (m : b₂ ≡ (p.answer b₁ shown).next) (t : t₂ ≡ t₁ ++ (p.answer b₁ shown).text) where
    -- from the place where what is held goes on
    line_at : (at : ℕ) → first ≤ at → before at ≡ before start → end ≡ line_end bytes at → take held kept ++ part bytes at end ≡ shown → before (end + 1) ≡ ended b₂ t₂
    line_at at f same e₁ whole =
        more_fed p b b₁ kept (take held kept) bytes t₁ first at (end + 1) f (omega arith) (same ∙ d)
        ∙ ap (saying t₁) (line_fed p b₁ (take held kept) bytes at end e₁ k ∙ ap (λ (x : List ℕ). answered (p.answer b₁ x)) whole)
        ∙ (λ i. ended (sym m i) (sym t i))

    -- the held line goes on at its newline
    held_line : held ≡ length kept → start ≡ from → before (end + 1) ≡ ended b₂ t₂
    held_line l f =
        let at_first : end ≡ first = e ∙ ap (line_end bytes) f in
        let nothing : first - first ≡ start - first = omega arith in
        let none : end - first ≡ 0 = omega arith in
        line_at first (omega arith) (ap (λ (i : ℕ). fed_of p b kept (take i (drop first bytes))) nothing) (at_first ∙ sym (end_stays bytes from ends.inside))
        (rw none (append-nil (take held kept)) ∙ sym (s ∙ shown_held (take held kept) (part bytes start end) (λ z. let w : end - start ≡ 0 = omega (arith, ends.empty (omega (arith, ap length z, length-take held kept))) in rw w refl)))

    -- one that is cut out of the bytes goes on at its start
    cut_line : held ≡ 0 → first < start → before (end + 1) ≡ ended b₂ t₂
    cut_line z f =
        let fresh = part bytes start end in
        line_at start (omega arith) refl e (ap (λ (i : ℕ). take i kept ++ fresh) z ∙ sym (s ∙ ap (λ (i : ℕ). shown_of (take i kept) fresh) z))

    pub lines_on : Stands kept bytes from held n start → Goes 0 (end + 1) b₂ t₂
    lines_on w = ⊎_elim (λ x. held_line x.0 x.2) (λ x. cut_line x.0 x.1) w

  -- once one is answered, the last has ended
  pub lines_end : (b₁ : Bridge) (t₁ : List ℕ) (held n start : ℕ) → Stands kept bytes from held n start → (n ≡ 0 → start ≡ from → ⊥) → Goes held start b₁ t₁
      → (before start ≡ ended b₁ t₁) × (first < start)
  lines_end b₁ t₁ held n start w f d =
      ⊎_elim (λ x. absurd (f x.1 x.2)) (λ x. (d ∙ ap (λ (i : ℕ). record { next = b₁; line = take i kept; text = t₁ }) x.0, x.1)) w
