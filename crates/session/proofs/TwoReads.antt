-- However the reads cut the input, its lines lead to the same state and print the same: two reads leave and print what one read of both does.
use mathlib.Core.Path.{◌≡◌, refl, sym, ap, ◌∙◌}
use mathlib.Core.List.{List, [], ◌∷◌, ◌++◌}
use Prim.Native.Nat.{ℕ, ◌-◌, ◌≤◌}
use native.Mathlib.Omega.{arith}
use lib.Dec.{eqb}
use lib.ListN.{length, take, length-take}
use lib.Seq.{take_all, take-take}
use Rattle.bridge.specs.declared.Bridge.{Bridge}
use Rattle.answer.specs.Answer.{Answer}
use Rattle.session_programs.specs.Programs.{Rules, ProgramLaws}
use Rattle.session.specs.Lines.{kept_bytes, part, Fed, saying, fed_of}
use Rattle.session.specs.Session.{line_of, Ready, Leaves, Turned}
use Rattle.hexadecimal.specs.Character.{newline}
use Rattle.session.specs.declared.Progress.{Progress}
use Rattle.session.specs.declared.Session.{Session}
use Rattle.session.proofs.FedLaws.{parts, both_ways, fed_parts, cut_twice, kept_answers}

-- two outcomes of which the same is kept
abbrev Same : Fed → Fed → Type 0
Same f g = (f.next ≡ g.next) × (take kept_bytes f.line ≡ take kept_bytes g.line) × (f.text ≡ g.text)

-- lines of which the same is kept lead to the same
kept_leads : (p : Rules) → ProgramLaws p → (s l m : List ℕ) (b : Bridge) → take kept_bytes l ≡ take kept_bytes m → Same (fed_of p b l s) (fed_of p b m s)
unfolding fed_of
kept_leads p laws [] l m b e = (refl, e, refl)
kept_leads p laws (c ∷ s) l m b e =
    let after : Answer → Fed = λ a. saying a.text (fed_of p a.next [] s) in
    let same = ap after (sym (kept_answers p laws b l) ∙ ap (p.answer b) e ∙ kept_answers p laws b m) in
    let one = c ∷ [] in
    let more = sym (cut_twice kept_bytes l one) ∙ ap (λ (x : List ℕ). take kept_bytes (x ++ one)) e ∙ cut_twice kept_bytes m one in
    both_ways p Same (after (p.answer b l)) (fed_of p b (l ++ one) s) (after (p.answer b m)) (fed_of p b (m ++ one) s)
    (ap (λ (x : Fed). x.next) same, ap (λ (x : Fed). take kept_bytes x.line) same, ap (λ (x : Fed). x.text) same)
    (kept_leads p laws s (l ++ one) (m ++ one) b more) (eqb c newline)

pub two_reads : (p : Rules) → ProgramLaws p → (b : Bridge) (line s t t₁ t₂ : List ℕ) (s₁ s₂ : Session)
    → Leaves (fed_of p b line s) s₁ → t₁ ≡ (fed_of p b line s).text
    → Leaves (fed_of p s₁.bridge (line_of s₁) t) s₂ → t₂ ≡ (fed_of p s₁.bridge (line_of s₁) t).text
    → Leaves (fed_of p b line (s ++ t)) s₂ × (t₁ ++ t₂ ≡ (fed_of p b line (s ++ t)).text)
two_reads p laws b line s t t₁ t₂ s₁ s₂ h e₁ k e₂ =
    let f = fed_of p b line s in
    let same = kept_leads p laws t (line_of s₁) f.line s₁.bridge (ap (take kept_bytes) h.line ∙ take-take kept_bytes kept_bytes f.line (omega arith)) in
    let joined : saying f.text (fed_of p s₁.bridge f.line t) ≡ fed_of p b line (s ++ t) =
    ap (λ (x : Bridge). saying f.text (fed_of p x f.line t)) h.next ∙ sym (fed_parts p s t line b) in (
      record { next = k.next ∙ same.0 ∙ ap (λ (x : Fed). x.next) joined; line = k.line ∙ same.1 ∙ ap (λ (x : Fed). take kept_bytes x.line) joined },
      (λ i. e₁ i ++ (e₂ ∙ same.2) i) ∙ ap (λ (x : Fed). x.text) joined,
    )

-- a session that is ready is what no bytes leave of it
pub ready_leaves : (p : Rules) (s : Session) → Ready s → Leaves (fed_of p s.bridge (line_of s) []) s
unfolding fed_of
ready_leaves p s r = record { next = refl; line = sym (take_all kept_bytes (line_of s) (rw (length-take s.len s.text) (omega (arith, r.short)))) }

-- ---- turn by turn

module _ (p : Rules) (s : Session) (bytes : List ℕ) where
  -- what the bytes before a place lead to
  abbrev before : ℕ → Fed
  before n = fed_of p s.bridge (line_of s) (part bytes 0 n)

  pub turns_none : Ready s → Leaves (before 0) s
  turns_none r = ready_leaves p s r

  -- what a turn adds to them
  pub turns_on : ProgramLaws p → (from : ℕ) (s₁ : Session) (r : Progress) (t out : List ℕ) → Leaves (before from) s₁ → t ≡ (before from).text → Turned p s₁ bytes from r out
      → Leaves (before r.rest) r.session × (t ++ take r.filled out ≡ (before r.rest).text)
  turns_on laws from s₁ r t out h e w =
      let whole = parts bytes 0 from r.rest (omega arith) w.within.onward in
      rw whole (two_reads p laws s.bridge (line_of s) (part bytes 0 from) (part bytes from r.rest) t _ s₁ r.session h e w.leaves w.text)

  -- up to the last
  pub turns_all : (n : ℕ) (r : Session) → length bytes ≤ n → Leaves (before n) r → Leaves (fed_of p s.bridge (line_of s) bytes) r
  turns_all n r h l = rw (take_all (n - 0) bytes (omega arith)) at l
