-- However the input comes in pieces, what they print and then the end of the input are what document 01 says of the whole.
use mathlib.Core.Path.{◌≡◌, refl, sym, ap, ◌∙◌}
use mathlib.Core.Bool.{Bool, true, false, cond}
use mathlib.Core.List.{List, [], ◌∷◌, ◌++◌, append-nil, append_assoc}
use Prim.Native.Nat.{ℕ}
use lib.Dec.{eqb}
use lib.ListN.{take}
use Rattle.hexadecimal.specs.Character.{newline}
use Rattle.bridge.specs.declared.Bridge.{Bridge}
use Rattle.session_programs.specs.Programs.{Rules, ProgramLaws}
use Rattle.session.specs.declared.Session.{Session}
use Rattle.session.specs.declared.Progress.{Progress}
use Rattle.session.specs.Lines.{part, Fed, saying, fed_of}
use Rattle.session.specs.Session.{line_of, Ready, Leaves, Turned}
use Rattle.session.specs.Input.{rest_lines, lines_after, lines_text, rest_text, Piece, input_of, printed_of, session_after, Reads, ReadAll}
use Rattle.session.proofs.InputLaws.{kept_rest}
use Rattle.session.proofs.TwoReads.{two_reads, ready_leaves}

-- what is left of a line prints what the lines of the rest do
rest-lines : (p : Rules) (b : Bridge) (line : List ℕ) → rest_text p b line ≡ lines_text p b (rest_lines line)
unfolding lines_text
rest-lines p b [] = refl
rest-lines p b (c ∷ line) = sym (append-nil (p.answer b (c ∷ line)).text)

-- what bytes print and then the end of the input
abbrev closed : Rules → Fed → List ℕ
closed p f = f.text ++ rest_text p f.next f.line

-- the lines of the bytes, and the end of the input for the last: document 01's lines
pub fed_lines : (p : Rules) (s line : List ℕ) (b : Bridge) → closed p (fed_of p b line s) ≡ lines_text p b (lines_after line s)
unfolding fed_of lines_after lines_text
fed_lines p [] line b = rest-lines p b line
fed_lines p (c ∷ s) line b = go (fed_lines p s [] (p.answer b line).next) (fed_lines p s (line ++ (c ∷ [])) b) (eqb c newline)
  where
    go : closed p (fed_of p (p.answer b line).next [] s) ≡ lines_text p (p.answer b line).next (lines_after [] s)
        → closed p (fed_of p b (line ++ (c ∷ [])) s) ≡ lines_text p b (lines_after (line ++ (c ∷ [])) s)
        → (e : Bool) → closed p (cond e (saying (p.answer b line).text (fed_of p (p.answer b line).next [] s)) (fed_of p b (line ++ (c ∷ [])) s))
        ≡ lines_text p b (cond e (line ∷ lines_after [] s) (lines_after (line ++ (c ∷ [])) s))
    go ends on true =
        let f = fed_of p (p.answer b line).next [] s in
        append_assoc (p.answer b line).text f.text (rest_text p f.next f.line) ∙ ap (λ (x : List ℕ). (p.answer b line).text ++ x) ends
    go ends on false = on

-- what a turn takes of the bytes is a piece, with the session that it leaves and what it prints
pub turn_reads : (p : Rules) (s : Session) (bytes : List ℕ) (from : ℕ) (r : Progress) (out : List ℕ) → Turned p s bytes from r out
    → Reads p s (record { bytes = part bytes from r.rest; after = r.session; text = take r.filled out })
turn_reads p s bytes from r out w = record { leaves = w.leaves; prints = w.text }

-- pieces after bytes that were read before leave and print what all of them do at once
more_pieces : (p : Rules) → ProgramLaws p → (b : Bridge) (line done t : List ℕ) (s : Session) (pieces : List Piece)
    → Leaves (fed_of p b line done) s → t ≡ (fed_of p b line done).text → ReadAll p s pieces
    → Leaves (fed_of p b line (done ++ input_of pieces)) (session_after s pieces) × (t ++ printed_of pieces ≡ (fed_of p b line (done ++ input_of pieces)).text)
unfolding ReadAll
more_pieces p laws b line done t s [] h e r = rw (append-nil done, append-nil t) (h, e)
more_pieces p laws b line done t s (piece ∷ pieces) h e r =
    let both = two_reads p laws b line done piece.bytes t piece.text s piece.after h e r.0.leaves r.0.prints in
    let all = more_pieces p laws b line (done ++ piece.bytes) (t ++ piece.text) piece.after pieces both.0 both.1 r.1 in
    rw (← append_assoc done piece.bytes (input_of pieces), ← append_assoc t piece.text (printed_of pieces)) all

-- pieces leave and print what one read of all of them does
pub pieces_as_one : (p : Rules) → ProgramLaws p → (s : Session) (pieces : List Piece) → Ready s → ReadAll p s pieces
    → Leaves (fed_of p s.bridge (line_of s) (input_of pieces)) (session_after s pieces) × (printed_of pieces ≡ (fed_of p s.bridge (line_of s) (input_of pieces)).text)
unfolding fed_of
pieces_as_one p laws s pieces ready r = more_pieces p laws s.bridge (line_of s) [] [] s pieces (ready_leaves p s ready) refl r

-- a whole input, in any pieces, and its end: of each program that keeps the laws, as the three do by session_programs/specs/Laws.antt
pub whole_input : (p : Rules) → ProgramLaws p → (s : Session) (pieces : List Piece) → Ready s → s.bridge ≡ p.start → line_of s ≡ [] → ReadAll p s pieces →
    let r = session_after s pieces in
    printed_of pieces ++ rest_text p r.bridge (line_of r) ≡ lines_text p p.start (lines_after [] (input_of pieces))
whole_input p laws s pieces ready first none reads =
    let whole = pieces_as_one p laws s pieces ready reads in
    let f = fed_of p s.bridge (line_of s) (input_of pieces) in
    let rest = (λ i. rest_text p (whole.0.next i) (whole.0.line i)) ∙ kept_rest p laws f.next f.line in
    (λ i. whole.1 i ++ rest i)
    ∙ fed_lines p (input_of pieces) (line_of s) s.bridge
    ∙ (λ i. lines_text p (first i) (lines_after (none i) (input_of pieces)))
