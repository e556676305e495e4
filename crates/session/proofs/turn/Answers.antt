-- What is kept of the line that was cut off, then line by line: two reads, the second from the line's newline on.
use Rattle.std.proofs.Common.{◌≡◌, sym, ap, ◌∙◌, [], ◌++◌, ℕ, ◌≤◌, arith, length, take, length-take}
use Rattle.session.specs.Lines.{kept_bytes, part, Fed, left, fed_of}
use Rattle.session.specs.Session.{line_of, Leaves}
use Rattle.session.specs.declared.Session.{Session}
use Rattle.hexadecimal.specs.Character.{newline as newlineByte}
use Rattle.hexadecimal.proofs.SearchLaws.{found_within}
use Rattle.session.proofs.FedLaws.{parts, rest_fed}
use Rattle.session.proofs.TwoReads.{two_reads}
use Rattle.session.proofs.turn.Given as given
use Rattle.session.proofs.turn.Goals as goal
use Rattle.session.proofs.turn.Goals.{After-found-end, After-kept-len}

-- the first line ends within the bytes
ends : (g : given.Over) (c : After-found-end g) → c.found-end.result ≤ length c.args.bytes.now
ends g c = omega (arith, c.found-end.ensures, found_within newlineByte c.args.bytes.now c.args.from c.requires.from_in_bounds.0)

pub slice_bounds-kept-end : goal.slice_bounds-kept-end
slice_bounds-kept-end g c = ends g (goal.at.slice_bounds-kept-end g c).After-found-end

-- no more is kept of a line than there is room for
short : (g : given.Over) (c : After-kept-len g) → c.kept-len.result ≤ kept_bytes
short g c = omega (arith, rw length-take at c.kept-len.ensures.value)

-- what the bytes before its end lead to and print
cut : (g : given.Over) (c : After-kept-len g) →
    let line = line_of c.args.s in
    let piece = part c.args.bytes.now c.args.from c.found-end.result in
    fed_of g.P.Program.rules c.args.s.bridge line piece ≡ left c.args.s.bridge (line ++ piece)
cut g c = rest_fed g.P.Program.rules c.args.s.bridge (line_of c.args.s) c.args.bytes.now c.args.from c.found-end.result c.found-end.ensures

-- the session there
abbrev held : (g : given.Over) → After-kept-len g → Session
held g c = record { bridge = c.args.s.bridge; text = c.kept-len.new.text; len = c.kept-len.result }

at-newline : (g : given.Over) (c : After-kept-len g) → Leaves (fed_of g.P.Program.rules c.args.s.bridge (line_of c.args.s) (part c.args.bytes.now c.args.from c.found-end.result)) (held g c)
at-newline g c =
    let e = cut g c in
    record { next = ap (λ (x : Fed). x.next) (sym e); line = c.kept-len.ensures.text_after ∙ ap (λ (x : Fed). take kept_bytes x.line) (sym e) }

pub returns-then-end-bytes : goal.returns-then-end-bytes
returns-then-end-bytes g c =
    let k = (goal.at.returns-then-end-bytes g c).After-kept-len in
    record {
      ready = record { lawful = c.requires.ready.lawful; room = c.kept-len.ensures.text_len; short = short g k };
      leaves = at-newline g k;
      text = ap (λ (x : Fed). x.text) (sym (cut g k));
      within = record { onward = omega (arith, c.found-end.ensures); inside = ends g (goal.at.returns-then-end-bytes g c).After-found-end; fits = omega arith };
      moves = λ h. omega (arith, h, c.if-end-bytes.true);
    }

pub returns : goal.returns
returns g c =
    let k = (goal.at.returns g c).After-kept-len in
    let p = g.P.Program.rules in
    let b = c.args.s.bridge in
    let bytes = c.args.bytes.now in
    let from = c.args.from in
    let end = c.found-end.result in
    let lines = c.whole_lines-lines.result in
    let out = c.whole_lines-lines.new.out in
    let after : Session = record { bridge = lines.next; text = c.kept-len.new.text; len = 0 } in
    let within = c.whole_lines-lines.ensures.within in
    let whole = parts bytes from end lines.rest (omega (arith, c.found-end.ensures)) (omega (arith, c.found-end.ensures, within.onward)) in
    let e = ap (λ (n : ℕ). fed_of p b (line_of (held g k)) (part bytes n lines.rest)) c.found-end.ensures ∙ c.whole_lines-lines.ensures.rest_value in
    let both = two_reads p g.met.P.Program.laws b (line_of c.args.s) (part bytes from end) (part bytes end lines.rest) [] (take lines.filled out) (held g k) after (at-newline g k) (ap (λ (x : Fed). x.text) (sym (cut g k)))
    (record { next = ap (λ (x : Fed). x.next) (sym e); line = ap (λ (x : Fed). take kept_bytes x.line) (sym e) }) (ap (λ (x : Fed). x.text) (sym e)) in
    record {
      ready = record { lawful = c.whole_lines-lines.ensures.lawful_2; room = c.kept-len.ensures.text_len; short = omega arith };
      leaves = rw whole both.0;
      text = rw whole both.1;
      within = record { onward = omega (arith, within.onward); inside = within.inside; fits = within.fits };
      moves = λ h. omega (arith, within.onward);
    }
