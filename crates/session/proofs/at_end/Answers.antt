-- By whether anything is left: if so, a turn over one newline ends it.
use Rattle.std.proofs.Common.{◌≡◌, ap, ◌∙◌, [], ◌∷◌, ℕ, ◌<◌, arith, length, length-take}
use Rattle.session.specs.Lines.{part, fed_of}
use Rattle.session.specs.Session.{line_of}
use Rattle.hexadecimal.specs.Character.{newline}
use Rattle.session.proofs.InputLaws.{newline_ends}
use Rattle.session.proofs.at_end.Goals as goal

pub returns-clause-out_after : goal.returns-clause-out_after
returns-clause-out_after g c =
    let a = c.args in
    let p = g.P.Program.rules in
    let e = c.turn.ensures in
    let whole : c.turn.result.rest ≡ 1 = omega (arith, e.within.inside, e.moves (omega arith)) in
    let left : 0 < length (line_of a.s) = rw (length-take a.s.len a.s.text) (omega (arith, c.requires.ready.short, c.requires.ready.room)) in
    let one = ap (λ (n : ℕ). (fed_of p a.s.bridge (line_of a.s) (part (newline ∷ []) 0 n)).text) whole in
    e.text ∙ one ∙ newline_ends p a.s.bridge (line_of a.s) left
