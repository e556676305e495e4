-- Turn by turn, to the end of the bytes or to a lost output.
use Rattle.std.proofs.Common.{◌≡◌, true, ◌-◌, ◌<◌, ◌≤◌, length}
use Rattle.std.specs.Io.KnownBytes.{Appends}
use Rattle.session.specs.Lines.{part, fed_of}
use Rattle.session.specs.Session.{line_of, Ready, Leaves}
use Rattle.stdio.proofs.answered.Given as goal

abbrev pub invariant-loop-from : goal.invariant-loop-from
invariant-loop-from g l =
    let fed = fed_of g.P.Program.rules l.initial.s.bridge (line_of l.initial.s) (part l.bytes 0 l.from) in
    Ready l.s × (l.wrote ≡ true → Leaves fed l.s × Appends (g.W.Write.contents l.initial.output) (g.W.Write.contents l.output) fed.text)
    × (l.from ≤ length l.bytes) × (length l.out ≡ length l.initial.out) × (l.from < length l.bytes → l.wrote ≡ true)

abbrev pub decreases-loop-from : goal.decreases-loop-from
decreases-loop-from g l = length l.bytes - l.from
