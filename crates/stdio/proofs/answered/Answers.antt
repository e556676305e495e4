-- Turn by turn, to the end of the bytes or to a lost output.
use mathlib.Core.Path.{refl, sym, ◌∙◌, subst}
use mathlib.Core.List.{List}
use Prim.Native.Nat.{ℕ}
use native.Mathlib.Omega.{arith}
use lib.ListN.{length}
use Rattle.std.specs.Io.KnownBytes.{Appends}
use Rattle.std.proofs.KnownBytes.{Appends-nil, Appends-trans}
use Rattle.session.specs.Lines.{fed_of}
use Rattle.session.proofs.TwoReads.{turns_none, turns_on}
use Rattle.stdio_course.proofs.CourseLaws.{onward_moves, onward_wrote, onward_rest}
use Rattle.stdio.proofs.answered.Goals as goal

pub loop-from-init : goal.loop-from-init
unfolding fed_of
loop-from-init g c =
    (c.requires.ready, λ _. (turns_none g.P.Program.rules c.args.s.now c.args.bytes.now c.requires.ready, Appends-nil _), omega arith, refl, λ _. refl)

pub loop-from-preserved : goal.loop-from-preserved
loop-from-preserved g c =
    let l = c.loop-from in
    let k = c.loop-from-test.true in
    let e = c.turn-turn.ensures in
    let kept = l.invariant.1 (l.invariant.4 k) in
    let on = turns_on g.P.Program.rules c.args.s.now c.args.bytes.now g.met.P.Program.laws l.from l.s c.turn-turn.result _ _ kept.0 refl e in
    let size = length c.args.bytes.now in
    let wrote = c.put-wrote.result in
    let rest = c.turn-turn.result.rest in
    let there = c.onward-from.ensures in
    let moved = onward_moves wrote l.from rest size k (e.moves k) e.within.inside in (
      e.ready,
      λ w.
          let at-rest = there ∙ onward_rest wrote rest size w in
          let all = subst (λ (x : List ℕ). Appends (g.W.Write.contents c.args.output.now) (g.W.Write.contents c.put-wrote.new.output) x) on.1 (Appends-trans _ _ _ _ _ kept.1 (c.put-wrote.ensures w)) in
          rw at-rest (on.0, all),
      rw there moved.1,
      c.turn-turn.auto.out ∙ l.invariant.3,
      λ h. onward_wrote wrote rest size (rw (sym there) h),
    )
