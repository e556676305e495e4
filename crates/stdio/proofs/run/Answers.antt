-- Read by read, and then the end.
use mathlib.Core.Path.{◌≡◌, refl, sym, ap, ◌∙◌, subst}
use mathlib.Core.Bool.{true}
use native.Mathlib.Omega.{arith}
use Rattle.std.proofs.Common.{length-take-le}
use Rattle.stdio_course.specs.declared.Course.{Course}
use Rattle.stdio_course.specs.Course.{course_after}
use Rattle.stdio.proofs.Whole.{going, on_of, was_ended, Told, told_none, read_within, told_more, told_whole}
use Rattle.stdio.proofs.run.Goals as goal

pub loop-reads-init : goal.loop-reads-init
loop-reads-init g c =
    (c.start-s.ensures.ready, refl, refl, omega arith, λ _. told_none g.P.Program.rules c.start-s.result _ _ c.start-s.ensures.ready)

pub slice_bounds-answered-end : goal.slice_bounds-answered-end
slice_bounds-answered-end g c =
    sym (length-take-le _ c.read_some-got.new.bytes (read_within c.read_some-got.result _ _ c.unwrap_or.ensures c.read_some-got.ensures.inside))

pub loop-reads-preserved : goal.loop-reads-preserved
loop-reads-preserved g c =
    let l = c.loop-reads in
    let p = g.P.Program.rules in
    let s₀ = c.start-s.result in
    let had = g.R.Read.remaining c.args.input.now in
    let held = g.W.Write.contents c.args.output.now in
    let has = g.R.Read.remaining l.input in
    let holds = g.W.Write.contents l.output in
    let got = c.read_some-got.result in
    let wrote = c.answered-wrote.result in
    let s₁ = c.answered-wrote.new.s in
    let has₁ = g.R.Read.remaining c.read_some-got.new.input in
    let holds₁ = g.W.Write.contents c.answered-wrote.new.output in
    let said = c.answered-wrote.ensures in
    let on = on_of l.course (sym c.reads_on.ensures ∙ c.if-reads_on.true) in
    let told = subst (λ (x : Course). going x ≡ true → Told p s₀ had held x l.s has holds) on l.invariant.4 refl in
    let more = told_more p g.met.P.Program.laws s₀ had held l.s has holds got c.unwrap_or.result wrote s₁ c.read_some-got.new.bytes has₁ holds₁ c.unwrap_or.ensures told c.read_some-got.ensures.gave said.leaves said.writes in (
      said.ready_2,
      c.read_some-got.auto.bytes ∙ l.invariant.1,
      c.answered-wrote.auto.out ∙ l.invariant.2,
      omega (arith, c.loop-reads-test.true),
      subst (λ (x : Course). going x ≡ true → Told p s₀ had held x s₁ has₁ holds₁) (sym c.after-course.ensures) more,
    )

pub returns-clause-answered : goal.returns-clause-answered
returns-clause-answered g c = λ e.
    let l = c.loop-reads in
    let p = g.P.Program.rules in
    let s₀ = c.start-s.result in
    let had = g.R.Read.remaining c.args.input.now in
    let held = g.W.Write.contents c.args.output.now in
    let has = g.R.Read.remaining l.input in
    let holds = g.W.Write.contents l.output in
    let ended = was_ended c.closed-end.result l.course c.closed-end.ensures.went_on e in
    let told = subst (λ (x : Course). going x ≡ true → Told p s₀ had held x l.s has holds) ended l.invariant.4 refl in
    told_whole p g.met.P.Program.laws s₀ had held l.s has holds _ c.start-s.ensures.bridge_value c.start-s.ensures.result_value told (c.closed-end.ensures.writes e)
