-- What is left is to put in the rank that is moved.
use Rattle.std.proofs.Common.{◌≡◌, ◌<◌, sym, ap, ◌∙◌, arith, length, set}
use Rattle.choice_ranking.proofs.PlaceLoops.{inserting_start, inserting_moved, inserting_stays, inserting_over}
use Rattle.choice_ranking.proofs.insert.Goals as goal
use Rattle.choice_ranking.proofs.insert.Goals.{then-precedes, else-precedes}

pub loop-held-init : goal.loop-held-init
loop-held-init c = inserting_start _ _

pub loop-held-preserved : goal.loop-held-preserved
loop-held-preserved c =
    let l = c.loop-held in
    let within : l.held-index < length c.args.ranking.now = omega arith in
    elim c.if-precedes.branch [
      | then-precedes w ↦
          let e : c.if-precedes.ranking ≡ set l.ranking l.held-index l.moved = w.ranking-is ∙ ap (set l.ranking l.held-index) w.replace-moved.ensures.after in
          rw (e, w.moved-is, w.replace-moved.ensures.value) (inserting_moved c.args.rank c.args.ranking.now l.held-index l.moved l.ranking l.invariant within _ (sym c.precedes.ensures ∙ w.if-precedes.true))
      | else-precedes w ↦ rw (w.ranking-is, w.moved-is) (inserting_stays c.args.rank c.args.ranking.now l.held-index l.moved l.ranking l.invariant within _ (sym c.precedes.ensures ∙ w.if-precedes.false))
    ]

pub returns : goal.returns
returns c = let l = c.loop-held in inserting_over _ _ _ l.moved l.ranking l.invariant (omega arith)
