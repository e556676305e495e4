-- By whether a clock has the number, and whether it is the one that is announced.
use Rattle.std.proofs.Common.{sym, ap, ◌∙◌, subst, ℕ, ◌<◌, arith}
use Rattle.choice.specs.Places.{places, rank_at, closed_at_of, inserted_in}
use Rattle.choice.proofs.RankLaws.{same_ranks}
use Rattle.choice.proofs.PlacesLaws.{kept_whole, kept_same, kept_moved, kept_new}
use Rattle.choice_ranking.proofs.PlaceLoops.{read_rank, place_found, place_missing}
use Rattle.choice_ranking.proofs.update.Goals as goal
use Rattle.choice_ranking.proofs.update.Goals.{in-Some+else-same, in_default}

pub returns-then-same : goal.returns-then-same
returns-then-same c =
    let (found, within) = place_found c.args.number c.args.ranking.now (kept_whole c.requires) c.in-Some.ensures in
    let held = read_rank c.args.ranking.now c.in-Some.place (record { 0 = 0; 1 = 0 }) (omega (arith, c.told-ranking, within)) in
    λ l k small.
    kept_same _ l k _ small _ c.announced-rank.ensures.fits (subst (λ (i : ℕ). i < places) found within)
    (ap (rank_at c.args.ranking.now) (sym found) ∙ sym held ∙ same_ranks _ _ (sym c.same.ensures ∙ c.if-same.true) ∙ c.announced-rank.ensures.is)

-- another one does, or none
pub returns : goal.returns
returns c =
    let whole = kept_whole c.requires in
    let rank = c.announced-rank.ensures in
    λ l k small.
    c.insert.ensures
    ∙ elim c.match-place_of.branch [
      | in-Some+else-same w ↦
          let (found, within) = place_found c.args.number c.args.ranking.now whole w.in-Some.ensures in
          let closed = w.ranking-is ∙ w.close.ensures ∙ ap (λ (i : ℕ). closed_at_of i c.args.ranking.now) found in
          (λ i. inserted_in (rank.is i) (closed i)) ∙ kept_moved _ l k _ small _ rank.fits (subst (λ (i : ℕ). i < places) found within)
      | in_default w ↦
          (λ i. inserted_in (rank.is i) (w.ranking-is i)) ∙ kept_new _ l k _ small _ rank.fits (place_missing c.args.number c.args.ranking.now whole w.in_default.ensures)
    ]
