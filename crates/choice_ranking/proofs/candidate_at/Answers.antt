-- By whether there is such a place; then by the rank at it.
use Rattle.std.proofs.Common.{◌<◌, ◌∙◌, sym, ap, subst, arith, lt-ltb, le-ltb}
use Rattle.choice.specs.Rank.{Ranks, candidate_at}
use Rattle.choice.specs.Ranking.{ranked_at}
use Rattle.choice.specs.Places.{places, candidate_in}
use Rattle.choice.specs.declared.Rank.{Rank}
use Rattle.numbers.proofs.Branches.{if_true, if_false}
use Rattle.choice.proofs.PlacesLaws.{kept_rank}
use Rattle.choice_ranking.proofs.PlaceLoops.{read_rank}
use Rattle.choice_ranking.proofs.candidate_at.Goals as goal

pub returns-in_err-get : goal.returns-in_err-get
unfolding candidate_in
returns-in_err-get c =
    let (t, u, v, beyond, w) = c.in_err-get.ensures.lookup in
    c.from_residual.ensures ∙ if_false _ _ _ (le-ltb c.args.place places (omega (arith, c.told-ranking, beyond)))

pub candidate-requires : goal.candidate-requires
candidate-requires c =
    let (l, k) = c.requires in
    let (t, held, u, (inside, v), w) = c.in_ok-get.ensures.lookup in
    let within : c.args.place < places = omega (arith, c.told-ranking, inside) in
    (ranked_at l c.args.place, subst (λ (r : Rank). Ranks r (ranked_at l c.args.place)) (sym (held ∙ read_rank c.args.ranking.now c.args.place _ (omega (arith, c.told-ranking, within)))) (kept_rank k c.args.place within))

pub returns : goal.returns
unfolding candidate_in
returns c =
    let (t, held, u, (inside, v), w) = c.in_ok-get.ensures.lookup in
    let within : c.args.place < places = omega (arith, c.told-ranking, inside) in
    c.candidate.ensures ∙ ap candidate_at (held ∙ read_rank c.args.ranking.now c.args.place _ (omega (arith, c.told-ranking, within))) ∙ if_true _ _ _ (lt-ltb c.args.place places within)
