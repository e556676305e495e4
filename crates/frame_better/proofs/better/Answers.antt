-- The part of the frame that wins.
use mathlib.Core.Path.{◌≡◌, sym, ◌∙◌}
use native.Mathlib.Omega.{arith}
use Rattle.frame.specs.Better.{standing_of, winner_of}
use Rattle.frame.proofs.FrameLaws.{first_sized, second_sized}
use Rattle.frame_better.proofs.better.Goals as goal

pub slice_bounds-result-end-in-First : goal.slice_bounds-result-end-in-First
slice_bounds-result-end-in-First c =
    let won : c.winner.result ≡ winner_of (standing_of c.args.a.now) (standing_of c.args.b.now) =
    c.winner.ensures ∙ (λ i. winner_of (c.standing.ensures i) (c.standing-2.ensures i)) in
    omega (arith, first_sized _ _ (sym c.in-First.is ∙ won))

pub slice_bounds-result-end-in-Second : goal.slice_bounds-result-end-in-Second
slice_bounds-result-end-in-Second c =
    let won : c.winner.result ≡ winner_of (standing_of c.args.a.now) (standing_of c.args.b.now) =
    c.winner.ensures ∙ (λ i. winner_of (c.standing.ensures i) (c.standing-2.ensures i)) in
    omega (arith, second_sized _ _ (sym c.in-Second.is ∙ won))
