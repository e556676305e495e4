-- The first mark from here on is the first from the start on.
use Rattle.std.proofs.Common.{sym, ◌∙◌, lit<}
use Rattle.hexadecimal.proofs.SearchLaws.{block_past}
use Rattle.hexadecimal.proofs.search.past_blocks.Goals as goal

pub loop-block-preserved : goal.loop-block-preserved
loop-block-preserved c =
    let l = c.loop-block in
    let h = c.in-Some.ensures.steps in
    let e = block_past c.args.mark 32 c.args.bytes.now l.i _ _ (sym l.invariant.rest ∙ h.1.0) (h.1.1 ∙ l.invariant.size) (lit< tt) (sym c.has.ensures ∙ c.if-has.false) in
    record { size = h.0 ∙ l.invariant.size; rest = e.0; past = e.1 ∙ l.invariant.past }
