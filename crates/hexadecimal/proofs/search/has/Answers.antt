-- What is met so far and what is left make what all of the bytes have.
use Rattle.std.proofs.Common.{◌≡◌, Bool, true, false, cond, refl, ◌∙◌, ◌||◌}
use Rattle.hexadecimal.proofs.SearchLaws.{contains_next, contains_end}
use Rattle.hexadecimal.proofs.search.has.Goals as goal

either : (a b : Bool) → (a || b) ≡ cond a true b
either true b = refl
either false b = refl

pub loop-b-preserved : goal.loop-b-preserved
loop-b-preserved c = contains_next c.args.mark c.args.bytes.now c.loop-b.b-index c.loop-b.met _ c.loop-b-test.true (either c.loop-b.met _) ∙ c.loop-b.invariant

pub returns : goal.returns
returns c = contains_end c.args.mark c.args.bytes.now c.loop-b.b-index c.loop-b.met c.loop-b-test.false ∙ c.loop-b.invariant
