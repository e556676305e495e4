-- The table in the code is the staircase, which has passed the test over the whole of it.
use Rattle.std.proofs.Common.{rules}
use Rattle.choice.specs.Passes.{staircase}
use Rattle.choice.proofs.PassesLaws.{staircase_table}
use Rattle.choice_passes.proofs.passes_left.Goals as goal

pub returns : goal.returns
unfolding staircase
returns c = rw c.from.ensures (staircase_table.entry c.args.hop (search rules))
