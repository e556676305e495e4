-- The test's success over the table in the code: it is the staircase, which passes.
use mathlib.Core.Path.{◌∙◌, sym}
use mathlib.Core.Bool.{true≢false}
use Rattle.choice.specs.Passes.{staircase}
use Rattle.choice.proofs.PassesLaws.{staircase_table, agreement_test}
use Rattle.passes.proofs.main.Goals as goal

pub prove-unreachable-requires : goal.prove-unreachable-requires
unfolding staircase
prove-unreachable-requires c =
    absurd (true≢false (sym (c.agrees-holds.ensures ∙ agreement_test staircase staircase_table) ∙ c.if-prove.true))
