-- Of a table with an entry for each hop, every entry is tested at its hop.
use Rattle.std.proofs.Common.{rules, tests, sym, ◌∙◌}
use Rattle.std.proofs.lemmas.Iterator.{YieldsList-from_slice}
use Rattle.std.proofs.lemmas.Iterator.Consumers.{YieldsList-from_enumerate}
use Rattle.std.proofs.lemmas.Iterator.Search.{all_from_yields_List}
use Rattle.choice.proofs.PassesLaws.{test_length, test_start}
use borrow.Author.Tests.{ne_eqb}
use Rattle.choice_passes.proofs.Entries.{entry_fits, entries_agree}
use Rattle.choice_passes.proofs.agrees.Goals as goal

pub returns-then-table-eq-HOPS : goal.returns-then-table-eq-HOPS
returns-then-table-eq-HOPS c =
    let table = c.args.table.now in
    all_from_yields_List entry_fits c.all.new.self _ c.all.result c.all.ensures.ran
    (YieldsList-from_enumerate (YieldsList-from_slice table cc) c.enumerate.ensures.count) (λ x b q k. search (rules, tests))
    ∙ entries_agree 0 table
    ∙ sym (test_start table c.if-table-eq-HOPS.true)

pub returns-else-table-eq-HOPS : goal.returns-else-table-eq-HOPS
returns-else-table-eq-HOPS c = ne_eqb _ _ c.if-table-eq-HOPS.false ∙ sym (test_length _ c.if-table-eq-HOPS.false)
