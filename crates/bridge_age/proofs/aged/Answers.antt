-- By the local time; where no announcement is too old nothing is stored, else every record is aged.
use Rattle.std.proofs.Common.{rules, tests, sym, ◌∙◌, subst, arith}
use Rattle.std.proofs.lemmas.Iterator.{YieldsList-from_slice}
use Rattle.std.proofs.lemmas.Iterator.Search.{any_from_yields_List}
use Rattle.port.specs.Lawful.{LawfulPort}
use Rattle.port.proofs.PortLaws.{aged_lawful}
use Rattle.bridge.specs.Table.{most_ports}
use Rattle.bridge.proofs.RankingLaws.{ranking_keeps}
use Rattle.bridge.proofs.StateLaws.{stored_start, stored_more, age_refused, age_done}
use Rattle.bridge_age.proofs.Young.{old, young}
use Rattle.bridge_age.proofs.aged.Goals as goal

pub returns-then-off_circle : goal.returns-then-off_circle
returns-then-off_circle c = age_refused _ _ (sym c.off_circle.ensures ∙ c.if-off_circle.true)

pub loop-i-init : goal.loop-i-init
loop-i-init c = stored_start _ _ c.requires

pub update-requires : goal.update-requires
update-requires c = (_, ranking_keeps _ c.loop-i.invariant.lawful)

pub loop-i-preserved : goal.loop-i-preserved
loop-i-preserved c =
    let l = c.loop-i in
    let aged = c.age.ensures in
    stored_more _ _ l.i _ l.invariant _ _ c.loop-i-test.true aged (subst LawfulPort (sym aged) (aged_lawful _ _ _ (l.invariant.lawful.ports_lawful l.i))) c.update.ensures

pub returns-after-loop-i : goal.returns-after-loop-i
returns-after-loop-i c = age_done _ _ c.loop-i.i _ (sym c.off_circle.ensures ∙ c.if-off_circle.false) c.loop-i.invariant c.loop-i-test.false

pub returns-else-any : goal.returns-else-any
returns-else-any c =
    let b = c.args.b.now in
    let any_old = any_from_yields_List (old b c.args.at c.requires) c.any.new.self _ c.any.result c.any.ensures.ran (YieldsList-from_slice b.ports cc) (λ x t q k. search (rules, tests)) in
    age_done _ _ most_ports _ (sym c.off_circle.ensures ∙ c.if-off_circle.false) (young b c.args.at c.requires (sym any_old ∙ c.if-any.false) most_ports (omega arith)) (omega arith)
