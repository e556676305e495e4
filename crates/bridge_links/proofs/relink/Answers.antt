-- By the mask, and by whether each port loses its link.
use Rattle.std.proofs.Common.{◌≡◌, ◌<◌, sym, ap, ◌∙◌, arith}
use Rattle.bridge.specs.Table.{most_ports, loses_link}
use Rattle.bridge.specs.declared.Bridge.{Bridge}
use Rattle.bridge.proofs.TableLaws.{relinked_lost, relinked_kept}
use Rattle.bridge.proofs.RankingLaws.{ranking_keeps}
use Rattle.bridge.proofs.StateLaws.{stored_start, stored_emptied, stored_same, links_refused, links_done}
use Rattle.bridge_links.proofs.relink.Goals as goal
use Rattle.bridge_links.proofs.relink.Goals.{Joined-loses_link, then-loses_link, else-loses_link}

pub returns-then-beyond : goal.returns-then-beyond
returns-then-beyond c = links_refused _ _ (sym c.beyond.ensures ∙ c.if-beyond.true)

pub loop-i-init : goal.loop-i-init
loop-i-init c = stored_start _ _ c.requires

pub update-requires : goal.update-requires
update-requires c = (_, ranking_keeps _ c.loop-i.invariant.lawful)

-- the links are those that there were
loses : (c : Joined-loses_link) → c.loses_link.result ≡ loses_link c.args.b.now.links c.args.mask c.loop-i.i
loses c = c.loses_link.ensures ∙ ap (λ (x : Bridge). loses_link x.links c.args.mask c.loop-i.i) c.loop-i.invariant.rest

pub loop-i-preserved : goal.loop-i-preserved
loop-i-preserved c =
    let l = c.loop-i in
    let lost = loses (goal.at.loop-i-preserved c).Joined-loses_link in
    -- the loop's index is that of a record
    let h : l.i < most_ports = omega (arith, c.loop-i-test.true, c.from-i-end.ensures, c.requires.setup_lawful.ports_most) in
    elim c.if-loses_link.branch [
      | then-loses_link w ↦ rw w.b-is (stored_emptied _ _ l.i _ l.invariant _ _ h w.empty.ensures (relinked_lost _ _ _ _ (sym lost ∙ w.if-loses_link.true)) w.update.ensures)
      | else-loses_link w ↦ rw w.b-is (stored_same _ _ l.i _ l.invariant h (relinked_kept _ _ _ _ (sym lost ∙ w.if-loses_link.false)))
    ]

pub returns : goal.returns
returns c =
    links_done _ _ c.loop-i.i _ (sym c.beyond.ensures ∙ c.if-beyond.false) c.loop-i.invariant (omega (arith, c.loop-i-test.false, c.from-i-end.ensures)) c.requires.links_most
