-- Line by line: what the lines so far lead to and print, and what is filled stays within the output.
use Rattle.std.proofs.Common.{refl, sym, ◌∙◌, arith, take, inl, inr}
use Rattle.session.proofs.LineLaws.{Adds, adds, next_after, lines_none, lines_on}
use Rattle.session.proofs.lines.whole_lines.Given as given
use Rattle.session.proofs.lines.whole_lines.Goals as goal
use Rattle.session.proofs.lines.whole_lines.Goals.{Joined-asks, then-asks, else-asks}

-- what a turn adds, whether its line asks or not
line-adds : (g : given.Over) (c : Joined-asks g) → Adds (g.P.Program.rules.answer c.loop-end.next c.line-shown.result.now) c.loop-end.out c.loop-end.n c.if-asks.next c.if-asks.out c.if-asks.n
line-adds g c =
    let l = c.loop-end in
    let v = l.invariant in
    let shown = c.line-shown.result.now in
    let want = g.P.Program.rules.answer l.next shown in
    let room = c.if-out-n-ge-LONGEST_ANSWER.true in
    elim c.if-asks.branch [
      | then-asks w ↦
          let x = w.asked-n in
          rw (w.next-is, w.out-is, w.n-is)
          (adds want l.out _ x.new.out l.n _ l.next v.fits room x.auto.out (sym (g.met.P.Program.laws.asked_stays l.next shown (sym c.asks.ensures ∙ w.if-asks.true))) v.lawful x.ensures)
      | else-asks w ↦
          let x = w.answer_line-said in
          rw (w.next-is, w.out-is, w.n-is)
          (adds want l.out _ x.new.out l.n _ _ v.fits room x.auto.out x.ensures.state x.ensures.lawful x.ensures.prints)
    ]

pub loop-end-init : goal.loop-end-init
loop-end-init g c =
    let a = c.args in
    record {
      lawful = c.requires.lawful;
      stands = inl (refl, refl, refl);
      goes = lines_none g.P.Program.rules a.b a.first.now a.bytes.now a.from;
      ends = c.found-end.ensures;
      start_most = omega (arith, c.requires.ends.inside);
      held_most = omega arith;
      fits = omega arith;
      same = refl;
      out_size = omega arith;
      bytes_size = omega arith;
    }

pub loop-end-preserved : goal.loop-end-preserved
loop-end-preserved g c =
    let l = c.loop-end in
    let a = c.args in
    let v = l.invariant in
    let x = line-adds g (goal.at.loop-end-preserved g c).Joined-asks in
    record {
      lawful = x.lawful;
      stands = inr (refl, omega (arith, v.ends, next_after a.first.now a.bytes.now a.from l.held l.n l.start v.stands));
      goes =
          lines_on g.P.Program.rules a.b a.first.now a.bytes.now a.from c.requires.ends l.next _ _ (take l.n l.out) _ l.held l.n l.start l.end v.ends c.loop-end-test.true v.goes c.line-shown.ensures x.state x.text v.stands;
      ends = c.found-end-in-loop-end.ensures;
      start_most = omega (arith, c.loop-end-test.true);
      held_most = omega arith;
      fits = x.fits;
      same = x.same ∙ v.same;
      out_size = omega (arith, x.same, v.out_size);
      bytes_size = v.bytes_size;
    }
