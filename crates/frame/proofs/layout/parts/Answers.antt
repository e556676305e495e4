-- Row by row, and at the end all of them.
use Rattle.std.proofs.Common.{◌≡◌, sym, ◌∙◌, take, arith}
use Rattle.std.proofs.lemmas.List.{take_all, append-nil, length-set}
use Rattle.numbers.specs.Table.{parted}
use Rattle.numbers.proofs.Table.{at_most_widest, held_parted}
use Rattle.frame.specs.Frame.{widths}
use Rattle.frame.proofs.RowLaws.{row_fits, row_ends, row_parted}
use Rattle.frame.proofs.layout.parts.Goals as goal

pub number_at-requires : goal.number_at-requires
number_at-requires c =
    let l = c.loop-row in
    (at_most_widest widths l.row, omega (arith, row_fits widths l.at l.row c.loop-row-test.true l.invariant.left, c.requires))

pub overflow_add-at : goal.overflow_add-at
overflow_add-at c =
    let l = c.loop-row in
    omega (arith, row_fits widths l.at l.row c.loop-row-test.true l.invariant.left)

pub loop-row-preserved : goal.loop-row-preserved
loop-row-preserved c =
    let l = c.loop-row in
    let n = c.number_at in
    record {
      rows = rw length-set l.invariant.rows;
      left = row_ends widths l.at l.row c.loop-row-test.true l.invariant.left;
      so_far = row_parted widths l.at l.row c.loop-row-test.true l.invariant.left l.values c.args.frame.now _ n.result (omega arith) n.ensures.value l.invariant.so_far;
    }

pub returns : goal.returns
unfolding parted
returns c =
    let l = c.loop-row in
    let s = c.args.frame.now in
    let e : l.row ≡ 24 = omega arith in
    let all : l.values ≡ parted widths 0 s =
    sym (take_all 24 l.values (omega arith)) ∙ sym (append-nil (take 24 l.values)) ∙ (rw e at l.invariant.so_far) in
    record { value = all; held = rw all (held_parted widths 0 s (λ i. omega (arith, c.type_inv.frame i)) (omega arith)) }
