-- Where the columns that are left are put from here on, all are put from the start.
use mathlib.Core.Path.{◌≡◌, ap, ◌∙◌}
use mathlib.Core.Logic.{inl, inr}
use native.Mathlib.Omega.{arith}
use lib.ListN.{length}
use Rattle.std.specs.Iterator.Adapters.{zip_first}
use Rattle.std.specs.Slice.Iter.{iter_rest}
use Rattle.columns.specs.Columns.{columns_text, room}
use Rattle.columns.proofs.ColumnLaws.{Puts, length_column, puts_nothing, next_column, no_columns}
use borrow.Author.Rules.{rules}
use Rattle.columns.proofs.put.Goals as goal
use Rattle.columns.proofs.put.Goals.{In-None}

pub put_column-at-requires : goal.put_column-at-requires
put_column-at-requires c = omega (arith, c.loop-width.invariant.fits, ap room c.in-Some.ensures.steps.0)

pub loop-width-preserved : goal.loop-width-preserved
loop-width-preserved c =
    let l = c.loop-width in
    let h = c.in-Some.ensures.steps in
    let p = c.put_column-at in record {
      as_many = omega (arith, ap length h.0, ap length h.1, l.invariant.as_many);
      same_len = search rules;
      fits = omega (arith, ap room h.0, l.invariant.fits, length_column c.in-Some.width.now c.in-Some.value.now, p.ensures.value, p.auto.out);
      puts = λ left end q.
          l.invariant.puts left end
          (rw (h.0, h.1) (next_column c.in-Some.width.now c.in-Some.value.now _ _ l.out p.new.out left l.at p.result end (omega (arith, l.invariant.fits)) p.ensures q));
    }

-- no width is left, since there are as many values
ended : (c : In-None) → length (iter_rest (zip_first c.loop-width.width-iterator)) ≡ 0
ended c = elim c.in-None.ensures.steps [ inl p ↦ p.1.0 | inr p ↦ c.loop-width.invariant.as_many ∙ p.1.0 ]

-- so all are put
all : (c : In-None) → Puts (columns_text c.args.widths.now c.args.values.now) 0 c.loop-width.at c.args.out.now c.loop-width.out
all c =
    let l = c.loop-width in
    l.invariant.puts l.out l.at (rw (no_columns _ _ (ended c)) (puts_nothing l.at l.out))

pub returns-clause-value : goal.returns-clause-value
returns-clause-value c = omega (arith, (all (goal.at.returns-clause-value c).In-None).value)

pub returns-clause-out_after : goal.returns-clause-out_after
returns-clause-out_after c = (all (goal.at.returns-clause-out_after c).In-None).out_after
