-- The columns fit a line.
use native.Mathlib.Omega.{arith}
use Rattle.columns.proofs.ColumnLaws.{length_columns, printed}
use Rattle.columns.proofs.line.Goals as goal
use Rattle.columns.proofs.line.Goals.{After-put, Start}

pub returns : goal.returns
returns c =
    let p = c.put in
    printed record { value = omega (arith, p.ensures.value); out_after = p.ensures.out_after } (omega (arith, length_columns c.args.widths.now c.args.values.now c.requires.widths_len, p.ensures.value, c.requires.widths_bound))
