-- No bytes, or some.
use mathlib.Core.Path.{sym, ◌∙◌}
use mathlib.Core.Bool.{true≢false}
use native.Mathlib.Omega.{arith}
use borrow.Author.Tests.{eqb-true, eq-eqb}
use Rattle.hexadecimal.proofs.PrintLaws.{length_text}
use Rattle.columns.specs.Columns.{column_text}
use Rattle.columns.proofs.ColumnLaws.{bytes_none, bytes_some}
use Rattle.columns.proofs.put_text.Goals as goal

pub returns-then-is_empty : goal.returns-then-is_empty
unfolding column_text
returns-then-is_empty c = rw (bytes_none c.args.bytes.now (eqb-true _ _ (sym c.is_empty.ensures ∙ c.if-is_empty.true))) c.put_column.ensures

pub returns : goal.returns
returns c =
    let s = c.args.bytes.now in
    rw (bytes_some s (λ e. true≢false (sym (eq-eqb _ _ e) ∙ (sym c.is_empty.ensures ∙ c.if-is_empty.false)))) record { value = omega (arith, length_text s); out_after = c.put_at.ensures }
