-- One character, or a number's digits.
use mathlib.Core.Path.{refl}
use Prim.Native.Nat.{◌%◌}
use native.Mathlib.Numerals.{add-one}
use lib.Seq.{set_split}
use native.Mathlib.Omega.{arith}
use Rattle.columns.proofs.ColumnLaws.{column_character, column_number, length_column}
use Rattle.columns.proofs.put_column.Goals as goal

pub bounds-out-at : goal.bounds-out-at
bounds-out-at c = let h = rw c.if-width-eq-CHARACTER.true at c.requires in omega arith

pub returns-then-width-eq-CHARACTER : goal.returns-then-width-eq-CHARACTER
returns-then-width-eq-CHARACTER c =
    let a = c.args in
    let h = rw c.if-width-eq-CHARACTER.true at c.requires in
    rw (column_character a.width a.value c.if-width-eq-CHARACTER.true) record { value = refl; out_after = rw add-one (set_split a.out.now a.at (a.value % 256) (omega arith)) }

pub put_number-requires : goal.put_number-requires
put_number-requires c = omega (arith, (column_number c.args.width 0 c.if-width-eq-CHARACTER.false).0)

pub overflow_mul-result : goal.overflow_mul-result
overflow_mul-result c = omega (arith, (column_number c.args.width 0 c.if-width-eq-CHARACTER.false).0)

pub overflow_add-result-2 : goal.overflow_add-result-2
overflow_add-result-2 c = omega (arith, (column_number c.args.width 0 c.if-width-eq-CHARACTER.false).0)

pub returns : goal.returns
returns c =
    let a = c.args in
    let n = column_number a.width a.value c.if-width-eq-CHARACTER.false in
    record { value = omega (arith, length_column a.width a.value, n.0); out_after = rw n.1 c.put_number.ensures }
