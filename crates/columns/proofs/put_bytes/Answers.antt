-- The bytes, and then the newline.
use Prim.Native.Nat.{◌-◌}
use lib.ListN.{length}
use native.Mathlib.Omega.{arith}
use Rattle.columns.specs.Columns.{column_text, bytes_text, bytes_line}
use Rattle.columns.proofs.ColumnLaws.{puts_both, bytes_fit}
use Rattle.columns.proofs.put_bytes.Goals as goal

pub put_column-requires : goal.put_column-requires
put_column-requires c =
    omega (arith, bytes_fit c.args.bytes.now (length c.args.out.now - c.args.at - 1) (omega arith) (omega arith), c.put_text-end.ensures.value, c.put_text-end.auto.out)

pub returns : goal.returns
unfolding column_text bytes_line
returns c =
    let a = c.args in
    puts_both a.out.now c.put_text-end.new.out c.put_column.new.out (bytes_text a.bytes.now) (column_text 0 10) a.at c.put_text-end.result c.put_column.result (omega arith) c.put_text-end.ensures c.put_column.ensures
