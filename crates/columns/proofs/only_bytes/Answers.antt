-- Bytes at the start.
use native.Mathlib.Omega.{arith}
use Rattle.columns.proofs.ColumnLaws.{printed, bytes_most}
use Rattle.columns.proofs.only_bytes.Goals as goal

pub returns : goal.returns
returns c =
    printed c.put_bytes.ensures (omega (arith, c.put_bytes.ensures.value, bytes_most c.args.bytes.now c.requires.bytes_len_bound))
