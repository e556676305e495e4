-- Both frames are parts of the line's bytes.
use native.Mathlib.Omega.{arith}
use native.Mathlib.Nat.{add-sub_cancel_left}
use Rattle.columns.proofs.ColumnLaws.{as_prints}
use Rattle.replay_frames.proofs.FrameLaws.{better-text, better_short}
use Rattle.replay_frames.proofs.better.Goals as goal

pub only_bytes-requires-clause-bytes_len_bound : goal.only_bytes-requires-clause-bytes_len_bound
only_bytes-requires-clause-bytes_len_bound c = omega (arith, better_short c.better.result _ _ c.better.ensures.part)

pub returns : goal.returns
returns c =
    as_prints
    (rw (add-sub_cancel_left c.size-n.result c.size.result, c.size-n.ensures, c.size.ensures) at (better-text c.better.result _ _ c.better.ensures.part))
    c.only_bytes.ensures
