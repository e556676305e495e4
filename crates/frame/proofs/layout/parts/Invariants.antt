use Rattle.std.proofs.Common.{◌≡◌, ◌+◌, ◌++◌, length, take, drop}
use Rattle.numbers.specs.Table.{total, parted}
use Rattle.frame.specs.Frame.{frame_length, widths}
use Rattle.frame.proofs.layout.parts.Given as goal

-- the rows before `row` hold what stands in the bytes before `at`
abbrev pub invariant-loop-row : goal.invariant-loop-row
invariant-loop-row l = record {
  rows : length l.values ≡ 24;
  left : l.at + total (drop l.row widths) ≡ frame_length;
  so_far : take l.row l.values ++ parted (drop l.row widths) l.at l.frame ≡ parted widths 0 l.frame;
}
