use Rattle.std.proofs.Common.{◌≡◌, ◌+◌, ◌≤◌, ◌++◌, length, take, drop}
use Rattle.numbers.specs.Table.{total, joined}
use Rattle.frame.specs.Frame.{frame_length, widths}
use Rattle.frame.proofs.layout.fill.Given as goal

-- the rows before this one stand in the bytes before `at`; the bytes after them are as they were
abbrev pub invariant-loop-value : goal.invariant-loop-value
invariant-loop-value l = record {
  can_next : (goal.iterator-loop-value).can_next l.value-iterator;
  is_finite : (goal.iterator-loop-value).is_finite l.value-iterator;
  first : l.initial.value-iterator.a.rest.now ≡ l.fn.values;
  second : l.initial.value-iterator.b.rest.now ≡ widths;
  rows : length l.fn.values ≡ 24;
  room : frame_length ≤ length l.initial.out;
  same_length : length l.out ≡ length l.initial.out;
  left : l.at + total (drop (length l.yielded) widths) ≡ frame_length;
  after : drop l.at l.out ≡ drop l.at l.initial.out;
  so_far : take l.at l.out ++ joined (drop (length l.yielded) widths) (drop (length l.yielded) l.fn.values) (drop frame_length l.initial.out)
      ≡ joined widths l.fn.values (drop frame_length l.initial.out);
}
