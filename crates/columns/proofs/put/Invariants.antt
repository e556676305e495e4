use mathlib.Core.Path.{◌≡◌}
use mathlib.Core.List.{List}
use Prim.Native.Nat.{ℕ, ◌+◌, ◌≤◌}
use lib.ListN.{length}
use Rattle.std.specs.Iterator.Adapters.{zip_first, zip_second}
use Rattle.std.specs.Slice.Iter.{iter_rest}
use Rattle.columns.specs.Columns.{columns_text, room}
use Rattle.columns.proofs.ColumnLaws.{Puts}
use Rattle.columns.proofs.put.Given as goal

-- the columns that are left take the room that is left, and where they are put from here on, all are put from the start
abbrev pub invariant-loop-width : goal.invariant-loop-width
invariant-loop-width l = let ws = iter_rest (zip_first l.width-iterator) in let vs = iter_rest (zip_second l.width-iterator) in record {
  as_many : length ws ≡ length vs;
  same_len : length l.out ≡ length l.initial.out;
  fits : l.at + room ws ≤ length l.out;
  puts : (left : List ℕ) (end : ℕ) → Puts (columns_text ws vs) l.at end l.out left → Puts (columns_text l.widths l.values) 0 end l.initial.out left;
}
