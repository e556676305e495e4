use Rattle.std.proofs.Common.{◌≡◌, drop}
use Rattle.std.specs.Slice.Iter.{chunks_exact_rest, chunks_exact_size}
use Rattle.hexadecimal.specs.Search.{found_at}
use Rattle.hexadecimal.proofs.search.past_blocks.Given as goal

abbrev pub invariant-loop-block : goal.invariant-loop-block
invariant-loop-block l = record {
  size : chunks_exact_size l.block-iterator ≡ 32;
  rest : chunks_exact_rest l.block-iterator ≡ drop l.i l.bytes;
  past : found_at l.mark l.bytes l.i ≡ found_at l.mark l.bytes l.from;
}
