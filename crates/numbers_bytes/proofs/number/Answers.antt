-- What is read and what is left make the whole number, byte by byte.
use mathlib.Core.Path.{◌≡◌, ◌∙◌}
use Prim.Native.Nat.{ℕ, ◌≤◌, ◌<◌, ◌^◌, ◌+◌, ◌*◌}
use native.Mathlib.Omega.{arith}
use lib.ListN.{length}
use lib.Seq.{drop-length}
use lib.Dec.{lit<}
use Rattle.numbers.proofs.Places.{room, room8, onto_next}
use Rattle.numbers_bytes.proofs.number.Goals as goal

-- v with one byte more fits
fits : (i v b n : ℕ) → v < 256 ^ i → i < n → n ≤ 8 → b < 256 → v * 256 + b < 2 ^ 64
fits i v b n g l m h = room8 (i + 1) (room i v b g h) (omega arith)

pub overflow_mul-v : goal.overflow_mul-v
overflow_mul-v c = omega (arith, fits c.loop-x.x-index c.loop-x.v 0 _ c.loop-x.invariant.0 c.loop-x-test.true c.requires (lit< tt))

pub overflow_add-v : goal.overflow_add-v
overflow_add-v c = omega (arith, fits c.loop-x.x-index c.loop-x.v c.from.result _ c.loop-x.invariant.0 c.loop-x-test.true c.requires (omega (arith, c.type_inv.s c.loop-x.x-index)))

pub loop-x-preserved : goal.loop-x-preserved
loop-x-preserved c =
    let l = c.loop-x in (
      room l.x-index l.v c.from.result l.invariant.0 (omega (arith, c.type_inv.s l.x-index)),
      rw c.from.ensures (onto_next c.args.s.now l.x-index l.v c.loop-x-test.true ∙ l.invariant.1),
    )

pub returns : goal.returns
returns c =
    let e : c.loop-x.x-index ≡ length c.args.s.now = omega arith in
    record { value = (rw (e, drop-length) at c.loop-x.invariant.1); upper_bound = (rw e at c.loop-x.invariant.0) }
