-- The way on where it is the nearer one, else the way back.
use native.Mathlib.Omega.{arith}
use mathlib.Core.Path.{ap, ◌∙◌}
use Rattle.recorder.specs.Stamp.{nearer_way, distance_of}
use Rattle.numbers.proofs.Machine.{got}
use Rattle.times.proofs.TimeLaws.{since_lt}
use Rattle.recorder.proofs.DistanceLaws.{way_on, way_back}
use Rattle.recorder.proofs.distance.Goals as goal

pub returns-then-after-lt-HALF_WAY : goal.returns-then-after-lt-HALF_WAY
unfolding distance_of
returns-then-after-lt-HALF_WAY c =
    let k = c.before in
    got c.from_unsigned.type_inv (c.from_unsigned.ensures ∙ way_on _ k.if-after-lt-HALF_WAY.true ∙ ap nearer_way k.before.since-after.ensures)

pub difference-requires : goal.difference-requires
difference-requires c =
    let s = c.before.before.args in
    let small = since_lt s.latch s.newer in
    (omega (arith, c.before.since-after.ensures, small), omega (arith, c.before.since-after.ensures, small))

pub returns : goal.returns
unfolding distance_of
returns c =
    let k = c.before in
    got c.difference.type_inv (c.difference.ensures ∙ way_back _ k.if-after-lt-HALF_WAY.false ∙ ap nearer_way k.before.since-after.ensures)
