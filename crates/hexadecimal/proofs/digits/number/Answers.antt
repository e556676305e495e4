-- What is read and what is left make the whole number, digit by digit.
use Rattle.std.proofs.Common.{◌≡◌, ℕ, ◌+◌, ◌*◌, ◌^◌, ◌<◌, ◌≤◌, length, sym, ◌∙◌, arith, lit<}
use lib.Seq.{drop-length}
use Rattle.hexadecimal.proofs.DigitLaws.{room, room16, worth_next, worth_end}
use Rattle.hexadecimal.proofs.digits.number.Goals as goal

-- v with one digit more fits
fits : (i v d n : ℕ) → v < 16 ^ i → i < n → n ≤ 16 → d < 16 → v * 16 + d < 2 ^ 64
fits i v d n g l m h = room16 (i + 1) (room i v d g h) (omega arith)

pub overflow_mul-v : goal.overflow_mul-v
overflow_mul-v c = omega (arith, fits c.loop-c.c-index c.loop-c.v 0 _ c.loop-c.invariant.0 c.loop-c-test.true c.requires (lit< tt))

pub overflow_add-v : goal.overflow_add-v
overflow_add-v c = omega (arith, fits c.loop-c.c-index c.loop-c.v c.from.result _ c.loop-c.invariant.0 c.loop-c-test.true c.requires (omega arith))

pub loop-c-preserved : goal.loop-c-preserved
loop-c-preserved c =
    let l = c.loop-c in (
      room l.c-index l.v c.from.result l.invariant.0 (omega arith),
      rw (c.from.ensures, c.value.ensures) (worth_next c.args.text.now l.c-index l.v c.loop-c-test.true ∙ l.invariant.1),
    )

pub returns : goal.returns
returns c =
    let l = c.loop-c in
    let s = c.args.text.now in
    let e : l.c-index ≡ length s = omega arith in
    sym (worth_end l.v) ∙ (rw (e, drop-length) at l.invariant.1)
