-- What stands and what is left are the bytes of the whole.
use Rattle.std.proofs.Common.{◌∙◌, arith}
use Rattle.hexadecimal.proofs.DigitLaws.{pairs_step, pairs_end}
use Rattle.hexadecimal.proofs.digits.bytes.Goals as goal

pub loop-i-preserved : goal.loop-i-preserved
loop-i-preserved c = pairs_step c.args.text.now c.loop-i.out c.loop-i.i c.byte.result (omega arith) (omega arith) c.byte.ensures ∙ c.loop-i.invariant

pub returns : goal.returns
returns c = pairs_end c.args.text.now c.loop-i.out c.loop-i.i (omega arith) (omega arith) ∙ c.loop-i.invariant
