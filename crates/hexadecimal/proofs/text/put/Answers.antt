-- What stands and what is left are the text of the whole.
use Rattle.std.proofs.Common.{◌∙◌, arith, rules}
use Rattle.hexadecimal.proofs.PrintLaws.{text_step, text_end}
use Rattle.hexadecimal.proofs.text.put.Goals as goal

pub loop-i-preserved : goal.loop-i-preserved
loop-i-preserved c =
    let l = c.loop-i in
    (search rules, rw c.put_byte.ensures (text_step c.args.bytes.now l.out l.i c.loop-i-test.true l.invariant.0 ∙ l.invariant.1))

pub returns : goal.returns
returns c = text_end c.args.bytes.now c.loop-i.out c.loop-i.i (omega arith) c.loop-i.invariant.0 ∙ c.loop-i.invariant.1
