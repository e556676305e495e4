-- The latch's number is stamped.
use Rattle.std.proofs.Common.{ap, ◌∙◌, arith}
use Rattle.recorder.specs.Stamp.{stamp_of}
use Rattle.latch.specs.Latch.{latch_digits, latch_text}
use Rattle.hexadecimal.proofs.DigitLaws.{exactly_length}
use Rattle.answer.specs.Answer.{Answer}
use Rattle.columns.proofs.ColumnLaws.{as_prints}
use Rattle.latch.proofs.LatchLaws.{latch_stamped}
use Rattle.latch.proofs.asked_line.Goals as goal

pub number-requires : goal.number-requires
number-requires c = omega (arith, exactly_length latch_digits _ c.requires.text_value)

pub returns : goal.returns
returns c =
    let stamp = c.stamp.ensures.answer ∙ ap (stamp_of c.args.b) c.number.ensures in
    as_prints (ap latch_text stamp ∙ ap (λ (x : Answer). x.text) (latch_stamped _ _ c.requires.text_value)) c.stamped.ensures
