-- A line that is no latch is answered as the listing answers it.
use Rattle.answer.proofs.AnswerLaws.{as_says}
use Rattle.latch.proofs.LatchLaws.{latch_listed}
use Rattle.session_programs.proofs.StampsProgram.answer_line.Goals as goal

pub returns : goal.returns
returns c = as_says (latch_listed c.args.b c.args.text.now c.requires.text_value) c.answer_line.ensures
