-- A refusal leaves the output; else the frame fills its first 64 bytes.
use Rattle.std.proofs.Common.{sym, ap, ◌∙◌, length}
use Rattle.std.proofs.lemmas.Result.{err_from_is_err_and}
use Rattle.refusals.specs.Answer.{answer_number}
use Rattle.frame.proofs.FrameLaws.{in_range, filled, untouched}
use Rattle.frame_write.proofs.write.Goals as goal

pub put-requires : goal.put-requires
put-requires c =
    let a = c.args in
    (in_range a.f (length a.out.now) (sym c.write_refusal.ensures ∙ c.in_ok-write_refusal.was)).room

pub returns-in_err-write_refusal : goal.returns-in_err-write_refusal
returns-in_err-write_refusal c =
    let a = c.args in
    let p = err_from_is_err_and c.from_residual.result c.from_residual.ensures.1 in
    let e = sym c.in_err-write_refusal.was ∙ c.write_refusal.ensures in
    rw (p.1, p.2) record { answer = e; number = ap answer_number e; bytes = untouched a.f _ a.out.now e }

pub returns : goal.returns
returns c =
    let a = c.args in
    let e = sym c.in_ok-write_refusal.was ∙ c.write_refusal.ensures in
    record { answer = e; number = ap answer_number e; bytes = c.put.ensures ∙ filled a.f a.out.now e }
