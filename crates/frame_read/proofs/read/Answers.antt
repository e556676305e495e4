-- A length that is not 64, a refusal of the constants, or the fields.
use Rattle.std.proofs.Common.{◌≡◌, sym, ap, ◌∙◌, Ok}
use Rattle.std.proofs.lemmas.Result.{err_from_is_err_and}
use Rattle.refusals.specs.declared.Refusal.TheVariants.{WrongLength}
use Rattle.frame.specs.Frame.{fields_of}
use Rattle.frame.specs.Read.{read_refusal}
use Rattle.frame.proofs.FrameLaws.{short, by_rows, refused, framed, promised}
use Rattle.frame_read.proofs.read.Goals as goal
use Rattle.frame_read.proofs.read.Goals.{After-constants_refusal}

pub returns-then-frame-ne-FRAME_LENGTH : goal.returns-then-frame-ne-FRAME_LENGTH
returns-then-frame-ne-FRAME_LENGTH c =
    let s = c.args.frame.now in
    promised s _ (refused WrongLength s (short s c.if-frame-ne-FRAME_LENGTH.true))

-- what the constants are refused with, the frame is
refusal : (c : After-constants_refusal) → c.constants_refusal.result ≡ read_refusal c.args.frame.now
refusal c = c.constants_refusal.ensures ∙ by_rows c.args.frame.now c.parts-values.result c.if-frame-ne-FRAME_LENGTH.false c.parts-values.ensures.value

pub returns-in_err-constants_refusal : goal.returns-in_err-constants_refusal
returns-in_err-constants_refusal c =
    let s = c.args.frame.now in
    let p = err_from_is_err_and c.from_residual.result c.from_residual.ensures.1 in
    rw (p.1, p.2) (promised s _ (refused _ s (sym c.in_err-constants_refusal.was ∙ refusal (goal.at.returns-in_err-constants_refusal c).After-constants_refusal)))

pub returns : goal.returns
returns c =
    let s = c.args.frame.now in
    promised s _
    (ap (λ f. Ok f) (c.fields.ensures ∙ ap fields_of c.parts-values.ensures.value)
    ∙ framed s (sym c.in_ok-constants_refusal.was ∙ refusal (goal.at.returns c).After-constants_refusal))
