-- By whether the text is a line; the parts of a line's 71 bytes are received.
use Rattle.std.proofs.Common.{◌≡◌, refl, sym, ap, ◌∙◌, arith, take, drop, get_or, length-drop}
use lib.Seq.{take_all}
use Rattle.bridge.specs.Receive.{receive_of}
use Rattle.capture.specs.Capture.{listed_text, captured_from}
use Rattle.bridge.proofs.PromiseLaws.{done_is}
use Rattle.hexadecimal.proofs.DigitLaws.{exactly_length}
use Rattle.columns.proofs.ColumnLaws.{as_prints}
use Rattle.answer.proofs.AnswerLaws.{as_says}
use Rattle.capture.proofs.CaptureLaws.{listed_bad, listed_done}
use Rattle.capture.proofs.answer_line.Goals as goal

pub returns-then-not-exactly : goal.returns-then-not-exactly
returns-then-not-exactly c =
    as_says (listed_bad c.args.b c.args.text.now (sym c.exactly.ensures ∙ c.if-not-exactly.true))
    (record { state = refl; prints = as_prints (ap (listed_text _) c.chosen.ensures.answer) c.listed.ensures; lawful = c.requires.lawful })

pub bytes-requires : goal.bytes-requires
bytes-requires c = exactly_length _ _ (sym c.exactly.ensures ∙ c.if-not-exactly.false)

pub returns : goal.returns
returns c =
    let b = c.args.b in
    let x = c.bytes.new.out in
    let whole : take 64 (drop 7 x) ≡ drop 7 x = take_all 64 (drop 7 x) (rw (length-drop 7 x) (omega (arith, c.bytes.auto.out))) in
    let done = done_is c.receive-done.ensures ∙ (λ j. receive_of b (get_or x 0 0) (whole j) (c.number_at-arrival.ensures.value j)) ∙ ap (captured_from b) c.bytes.ensures in
    as_says (listed_done b c.args.text.now c.receive-done.result (sym c.exactly.ensures ∙ c.if-not-exactly.false) done)
    (record { state = refl; prints = as_prints (ap (listed_text _) c.chosen-2.ensures.answer) c.listed-2.ensures; lawful = c.receive-done.ensures.lawful })
