-- What a line is answered with.
use Rattle.std.specs.Prelude.{ℕ, not, cond, List, length, take, T, eqb, Option, Some, None, Result, Ok, Err, ⊤}
use Rattle.std.specs.Float.Ieee.{is_nan, to_bits}
use Rattle.std.specs.Float.{binary64}
use Rattle.numbers.specs.Bytes.{number_bytes}
use Rattle.refusals.specs.Refusals.{done, number_of}
use Rattle.refusals.specs.Answer.{answer_number}
use Rattle.refusals.specs.declared.Refusal.{Refusal}
use Rattle.times.specs.declared.GrandTime.{GrandTime}
use Rattle.timeline.specs.Drift.{drift_no}
use Rattle.timeline.specs.declared.Drift.{Drift}
use Rattle.timeline.specs.declared.Drift.TheVariants.{NoReading, PartsPerMillion, Refused as no_clock}
use Rattle.choice.specs.Choose.{shown_port, shown_hop}
use Rattle.choice.specs.declared.Candidate.{Candidate}
use Rattle.bridge.specs.Setup.{setup_of}
use Rattle.bridge.specs.Links.{links_of}
use Rattle.bridge.specs.Own.{own_clock_of}
use Rattle.bridge.specs.Receive.{receive_of}
use Rattle.bridge.specs.Age.{age_of}
use Rattle.bridge.specs.Chosen.{chosen_of}
use Rattle.bridge.specs.Ranked.{ranked_of}
use Rattle.bridge.specs.Send.{send_of, send_bytes}
use Rattle.bridge.specs.Drift.{drift_at}
use Rattle.bridge.specs.declared.Bridge.{Bridge}
use Rattle.bridge.specs.declared.Done.{Done}
use Rattle.recorder.specs.Stamp.{stamp_of}
use Rattle.columns.specs.Columns.{line1, line2, line_with, line_time}
use Rattle.forms.specs.Form.{number_in}
use Rattle.forms.specs.Value.{byte_in, size_in}
use Rattle.forms.specs.declared.Form.{Form}
use Rattle.answer.specs.Answer.{Answer, says, refused_line, done_says}
use Rattle.replay_grammar.specs.Row.{letter_s, letter_p, letter_v, letter_l, letter_o, letter_r, letter_a, letter_c, letter_t, letter_d, letter_e, letter_k}
use Rattle.replay_grammar.specs.Line.{letter_of, form_for}
use Rattle.replay_frames.specs.Frames.{untouched, plain_text}
use Rattle.replay_setup.specs.Argument.{setup_in}

-- ---- the calls that change the state

abbrev pub link_text : Result ℕ Refusal → List ℕ
link_text (Ok n) = line2 done n
link_text (Err refusal) = line1 (number_of refusal)

abbrev pub linked_says : Done ℕ → Answer
linked_says l = says l.next (link_text l.answer)

abbrev pub sent_says : Done ⊤ → List ℕ → Answer
sent_says d bytes = says d.next (line_with (answer_number d.answer) bytes)

unfoldable pub send_says : Bridge → ℕ → ℕ → List ℕ → Answer
send_says b port t out = sent_says (send_of b port t (length out)) (send_bytes b port t out)

-- ---- the calls that leave the state as it is

-- of C and K: port and held hop
abbrev pub chosen_text : Option Candidate → List ℕ
chosen_text choice = line2 (shown_port choice) (shown_hop choice)

-- a drift in parts per million is a number
abbrev pub IsNumber : Drift → Type 0
IsNumber no_clock = Unit {0}
IsNumber NoReading = Unit {0}
IsNumber (PartsPerMillion x) = T (not (is_nan x))

abbrev pub drift_text : Drift → List ℕ
drift_text no_clock = line1 (drift_no no_clock)
drift_text NoReading = line1 (drift_no NoReading)
drift_text (PartsPerMillion x) = line_with (drift_no (PartsPerMillion x)) (number_bytes 8 (to_bits binary64 x))

abbrev pub stamp_text : Result GrandTime Refusal → List ℕ
stamp_text (Ok g) = line_time done g.0 g.1
stamp_text (Err refusal) = line1 (number_of refusal)

-- ---- the letter's call

-- C, D, E, K, and the plain lines: what is printed
unfoldable pub asked_text : ℕ → Bridge → Form → List ℕ
asked_text letter b f =
    cond (eqb letter letter_c) (chosen_text (chosen_of b))
    (cond (eqb letter letter_d) (drift_text (drift_at b (byte_in f 0)))
    (cond (eqb letter letter_e) (stamp_text (stamp_of b (number_in f 0)))
    (cond (eqb letter letter_k) (chosen_text (ranked_of b (byte_in f 0)))
    (plain_text letter f))))

-- S, P, V, L, O, R, A, T, and those
unfoldable pub call_of : ℕ → Bridge → Form → Answer
call_of letter b f =
    cond (eqb letter letter_s) (done_says (setup_of (setup_in letter f)))
    (cond (eqb letter letter_p) (done_says (setup_of (setup_in letter f)))
    (cond (eqb letter letter_v) (done_says (setup_of (setup_in letter f)))
    (cond (eqb letter letter_l) (linked_says (links_of b (byte_in f 0)))
    (cond (eqb letter letter_o) (done_says (own_clock_of b (byte_in f 0) (number_in f 1) (number_in f 2) (number_in f 3)))
    (cond (eqb letter letter_r) (done_says (receive_of b (byte_in f 0) (take (size_in f 2) f.bytes) (number_in f 1)))
    (cond (eqb letter letter_a) (done_says (age_of b (number_in f 0)))
    (cond (eqb letter letter_t) (send_says b (byte_in f 0) (number_in f 1) (untouched (size_in f 2)))
    (says b (asked_text letter b f)))))))))

-- a line is answered by its letter's call, where its fields are those that the letter wants
abbrev pub answer_with : Bridge → ℕ → Option Form → Answer
answer_with b letter None = refused_line b
answer_with b letter (Some f) = call_of letter b f

unfoldable pub answer_of : Bridge → List ℕ → Answer
answer_of b s = answer_with b (letter_of s) (form_for s)
