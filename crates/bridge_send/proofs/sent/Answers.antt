-- By the refusals over numbers; else by what the port sends for the chosen clock, which is the first of the ranking.
use Rattle.std.proofs.Common.{◌≡◌, ◌<◌, ◌≤◌, ℕ, ◌-◌, length, set, Result, refl, sym, ap, ◌∙◌, arith}
use Rattle.refusals.specs.Answer.{granted}
use Rattle.refusals.specs.declared.Refusal.{Refusal}
use Rattle.frame.specs.Frame.{frame_length}
use Rattle.frame.specs.declared.Fields.{Fields}
use Rattle.times.specs.declared.LocalTime.{LocalTime}
use Rattle.port.specs.Send.{sending_of, sending_done, sending_bytes}
use Rattle.port.specs.declared.Port.{Port}
use Rattle.port.specs.declared.Outcome.{Outcome}
use Rattle.bridge.specs.Table.{port_at, samples_at}
use Rattle.bridge.specs.Arguments.{send_refusal}
use Rattle.bridge.specs.State.{version_at, answers}
use Rattle.bridge.specs.Chosen.{chosen_of}
use Rattle.bridge.specs.Send.{sending_at}
use Rattle.bridge.specs.declared.Bridge.{Bridge}
use Rattle.port.proofs.Leaves.{sent_used}
use Rattle.bridge.proofs.CheckLaws.{Ready, send_ready}
use Rattle.bridge.proofs.TableLaws.{samples_lawful}
use Rattle.bridge.proofs.RankingLaws.{ranking_keeps, stored_kept}
use Rattle.bridge.proofs.Ranking.{kept_chosen}
use Rattle.bridge.proofs.StateLaws.{send_stores, send_fills, sending_chosen}
use Rattle.bridge_send.proofs.sent.Goals as goal
use Rattle.bridge_send.proofs.sent.Goals.{In_ok-send_refusal, After-send-sent}

-- where the call was not refused: a port with a link, a local time in range, and room
granted_is : (c : In_ok-send_refusal) → granted ≡ send_refusal c.args.b.now.setup.n c.args.b.now.links c.args.port c.args.t (length c.args.out.now)
granted_is c = sym c.in_ok-send_refusal.was ∙ c.send_refusal.ensures

ready : (c : In_ok-send_refusal) → Ready c.args.b.now.setup.n c.args.port c.args.t × (frame_length ≤ length c.args.out.now)
ready c = send_ready _ _ _ _ _ (sym (granted_is c))

index : (c : In_ok-send_refusal) → c.args.port - 1 < 8
index c = omega (arith, (ready c).0.low, (ready c).0.high, c.requires.setup_lawful.ports_most)

pub candidate_at-choice-requires : goal.candidate_at-choice-requires
candidate_at-choice-requires c = (_, ranking_keeps _ c.requires)

pub overflow_sub-port : goal.overflow_sub-port
overflow_sub-port c = (ready (goal.at.overflow_sub-port c).In_ok-send_refusal).0.low

pub bounds-b-i : goal.bounds-b-i
bounds-b-i c = omega (arith, c.from-i.ensures, index (goal.at.bounds-b-i c).In_ok-send_refusal)

-- the port has a version
pub bounds-b-i-2 : goal.bounds-b-i-2
bounds-b-i-2 c = omega (arith, c.from-i.ensures, index (goal.at.bounds-b-i-2 c).In_ok-send_refusal)

pub send-sent-requires-clause-lawful_samples : goal.send-sent-requires-clause-lawful_samples
send-sent-requires-clause-lawful_samples c =
    rw c.samples-samples.ensures (samples_lawful _ _ _ c.requires.clock_lawful c.requires.ports_lawful)

pub send-sent-requires-clause-frame_length_in_bounds : goal.send-sent-requires-clause-frame_length_in_bounds
send-sent-requires-clause-frame_length_in_bounds c = (ready (goal.at.send-sent-requires-clause-frame_length_in_bounds c).In_ok-send_refusal).1

pub bounds-b-i-3 : goal.bounds-b-i-3
bounds-b-i-3 c = omega (arith, c.from-i.ensures, index (goal.at.bounds-b-i-3 c).In_ok-send_refusal)

-- what a port sends is for the chosen clock, which is the first of the ranking, by the samples of its number
module _ (c : After-send-sent) where
  abbrev b : Bridge
  b = c.args.b.now

  abbrev t : LocalTime
  t = record { 0 = c.args.t }

  abbrev given : ℕ → Result Fields Refusal
  given i = sending_of c.candidate_at-choice.result c.samples-samples.result b.setup.sender (version_at b i) t (port_at b.ports i)

  sending : (i : ℕ) → given i ≡ sending_at (chosen_of b) b i t
  sending i =
      sending_chosen b i t _ _ _ (c.candidate_at-choice.ensures ∙ kept_chosen _ c.requires)
      (c.samples-samples.ensures ∙ ap (λ (n : ℕ). samples_at n b.clock b.ports) c.number.ensures) refl

  done : c.send-sent.result ≡ sending_done (sending_at (chosen_of b) b (c.args.port - 1) t) (port_at b.ports (c.args.port - 1))
  done =
      c.send-sent.ensures.value
      ∙ ap (λ (i : ℕ). sending_done (given i) (port_at b.ports i)) c.from-i.ensures
      ∙ ap (λ (x : Result Fields Refusal). sending_done x (port_at b.ports (c.args.port - 1))) (sending (c.args.port - 1))

  bytes : c.send-sent.new.out ≡ sending_bytes (sending_at (chosen_of b) b (c.args.port - 1) t) c.args.out.now
  bytes = c.send-sent.ensures.out_after ∙ ap (λ (x : Result Fields Refusal). sending_bytes x c.args.out.now) (ap given c.from-i.ensures ∙ sending (c.args.port - 1))

pub returns-clause-done : goal.returns-clause-done
returns-clause-done c =
    let at = goal.at.returns-clause-done c in
    let b = c.args.b.now in
    let i = c.args.port - 1 in
    let q = c.send-sent.result.after in
    let sent = done at.After-send-sent in
    -- a port that sends announces what it did
    let announced = ap (λ (x : Outcome Port). x.after.announcement) sent ∙ (sent_used (port_at b.ports i)).announcement in
    ap (λ (k : ℕ). answers c.send-sent.result.answer (record b { ports = set b.ports k q })) c.from-i.ensures
    ∙ ap (answers c.send-sent.result.answer) (stored_kept b c.requires i q announced)
    ∙ send_stores _ _ _ c.args.out.now c.send-sent.result (granted_is at.In_ok-send_refusal) sent

pub returns-clause-bytes : goal.returns-clause-bytes
returns-clause-bytes c =
    let at = goal.at.returns-clause-bytes c in
    bytes at.After-send-sent ∙ send_fills _ _ _ c.args.out.now (granted_is at.In_ok-send_refusal)
