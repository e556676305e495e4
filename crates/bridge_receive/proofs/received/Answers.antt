-- By the refusals over numbers, by what is read, and then by the port's record, with H of the chosen clock before the call; a frame that is taken moves its port in the ranking.
use Rattle.std.proofs.Common.{◌≡◌, ◌<◌, ℕ, ◌+◌, ◌-◌, get_or, List, set, Fits, w8, Result, sym, ap, ◌∙◌, arith}
use Rattle.std.specs.Prelude.{⊤}
use Rattle.std.specs.Result.{is_ok}
use mathlib.Core.Bool.{false, true≢false}
use Rattle.refusals.specs.Answer.{answer_number, granted}
use Rattle.refusals.specs.declared.Refusal.{Refusal}
use Rattle.numbers.specs.Bytes.{Bytes}
use Rattle.choice.specs.Choose.{chosen_hop}
use Rattle.port.specs.Receive.{received_of}
use Rattle.port.specs.declared.Port.{Port}
use Rattle.port.specs.declared.Outcome.{Outcome}
use Rattle.bridge.specs.Table.{port_at}
use Rattle.bridge.specs.Arguments.{port_refusal}
use Rattle.bridge.specs.State.{with_port, answers, stores_port}
use Rattle.bridge.specs.Chosen.{chosen_of}
use Rattle.bridge.specs.Receive.{setting_at}
use Rattle.bridge.specs.declared.Bridge.{Bridge}
use Rattle.port.proofs.PortLaws.{read_in_range}
use Rattle.port.proofs.Leaves.{received_noted}
use Rattle.bridge.proofs.CheckLaws.{number_granted, Ready, port_ready}
use Rattle.bridge.proofs.RankingLaws.{ranking_keeps, ranking_stored, stored_made, stored_kept}
use Rattle.bridge.proofs.Ranking.{kept_chosen}
use Rattle.bridge.proofs.StateLaws.{receive_stores, receive_read}
use Rattle.bridge_receive.proofs.received.Goals as goal
use Rattle.bridge_receive.proofs.received.Goals.{In_ok-port_refusal, After-candidate_at-choice, After-from-i, then-is_ok, else-is_ok}

-- the elements of the frame are bytes
bytes : (s : List ℕ) → ((i : ℕ) → Fits w8 (get_or s i 0)) → Bytes s
bytes s h i = omega (arith, h i)

-- where the call was not refused: a port with a link, and a local time in range
granted_is : (c : In_ok-port_refusal) → granted ≡ port_refusal c.args.b.now.setup.n c.args.b.now.links c.args.port c.args.arrival
granted_is c = sym c.in_ok-port_refusal.was ∙ c.port_refusal.ensures

ready : (c : In_ok-port_refusal) → Ready c.args.b.now.setup.n c.args.port c.args.arrival
ready c = port_ready _ _ _ _ (sym (granted_is c))

index : (c : In_ok-port_refusal) → c.args.port - 1 < 8
index c = omega (arith, (ready c).low, (ready c).high, c.requires.setup_lawful.ports_most)

-- the first of the ranking is the chosen clock
chosen : (c : After-candidate_at-choice) → c.candidate_at-choice.result ≡ chosen_of c.args.b.now
chosen c = c.candidate_at-choice.ensures ∙ kept_chosen _ c.requires

pub candidate_at-choice-requires : goal.candidate_at-choice-requires
candidate_at-choice-requires c = (_, ranking_keeps _ c.requires)

-- the port's number is that after its index
number : (c : In_ok-port_refusal) → c.args.port ≡ c.args.port - 1 + 1
number c = omega (arith, (ready c).low)

-- an answer that is not done has another number than 0
not_ok : (answer : Result ⊤ Refusal) → is_ok answer ≡ false → answer_number answer ≡ 0 → ⊥
not_ok answer e z = true≢false (sym (ap is_ok (number_granted {answer = answer} z)) ∙ e)

pub overflow_sub-port : goal.overflow_sub-port
overflow_sub-port c = (ready (goal.at.overflow_sub-port c).In_ok-port_refusal).low

pub bounds-b-i : goal.bounds-b-i
bounds-b-i c = omega (arith, c.from-i.ensures, index (goal.at.bounds-b-i c).In_ok-port_refusal)

pub bounds-b-i-2 : goal.bounds-b-i-2
bounds-b-i-2 c = omega (arith, c.from-i.ensures, index (goal.at.bounds-b-i-2 c).In_ok-port_refusal)

pub receive-received-requires-clause-fields_in_range : goal.receive-received-requires-clause-fields_in_range
receive-received-requires-clause-fields_in_range c = read_in_range _ _ (bytes _ c.type_inv.frame) (sym c.read.ensures.answer ∙ c.in_ok-fields.was)

pub update-requires : goal.update-requires
update-requires c = (_, ranking_keeps _ c.requires)

pub bounds-b-i-3 : goal.bounds-b-i-3
bounds-b-i-3 c = omega (arith, c.from-i.ensures, index (goal.at.bounds-b-i-3 c).In_ok-port_refusal)

pub returns : goal.returns
returns c =
    let at = goal.at.returns c in
    let f = at.In_ok-port_refusal in
    let a = c.args in
    let b = a.b.now in
    let i = a.port - 1 in
    let q = c.receive-received.result.after in
    let next = c.if-is_ok.b in
    -- what the port answers, by its index, and by H of the chosen clock
    let received : c.receive-received.result ≡ received_of (setting_at b i) (chosen_hop (chosen_of b)) c.in_ok-fields.fields (record { 0 = a.arrival }) (port_at b.ports i) =
    c.receive-received.ensures
    ∙ ap (λ (k : ℕ). received_of (setting_at b k) c.chosen_hop-hop.result c.in_ok-fields.fields (record { 0 = a.arrival }) (port_at b.ports k)) c.from-i.ensures
    ∙ ap (λ (hop : ℕ). received_of (setting_at b i) hop c.in_ok-fields.fields (record { 0 = a.arrival }) (port_at b.ports i))
    (c.chosen_hop-hop.ensures ∙ ap chosen_hop (chosen at.After-candidate_at-choice)) in
    -- the record is stored, and the ranking is the one made afresh: a frame that is taken moves its port, and a refused one leaves what the port announces
    let stored : ◌≡◌ {A = Bridge}
    (record { setup = next.setup; links = next.links; ranking = next.ranking; clock = next.clock; ports = set next.ports c.from-i.result q })
    (with_port b i q) =
    ap (λ (k : ℕ). record next { ports = set next.ports k q }) c.from-i.ensures
    ∙ elim c.if-is_ok.branch [
      | then-is_ok w ↦ rw w.b-is (stored_made b i q _ (ranking_stored b c.requires i a.port (index f) (number f) q _ w.update.ensures))
      | else-is_ok w ↦
          rw w.b-is
          (stored_kept b c.requires i q
          (ap (λ (d : Outcome Port). d.after.announcement) received
          ∙ (received_noted _ _ _ _ _ (λ z. not_ok c.receive-received.result.answer (sym c.is_ok.ensures.value ∙ w.if-is_ok.false) (ap (λ (d : Outcome Port). answer_number d.answer) received ∙ z))).announcement))
    ] in
    ap (answers c.receive-received.result.answer) stored
    ∙ ap (stores_port b i) received
    ∙ receive_stores _ _ _ _
    ∙ receive_read _ _ _ _ _ (granted_is f) (sym c.in_ok-fields.was ∙ c.read.ensures.answer)
