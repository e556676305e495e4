-- What holds of a port's record after any calls, by the frames that it took since its link came up.
use mathlib.Core.Path.{◌≡◌, refl, sym, ap, ◌∙◌, subst}
use mathlib.Core.List.{List, [], ◌∷◌}
use mathlib.Core.Logic.{⊎_elim}
use Prim.Native.Nat.{ℕ, ◌-◌, ◌<◌}
use native.Mathlib.Omega.{arith}
use borrow.Author.Tests.{eqb-true, eqb-false}
use lib.Dec.{leb}
use lib.ListN.{length, set}
use lib.Seq.{get_or-set_same, get_or-set_other}
use Rattle.std.specs.Prelude.{⊤}
use Rattle.std.proofs.Common.{Some, Result, Ok, Err}
use Rattle.refusals.specs.Answer.{answer_number, granted}
use Rattle.refusals.specs.declared.Refusal.{Refusal}
use Rattle.numbers.specs.Bytes.{Bytes}
use Rattle.times.specs.Times.{circle}
use Rattle.times.specs.declared.LocalTime.{LocalTime}
use Rattle.choice.specs.Choose.{chosen_hop}
use Rattle.choice.specs.Hop.{hop_of}
use Rattle.frame.specs.Read.{read_of}
use Rattle.frame.specs.declared.Fields.{Fields}
use Rattle.port.specs.Record.{empty_port, aged_port}
use Rattle.port.specs.Receive.{received_of}
use Rattle.port.specs.declared.Setting.{Setting}
use Rattle.port.specs.declared.Port.{Port}
use Rattle.port.specs.declared.Outcome.{Outcome}
use Rattle.bridge.specs.Table.{port_at, most_ports, loses_link, relinked_port}
use Rattle.bridge.specs.Arguments.{port_refusal, send_refusal, own_clock_refusal, mask_beyond}
use Rattle.bridge.specs.declared.Setup.{Setup}
use Rattle.bridge.specs.State.{Lawful, with_port}
use Rattle.bridge.specs.Setup.{setup_of}
use Rattle.bridge.specs.Links.{links_of}
use Rattle.bridge.specs.Own.{own_clock_of}
use Rattle.bridge.specs.Receive.{setting_at, read_by, receive_fields_of, receive_of}
use Rattle.bridge.specs.Age.{age_of}
use Rattle.bridge.specs.Chosen.{chosen_of}
use Rattle.bridge.specs.Send.{send_of}
use Rattle.bridge.specs.Demands.{Call, links, own_clock, receive, age, send, after, run, along, taken_by, taken}
use Rattle.bridge.specs.declared.Bridge.{Bridge}
use Rattle.bridge.specs.declared.Done.{Done}
use Rattle.numbers.proofs.Branches.{if_when, if_both}
use Rattle.bridge.proofs.CheckLaws.{granted_when, number_granted, Ready, port_ready}
use Rattle.bridge.proofs.Refused.{receive_answers}
use Rattle.port.proofs.PortLaws.{received_announces}
use Rattle.bridge.proofs.Records.{replaced, each_record, along_run, record_run}

-- ---- a frame that is taken

-- what a port's record makes of a frame that arrives in this state
abbrev pub heard_at : Bridge → ℕ → Fields → ℕ → Outcome Port
heard_at b i f arrival = received_of (setting_at b i) (chosen_hop (chosen_of b)) f (record { 0 = arrival }) (port_at b.ports i)

-- what a receive that answers 0 did: the frame was read, and its port's record took it
pub record Took (b : Bridge) (port : ℕ) (frame : List ℕ) (arrival : ℕ) (next : Bridge) : Type 0 where
  pub fields : Fields
  pub read : read_of frame ≡ Ok fields
  pub ready : Ready b.setup.n port arrival
  pub done : (heard_at b (port - 1) fields arrival).answer ≡ granted
  pub state : next ≡ with_port b (port - 1) (heard_at b (port - 1) fields arrival).after

pub took : (b : Bridge) (port : ℕ) (frame : List ℕ) (arrival : ℕ) → (receive_of b port frame arrival).answer ≡ granted → Took b port frame arrival (receive_of b port frame arrival).next
unfolding receive_of receive_fields_of
took b port frame arrival =
    granted_when (λ (d : Done ⊤). d.answer ≡ granted → Took b port frame arrival d.next) (port_refusal b.setup.n b.links port arrival)
    (λ q. by (read_of frame) refl (port_ready b.setup.n b.links port arrival q))
    (λ _ q z. cc)
  where
    by : (r : Result Fields Refusal) → read_of frame ≡ r → Ready b.setup.n port arrival → (read_by (chosen_of b) b (port - 1) r (record { 0 = arrival })).answer ≡ granted
        → Took b port frame arrival (read_by (chosen_of b) b (port - 1) r (record { 0 = arrival })).next
    by (Err k) q h z = cc
    by (Ok f) q h z = record { fields = f; read = q; ready = h; done = z; state = refl }

-- its port's record is the one that took it
pub taken_stored : (b : Bridge) (port : ℕ) (frame : List ℕ) (arrival : ℕ) → Lawful b → (e : (receive_of b port frame arrival).answer ≡ granted)
    → port_at (receive_of b port frame arrival).next.ports (port - 1) ≡ (heard_at b (port - 1) (took b port frame arrival e).fields arrival).after
taken_stored b port frame arrival h e =
    let t = took b port frame arrival e in
    ap (λ (x : Bridge). port_at x.ports (port - 1)) t.state
    ∙ get_or-set_same b.ports (port - 1) _ empty_port (omega (arith, t.ready.low, t.ready.high, h.setup_lawful.ports_most, h.records))

-- so it announces the frame's clock, at the held hop by H of the state before the call
pub taken_announced : (b : Bridge) (port : ℕ) (frame : List ℕ) (arrival : ℕ) → Lawful b → (e : (receive_of b port frame arrival).answer ≡ granted)
    → let f = (took b port frame arrival e).fields in
    (port_at (receive_of b port frame arrival).next.ports (port - 1)).announcement
    ≡ Some (record { precedence = f.precedence; hop = hop_of f.hop (chosen_hop (chosen_of b)); heard_at = record { 0 = arrival } })
taken_announced b port frame arrival h e =
    let t = took b port frame arrival e in
    ap (λ (p : Port). p.announcement) (taken_stored b port frame arrival h e)
    ∙ (received_announces (setting_at b (port - 1)) (chosen_hop (chosen_of b)) t.fields (record { 0 = arrival }) (port_at b.ports (port - 1)) (ap answer_number t.done)).0

-- ---- along the calls

-- P speaks of the announcement and the samples in a record, and of the frames that its port took. It holds of an empty record; Age keeps it, and so does a frame that is taken
module _ (i : ℕ) (P : List (List ℕ) → Port → Type 0)
    (alike : (frames : List (List ℕ)) (p q : Port) → q.announcement ≡ p.announcement → q.samples ≡ p.samples → P frames p → P frames q)
    (empty : P [] empty_port)
    (aged : (frames : List (List ℕ)) (at : LocalTime) (timeout : ℕ) (p : Port) → P frames p → P frames (aged_port at timeout p))
    (Took-one : (frames : List (List ℕ)) (frame : List ℕ) (f : Fields) (setting : Setting) (chosen : ℕ) (at : LocalTime) (p : Port) → Bytes frame → read_of frame ≡ Ok f
    → (received_of setting chosen f at p).answer ≡ granted → P frames p → P (frame ∷ frames) (received_of setting chosen f at p).after) where
  module _ (b : Bridge) (frames : List (List ℕ)) (h : i < length b.ports) (u : P frames (port_at b.ports i)) where
    links_holds : (mask : ℕ) → P (taken_by i b (links mask) frames) (port_at (links_of b mask).next.ports i)
    unfolding links_of relinked_port
    links_holds mask =
        if_both (λ (d : Done ℕ) (fs : List (List ℕ)). P fs (port_at d.next.ports i)) (mask_beyond b.setup.n mask) (λ _. u)
        (λ _. subst (P _) (sym (each_record (relinked_port b.links mask) b.ports i h))
        (if_both (λ (p : Port) (fs : List (List ℕ)). P fs p) (loses_link b.links mask i) (λ _. empty) (λ _. u)))

    age_holds : (at : ℕ) → P frames (port_at (age_of b at).next.ports i)
    unfolding age_of
    age_holds at =
        if_when (λ (d : Done ⊤). P frames (port_at d.next.ports i)) (leb circle at) (λ _. u)
        (λ _. subst (P frames) (sym (each_record (λ _. aged_port (record { 0 = at }) b.setup.timeout) b.ports i h))
        (aged frames (record { 0 = at }) b.setup.timeout (port_at b.ports i) u))

    -- a record replaced by one that announces the same and has the same samples, at any port
    replaced_holds : (j : ℕ) (p : Port) → p.announcement ≡ (port_at b.ports j).announcement → p.samples ≡ (port_at b.ports j).samples
        → P frames (port_at (set b.ports j p) i)
    replaced_holds j p announced sampled =
        alike frames (port_at b.ports i) (port_at (set b.ports j p) i)
        (replaced (λ (q : Port). q.announcement) b.ports j p announced i) (replaced (λ (q : Port). q.samples) b.ports j p sampled i) u

    -- a frame that is taken at this port
    here_holds : (port : ℕ) (frame : List ℕ) (arrival : ℕ) → Bytes frame → (receive_of b port frame arrival).answer ≡ granted → port - 1 ≡ i
        → P (frame ∷ frames) (port_at (receive_of b port frame arrival).next.ports i)
    here_holds port frame arrival bytes e here =
        let t = took b port frame arrival e in
        let f = t.fields in
        let stored : port_at (receive_of b port frame arrival).next.ports i ≡ (heard_at b i f arrival).after
        = ap (λ (x : Bridge). port_at x.ports i) (t.state ∙ ap (λ (j : ℕ). with_port b j (heard_at b j f arrival).after) here)
        ∙ get_or-set_same b.ports i (heard_at b i f arrival).after empty_port h in
        subst (P (frame ∷ frames)) (sym stored)
        (Took-one frames frame f (setting_at b i) (chosen_hop (chosen_of b)) (record { 0 = arrival }) (port_at b.ports i) bytes t.read
        (subst (λ (j : ℕ). (heard_at b j f arrival).answer ≡ granted) here t.done) u)

    -- and one that is taken at another
    elsewhere_holds : (port : ℕ) (frame : List ℕ) (arrival : ℕ) → (receive_of b port frame arrival).answer ≡ granted → (port - 1 ≡ i → ⊥)
        → P frames (port_at (receive_of b port frame arrival).next.ports i)
    elsewhere_holds port frame arrival e elsewhere =
        let t = took b port frame arrival e in
        let p = (heard_at b (port - 1) t.fields arrival).after in
        subst (λ (x : Bridge). P frames (port_at x.ports i)) (sym t.state)
        (subst (P frames) (sym (get_or-set_other b.ports (port - 1) i p empty_port (λ z. elsewhere (sym z)))) u)

    -- a frame that is refused leaves every announcement and all samples
    refused_holds : (port : ℕ) (frame : List ℕ) (arrival : ℕ) → (answer_number (receive_of b port frame arrival).answer ≡ 0 → ⊥)
        → P frames (port_at (receive_of b port frame arrival).next.ports i)
    refused_holds port frame arrival n =
        let Left : Bridge → Type 0 = λ (x : Bridge). P frames (port_at x.ports i) in
        ⊎_elim (λ z. absurd (n z))
        (⊎_elim (λ r. subst Left (sym r.1) u) (λ r. subst Left (sym r.1.2) (replaced_holds (port - 1) _ refl refl)))
        (receive_answers b port frame arrival)

    receive_holds : (port : ℕ) (frame : List ℕ) (bytes : Bytes frame) (arrival : ℕ)
        → P (taken_by i b (receive port frame bytes arrival) frames) (port_at (receive_of b port frame arrival).next.ports i)
    receive_holds port frame bytes arrival =
        let Left : List (List ℕ) → Type 0 = λ (x : List (List ℕ)). P x (port_at (receive_of b port frame arrival).next.ports i) in
        if_when Left _
        (λ q. if_when Left _
        (λ s. here_holds port frame arrival bytes (number_granted (eqb-true _ _ q)) (eqb-true _ _ s))
        (λ s. elsewhere_holds port frame arrival (number_granted (eqb-true _ _ q)) (eqb-false _ _ s)))
        (λ q. refused_holds port frame arrival (eqb-false _ _ q))

    after_holds : (c : Call) → P (taken_by i b c frames) (port_at (after b c).ports i)
    unfolding own_clock_of send_of
    after_holds (links mask) = links_holds mask
    after_holds (own_clock count byte seconds fraction at) =
        granted_when (λ (d : Done ⊤). P frames (port_at d.next.ports i)) (own_clock_refusal b.setup.capable seconds fraction at) (λ _. u) (λ _ _. u)
    after_holds (receive port frame bytes arrival) = receive_holds port frame bytes arrival
    after_holds (age at) = age_holds at
    after_holds (send port t room) =
        granted_when (λ (d : Done ⊤). P frames (port_at d.next.ports i)) (send_refusal b.setup.n b.links port t room)
        (λ _. replaced_holds (port - 1) _ refl refl)
        (λ _ _. u)

  -- so it holds after any calls, from any state in which it holds
  pub heard_along : (b : Bridge) (cs : List Call) (frames : List (List ℕ)) → i < length b.ports → P frames (port_at b.ports i)
      → P (along (taken_by i) b cs frames) (port_at (run b cs).ports i)
  heard_along = along_run i (taken_by i) P (λ b c frames l u. after_holds b frames l u c)

  -- and since Setup
  pub heard_run : (s : Setup) (cs : List Call) → i < most_ports → P (taken i (setup_of s).next cs) (port_at (run (setup_of s).next cs).ports i)
  heard_run s cs h = record_run i (taken_by i) P (λ b c frames l u. after_holds b frames l u c) s cs [] h empty
