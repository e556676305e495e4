-- Hops rise: the held hop of a frame that is taken lies above the frame's and is at most the last, so every frame that is passed on
-- has a greater hop than the one that was heard; and one that is sent with the last hop is refused by the neighbour.
use mathlib.Core.Path.{◌≡◌, refl, sym, ap, ◌∙◌, subst}
use mathlib.Core.List.{List}
use mathlib.Core.Logic.{◌⊎◌, inl, inr, ⊎_elim}
use Prim.Native.Nat.{ℕ, suc, ◌-◌, ◌<◌}
use native.Mathlib.Omega.{arith}
use lib.ListN.{length, take}
use Rattle.std.specs.Prelude.{⊤}
use Rattle.std.proofs.Common.{Option, Some, None, Ok, Err}
use Rattle.refusals.specs.Answer.{answer_number, granted}
use Rattle.numbers.specs.Bytes.{Bytes}
use Rattle.refusals.specs.declared.Refusal.TheVariants.{LastHopHeard}
use Rattle.times.specs.declared.LocalTime.{LocalTime}
use Rattle.choice.specs.Hop.{last_hop, hop_of}
use Rattle.choice.specs.declared.Announcement.{Announcement}
use Rattle.choice.specs.Precedence.{precedence_of}
use Rattle.choice.specs.declared.Candidate.{Candidate}
use Rattle.frame.specs.Frame.{frame_length}
use Rattle.frame.specs.Read.{read_of}
use Rattle.frame.specs.declared.Fields.{Fields}
use Rattle.port.specs.Receive.{received_of}
use Rattle.port.specs.declared.Setting.{Setting}
use Rattle.port.specs.declared.Port.{Port}
use Rattle.choice.specs.Choose.{number_of}
use Rattle.bridge.specs.Table.{port_at, most_ports}
use Rattle.bridge.specs.Arguments.{port_refusal}
use Rattle.bridge.specs.declared.Setup.{Setup}
use Rattle.bridge.specs.State.{TypedSetup, Lawful, FullBridge, stores_port}
use Rattle.bridge.specs.Setup.{setup_of}
use Rattle.bridge.specs.Receive.{receive_of}
use Rattle.bridge.specs.Chosen.{chosen_of}
use Rattle.bridge.specs.Send.{send_of, send_bytes}
use Rattle.bridge.specs.Demands.{Call, run, last_of, last_taken, hop_at, precedence_number_at, refused_last_hop, HeldAbove, PassedOn}
use Rattle.bridge.specs.declared.Bridge.{Bridge}
use Rattle.bridge.specs.declared.Done.{Done}
use Rattle.choice.proofs.HopLaws.{hop_rises, hop_within}
use Rattle.frame.proofs.Trip.{precedence_number, hop_number}
use Rattle.port.proofs.PortLaws.{aged_is, received_announces, received_last_hop, read_in_range}
use Rattle.bridge.proofs.StateLaws.{receive_read, receive_stores, chosen_number}
use Rattle.bridge.proofs.Records.{eight_records}
use Rattle.bridge.proofs.Heard.{took, taken_stored, heard_run}
use Rattle.bridge.proofs.Keeps.{setup_lawful, run_lawful}
use Rattle.bridge.proofs.Sent.{wrote, wrote_hop, sent_frame_read}
use Rattle.bridge.proofs.Least.{announcing, chosen_announced}

-- ---- a frame that is taken

-- a record that took a frame announces the frame's clock above its hop
held_above : (frame : List ℕ) (f : Fields) (setting : Setting) (chosen : ℕ) (at : LocalTime) (port : Port) → Bytes frame → read_of frame ≡ Ok f
    → (received_of setting chosen f at port).answer ≡ granted → HeldAbove frame (received_of setting chosen f at port).after.announcement
held_above frame f setting chosen at port bytes read e =
    let announces = received_announces setting chosen f at port (ap answer_number e) in
    record {
      fields = f;
      read = read;
      held = hop_of f.hop chosen;
      heard_at = at;
      announced = announces.0;
      rises = subst (λ (n : ℕ). n < hop_of f.hop chosen) (hop_number frame f read) (hop_rises f.hop chosen);
      within = hop_within f.hop chosen (omega (arith, (read_in_range frame f bytes read).typed.hop, announces.1));
    }

-- every frame that is taken is held above its hop, and at the last at most
pub taken_rises : (b : Bridge) (port : ℕ) (frame : List ℕ) (arrival : ℕ) → Lawful b → Bytes frame → (receive_of b port frame arrival).answer ≡ granted
    → HeldAbove frame (port_at (receive_of b port frame arrival).next.ports (port - 1)).announcement
taken_rises b port frame arrival h bytes e =
    let t = took b port frame arrival e in
    subst (λ (p : Port). HeldAbove frame p.announcement) (sym (taken_stored b port frame arrival h e))
    (held_above frame t.fields _ _ (record { 0 = arrival }) _ bytes t.read t.done)

-- a frame with the last hop goes no farther: every station that reads it, at a port with a link and a local time in range, refuses it with 7
pub last_hop_refused : (b : Bridge) (port : ℕ) (frame : List ℕ) (arrival : ℕ) (f : Fields) → read_of frame ≡ Ok f → hop_at frame ≡ last_hop
    → port_refusal b.setup.n b.links port arrival ≡ granted → receive_of b port frame arrival ≡ refused_last_hop b port f.count arrival
last_hop_refused b port frame arrival f read last clear =
    sym (receive_read b port frame arrival (Ok f) (sym clear) (sym read))
    ∙ sym (receive_stores b (port - 1) f (record { 0 = arrival }))
    ∙ ap (stores_port b (port - 1)) (sym (received_last_hop _ _ f (record { 0 = arrival }) _ (hop_number frame f read ∙ last)))

-- Send here and Receive there: where Send answers 0 for a clock that is held at the last hop, the neighbour refuses these 64 bytes with 7
pub sent_last_hop_refused : (b : Bridge) (port t : ℕ) (out : List ℕ) (there : Bridge) (at arrival : ℕ) {c : Candidate}
    → Lawful b → FullBridge b → chosen_of b ≡ Some c → c.hop ≡ last_hop → (send_of b port t (length out)).answer ≡ granted → port_refusal there.setup.n there.links at arrival ≡ granted
    → receive_of there at (take frame_length (send_bytes b port t out)) arrival ≡ refused_last_hop there at (port_at b.ports (port - 1)).count arrival
sent_last_hop_refused b port t out there at arrival {c} h full chosen hop e clear =
    let r = sent_frame_read b port t out h e full in
    let both : Some r.clock ≡ Some c = sym r.chosen ∙ chosen in
    let same : r.clock ≡ c = cc in
    let last : r.clock.hop ≡ last_hop = ap (λ (x : Candidate). x.hop) same ∙ hop in
    last_hop_refused there at (take frame_length (send_bytes b port t out)) arrival _ r.read (sym (hop_number _ _ r.read) ∙ last) clear

-- ---- from Setup on

-- what a port announces is the frame that it took last, or nothing
abbrev pub Announces : List ℕ → Option Announcement → Type 0
Announces last announcement = (announcement ≡ None) ⊎ HeldAbove last announcement

-- after any calls, what a port announces is the frame that it took last, held above that frame's hop
pub run_announces : (s : Setup) (cs : List Call) (i : ℕ) → i < most_ports
    → Announces (last_taken i (setup_of s).next cs) (port_at (run (setup_of s).next cs).ports i).announcement
run_announces s cs i h =
    let P : List (List ℕ) → Port → Type 0 = λ (frames : List (List ℕ)) (p : Port). Announces (last_of frames) p.announcement in
    heard_run i P
    (λ frames p q e _ u. subst (Announces (last_of frames)) (sym e) u)
    (inl refl)
    (λ frames at timeout p u. aged_is at timeout p (P frames) u (inl refl))
    (λ frames frame f setting chosen at p bytes read done _. inr (held_above frame f setting chosen at p bytes read done))
    s cs h

-- a frame's hop rises at each station that passes it on: after any calls since Setup, a frame that a full bridge sends for a clock heard at a port has a greater hop
-- than the frame that this port took last
pub passed_on : (s : Setup) (cs : List Call) (port t : ℕ) (out : List ℕ)
    → let b = run (setup_of s).next cs in
    let heard = last_taken (number_of (chosen_of b) - 1) (setup_of s).next cs in
    FullBridge b → 0 < number_of (chosen_of b) → (send_of b port t (length out)).answer ≡ granted → PassedOn b heard (send_bytes b port t out)
passed_on s cs port t out full l e = go (chosen_of b) refl (omega arith)
  where
    b : Bridge
    b = run (setup_of s).next cs

    i : ℕ
    i = number_of (chosen_of b) - 1

    go : (c : Option Candidate) → chosen_of b ≡ c → number_of c ≡ suc i → PassedOn b (last_taken i (setup_of s).next cs) (send_bytes b port t out)
    go None q n = absurd (omega (arith, n))
    go (Some c) q n =
        let number : number_of (chosen_of b) ≡ c.number = ap number_of q in
        let below : i < most_ports = omega (arith, n, number, chosen_number b (eight_records s cs)) in
        let at = chosen_announced b q n in
        let announced = at.1 in
        let above = ⊎_elim
        (λ silent. absurd cc)
        (λ above. above)
        (run_announces s cs i below) in
        let both : Some (announcing c at.0) ≡ Some (record { precedence = above.fields.precedence; hop = above.held; heard_at = above.heard_at }) = sym announced ∙ above.announced in
        let same : announcing c at.0 ≡ record { precedence = above.fields.precedence; hop = above.held; heard_at = above.heard_at } = cc in
        let clock : c.precedence ≡ above.fields.precedence = ap (λ (x : Announcement). x.precedence) same in
        let held : c.hop ≡ above.held = ap (λ (x : Announcement). x.hop) same in
        let sent : hop_at (send_bytes b port t out) ≡ c.hop = wrote_hop (wrote b port t out e) full q (omega (arith, held, above.within)) in
        record {
          fields = above.fields;
          read = above.read;
          chosen = q ∙ (λ j. Some (record { precedence = clock j; hop = sym sent j; number = sym number j }));
          rises = omega (arith, above.rises, held, sent);
          within = omega (arith, above.within, held, sent);
        }

-- a frame that comes with the hop before the last is passed on once more, and ends there: the neighbour refuses it with 7
pub passed_on_refused : (s : Setup) (cs : List Call) (port t : ℕ) (out : List ℕ) (there : Bridge) (at arrival : ℕ)
    → let b = run (setup_of s).next cs in
    TypedSetup s → FullBridge b → 0 < number_of (chosen_of b) → suc (hop_at (last_taken (number_of (chosen_of b) - 1) (setup_of s).next cs)) ≡ last_hop
    → (send_of b port t (length out)).answer ≡ granted → port_refusal there.setup.n there.links at arrival ≡ granted
    → (receive_of there at (take frame_length (send_bytes b port t out)) arrival).answer ≡ Err LastHopHeard
passed_on_refused s cs port t out there at arrival typed full l before e clear =
    let b = run (setup_of s).next cs in
    let p = passed_on s cs port t out full l e in
    let last : hop_at (send_bytes b port t out) ≡ last_hop = omega (arith, p.rises, p.within, before) in
    ap (λ (d : Done ⊤). d.answer)
    (sent_last_hop_refused b port t out there at arrival (run_lawful (setup_of s).next cs (setup_lawful s typed)) full p.chosen last e clear)

-- and a frame that is passed on has the thirteen precedence bytes of the one that was heard
pub passed_on_precedence : (s : Setup) (cs : List Call) (port t : ℕ) (out : List ℕ)
    → let b = run (setup_of s).next cs in
    TypedSetup s → FullBridge b → 0 < number_of (chosen_of b) → (send_of b port t (length out)).answer ≡ granted
    → precedence_number_at (take frame_length (send_bytes b port t out)) ≡ precedence_number_at (last_taken (number_of (chosen_of b) - 1) (setup_of s).next cs)
passed_on_precedence s cs port t out typed full l e =
    let b = run (setup_of s).next cs in
    let p = passed_on s cs port t out full l e in
    let r = sent_frame_read b port t out (run_lawful (setup_of s).next cs (setup_lawful s typed)) e full in
    let passed : Candidate = record { precedence = p.fields.precedence; hop = hop_at (send_bytes b port t out); number = number_of (chosen_of b) } in
    let both : Some r.clock ≡ Some passed = sym r.chosen ∙ p.chosen in
    let clock : r.clock ≡ passed = cc in
    let same : r.clock.precedence ≡ p.fields.precedence = ap (λ (x : Candidate). x.precedence) clock in
    sym (precedence_number _ _ r.read) ∙ ap precedence_of same ∙ precedence_number _ _ p.read
