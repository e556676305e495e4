-- What a refusal leaves of the state, for each call that stores something of what it refuses.
use mathlib.Core.Path.{◌≡◌, refl, sym, subst}
use mathlib.Core.List.{List}
use Prim.Native.Nat.{ℕ, ◌-◌, ◌<◌, ◌≤◌}
use native.Mathlib.Omega.{arith}
use lib.ListN.{length}
use lib.Seq.{get_or-set_same, get_or-set_other}
use Rattle.std.specs.Prelude.{⊤}
use Rattle.std.proofs.Common.{Result, Ok, Err}
use Rattle.refusals.specs.Answer.{answer_number}
use Rattle.refusals.specs.declared.Refusal.{Refusal}
use Rattle.numbers.specs.Table.{parted}
use Rattle.times.specs.declared.LocalTime.{LocalTime}
use Rattle.choice.specs.Choose.{chosen_hop}
use Rattle.frame.specs.Frame.{fields_of}
use Rattle.frame.specs.Read.{rows_of, read_refusal, read_as, read_of}
use Rattle.port.specs.Record.{empty_port, used_port}
use Rattle.port.specs.Receive.{received_of}
use Rattle.port.specs.Leaves.{Noted, Used}
use Rattle.port.specs.declared.Port.{Port}
use Rattle.bridge.specs.Table.{port_at}
use Rattle.bridge.specs.Arguments.{port_refusal, send_refusal, own_clock_refusal}
use Rattle.bridge.specs.State.{Lawful, with_port}
use Rattle.bridge.specs.Own.{own_clock_of}
use Rattle.bridge.specs.Receive.{setting_at, read_by, receive_fields_of, receive_of}
use Rattle.bridge.specs.Chosen.{chosen_of}
use Rattle.bridge.specs.Send.{send_of}
use Rattle.bridge.specs.Leaves.{BesideRecord, FrameNoted, ReadingNoted, CountUsed}
use Rattle.bridge.specs.declared.Bridge.{Bridge}
use Rattle.bridge.specs.declared.Done.{Done}
use Rattle.frame.proofs.FrameLaws.{read_is}
use Rattle.port.proofs.Leaves.{received_noted, own_reading_noted, sent_used}
use Rattle.bridge.proofs.RankingLaws.{announced_kept}
use Rattle.bridge.proofs.CheckLaws.{granted_when, port_ready, send_ready, port_is, send_is, own_is}

-- ---- one record stored

module _ (b : Bridge) (i : ℕ) (port : Port) where
  -- it is at its index
  stored_there : i < length b.ports → port_at (with_port b i port).ports i ≡ port
  stored_there h = get_or-set_same b.ports i port empty_port h

  -- and all else is as before, where it announces the same
  stored_beside : Lawful b → port.announcement ≡ (port_at b.ports i).announcement → BesideRecord i b (with_port b i port)
  stored_beside lawful e = record {
    setup = refl;
    links = refl;
    ranking = announced_kept b lawful i port e;
    clock = refl;
    others = λ j h. get_or-set_other b.ports i j port empty_port h;
  }

-- ---- Receive

-- refused with 7 to 9: frameCount and arrival are stored in the port's record, and nothing else
pub receive_leaves : (b : Bridge) (port : ℕ) (frame : List ℕ) (arrival : ℕ) → Lawful b → 7 ≤ answer_number (receive_of b port frame arrival).answer
    → FrameNoted b port frame arrival (receive_of b port frame arrival).next
unfolding receive_of receive_fields_of read_of parted
receive_leaves b port frame arrival l =
    granted_when (λ (d : Done ⊤). 7 ≤ answer_number d.answer → FrameNoted b port frame arrival d.next) (port_refusal b.setup.n b.links port arrival)
    (λ e. let r = port_ready b.setup.n b.links port arrival e in
    by (read_refusal frame) (read_is (λ (x : Result ⊤ Refusal). answer_number x ≤ 6) frame (omega arith) (omega arith) (omega arith) (omega arith)) (omega (arith, r.low, r.high, l.setup_lawful.ports_most, l.records)))
    (λ _ _ h. absurd (port_is (λ (x : Result ⊤ Refusal). 7 ≤ answer_number x → ⊥) b.setup.n b.links port arrival (λ h. omega arith) (λ h. omega arith) (λ h. omega arith) h))
  where
    i : ℕ
    i = port - 1

    at : LocalTime
    at = record { 0 = arrival }

    by : (x : Result ⊤ Refusal) → answer_number x ≤ 6 → i < length b.ports → 7 ≤ answer_number (read_by (chosen_of b) b i (read_as x (rows_of frame)) at).answer
        → FrameNoted b port frame arrival (read_by (chosen_of b) b i (read_as x (rows_of frame)) at).next
    by (Ok _) m h q =
        let f = fields_of (rows_of frame) in
        let d = received_of (setting_at b i) (chosen_hop (chosen_of b)) f at (port_at b.ports i) in
        let noted = received_noted (setting_at b i) (chosen_hop (chosen_of b)) f at (port_at b.ports i) (λ z. omega (arith, z, q)) in
        record {
          noted = subst (Noted f.count at (port_at b.ports i)) (sym (stored_there b i d.after h)) noted;
          beside = stored_beside b i d.after l noted.announcement;
        }
    by (Err k) m h q = absurd (omega (arith, m, q))

-- ---- Own clock

-- refused with 8: frameCount and now are stored, and nothing else
pub own_clock_leaves : (b : Bridge) (count seconds fraction at : ℕ) → answer_number (own_clock_of b count seconds fraction at).answer ≡ 8
    → ReadingNoted b count at (own_clock_of b count seconds fraction at).next
unfolding own_clock_of
own_clock_leaves b count seconds fraction at =
    granted_when (λ (d : Done ⊤). answer_number d.answer ≡ 8 → ReadingNoted b count at d.next) (own_clock_refusal b.setup.capable seconds fraction at)
    (λ _ e. record {
      noted = own_reading_noted count (record { 0 = seconds; 1 = fraction }) (record { 0 = at }) b.clock (λ z. omega (arith, e, z));
      beside = record { setup = refl; links = refl; ranking = refl; ports = refl };
    })
    (λ _ _ e. absurd (own_is (λ (x : Result ⊤ Refusal). answer_number x ≡ 8 → ⊥) b.setup.capable seconds fraction at (λ e. omega arith) (λ e. omega arith) (λ e. omega arith) e))

-- ---- Send

-- refused with 10 to 13: the port's next frameCount is used up, and nothing else is stored
pub send_leaves : (b : Bridge) (port t room : ℕ) → Lawful b → 10 ≤ answer_number (send_of b port t room).answer → CountUsed b port (send_of b port t room).next
unfolding send_of
send_leaves b port t room l =
    granted_when (λ (d : Done ⊤). 10 ≤ answer_number d.answer → CountUsed b port d.next) (send_refusal b.setup.n b.links port t room)
    (λ e _.
    let held = port_at b.ports (port - 1) in
    let r = (send_ready b.setup.n b.links port t room e).0 in
    record {
      used = subst (Used held) (sym (stored_there b (port - 1) (used_port held) (omega (arith, r.low, r.high, l.setup_lawful.ports_most, l.records)))) (sent_used held);
      beside = stored_beside b (port - 1) (used_port held) l (sent_used held).announcement;
    })
    (λ _ _ h. absurd (send_is (λ (x : Result ⊤ Refusal). 10 ≤ answer_number x → ⊥) b.setup.n b.links port t room (λ h. omega arith) (λ h. omega arith) (λ h. omega arith) (λ h. omega arith) h))
