-- The frameCount in a sent frame is the number of sends that used one since the link came up, modulo 256.
use mathlib.Core.Path.{◌≡◌, refl, sym, ap, ◌∙◌}
use mathlib.Core.Bool.{Bool, true, false, cond, ◌&&◌}
use mathlib.Core.List.{List}
use Prim.Native.Nat.{ℕ, ◌+◌, ◌-◌, ◌%◌, ◌<◌}
use native.Mathlib.Omega.{arith}
use borrow.Author.Tests.{eqb-true, eqb-false}
use lib.Dec.{eqb, leb}
use lib.ListN.{length, set}
use lib.Seq.{get_or-set_same, get_or-set_other}
use Rattle.std.specs.Prelude.{⊤}
use Rattle.std.proofs.Common.{Result, Ok, Err}
use Rattle.refusals.specs.Answer.{granted}
use Rattle.refusals.specs.declared.Refusal.{Refusal}
use Rattle.numbers.specs.Bytes.{number_at}
use Rattle.times.specs.Times.{circle}
use Rattle.frame.specs.Read.{read_of}
use Rattle.frame.specs.declared.Fields.{Fields}
use Rattle.port.specs.Record.{empty_port, aged_port, used_port}
use Rattle.port.specs.declared.Port.{Port}
use Rattle.bridge.specs.Table.{port_at, most_ports, relinked_port}
use Rattle.bridge.specs.Arguments.{bit, port_refusal, send_refusal, own_clock_refusal, mask_beyond}
use Rattle.bridge.specs.declared.Setup.{Setup}
use Rattle.bridge.specs.Setup.{setup_of}
use Rattle.bridge.specs.Links.{links_of}
use Rattle.bridge.specs.Own.{own_clock_of}
use Rattle.bridge.specs.Receive.{read_by, receive_fields_of, receive_of}
use Rattle.bridge.specs.Age.{age_of}
use Rattle.bridge.specs.Send.{send_of, send_bytes}
use Rattle.bridge.specs.Demands.{Call, links, own_clock, receive, age, send, after, run, used_by, used}
use Rattle.bridge.specs.Chosen.{chosen_of}
use Rattle.bridge.specs.declared.Bridge.{Bridge}
use Rattle.bridge.specs.declared.Done.{Done}
use Rattle.numbers.proofs.Branches.{if_when, if_both}
use Rattle.port.proofs.PortLaws.{received_count, aged_count}
use Rattle.bridge.proofs.Records.{replaced, each_record, eight_ports, record_run}
use Rattle.bridge.proofs.CheckLaws.{granted_when, granted_both}
use Rattle.bridge.proofs.Sent.{wrote, wrote_count}

-- ---- what each call leaves of the next frameCount

abbrev count_of : Port → ℕ
count_of p = p.count

-- the port at index i, which has used up n frameCounts
module _ (b : Bridge) (i n : ℕ) (h : i < length b.ports) (u : (port_at b.ports i).count ≡ n % 256) where
  links_count : (mask : ℕ) → (port_at (links_of b mask).next.ports i).count ≡ used_by i b (links mask) n % 256
  unfolding links_of relinked_port
  links_count mask =
      if_both (λ (d : Done ℕ) (m : ℕ). (port_at d.next.ports i).count ≡ m % 256) (mask_beyond b.setup.n mask) (λ _. u)
      (λ _. ap count_of (each_record (relinked_port b.links mask) b.ports i h)
      ∙ if_both (λ (p : Port) (m : ℕ). p.count ≡ m % 256) (eqb (bit b.links i) 1 && eqb (bit mask i) 0) (λ _. refl) (λ _. u))

  receive_count : (port : ℕ) (frame : List ℕ) (arrival : ℕ) → (port_at (receive_of b port frame arrival).next.ports i).count ≡ n % 256
  unfolding receive_of receive_fields_of
  receive_count port frame arrival =
      granted_when (λ (d : Done ⊤). (port_at d.next.ports i).count ≡ n % 256) (port_refusal b.setup.n b.links port arrival) (λ _. by (read_of frame)) (λ _ _. u)
    where
      by : (r : Result Fields Refusal) → (port_at (read_by (chosen_of b) b (port - 1) r (record { 0 = arrival })).next.ports i).count ≡ n % 256
      by (Err k) = u
      by (Ok f) = replaced count_of b.ports (port - 1) _ (received_count _ _ f _ (port_at b.ports (port - 1))) i ∙ u

  send_count : (port t room : ℕ) → (port_at (send_of b port t room).next.ports i).count ≡ used_by i b (send port t room) n % 256
  unfolding send_of
  send_count port t room =
      granted_both (λ (d : Done ⊤) (m : ℕ). (port_at d.next.ports i).count ≡ m % 256) (send_refusal b.setup.n b.links port t room)
      (λ _. by (eqb (port - 1) i) refl)
      (λ _ _. u)
    where
      by : (s : Bool) → eqb (port - 1) i ≡ s → (port_at (set b.ports (port - 1) (used_port (port_at b.ports (port - 1)))) i).count ≡ cond s (n + 1) n % 256
      by true q =
          ap (λ (j : ℕ). (port_at (set b.ports j (used_port (port_at b.ports j))) i).count) (eqb-true _ _ q)
          ∙ ap count_of (get_or-set_same b.ports i (used_port (port_at b.ports i)) empty_port h)
          ∙ omega (arith, u)
      by false q = ap count_of (get_or-set_other b.ports (port - 1) i (used_port (port_at b.ports (port - 1))) empty_port (λ z. eqb-false _ _ q (sym z))) ∙ u

  after_count : (c : Call) → (port_at (after b c).ports i).count ≡ used_by i b c n % 256
  unfolding own_clock_of age_of
  after_count (links mask) = links_count mask
  after_count (own_clock count byte seconds fraction at) =
      granted_when (λ (d : Done ⊤). (port_at d.next.ports i).count ≡ n % 256) (own_clock_refusal b.setup.capable seconds fraction at) (λ _. u) (λ _ _. u)
  after_count (receive port frame bytes arrival) = receive_count port frame arrival
  after_count (age at) =
      if_when (λ (d : Done ⊤). (port_at d.next.ports i).count ≡ n % 256) (leb circle at) (λ _. u)
      (λ _. ap count_of (each_record (λ _. aged_port (record { 0 = at }) b.setup.timeout) b.ports i h)
      ∙ aged_count (record { 0 = at }) b.setup.timeout (port_at b.ports i)
      ∙ u)
  after_count (send port t room) = send_count port t room

-- ---- from Setup on

-- the frameCount of every frame that is sent after any calls since Setup
pub sent_count : (s : Setup) (cs : List Call) (port t : ℕ) (out : List ℕ)
    → let b = (setup_of s).next in
    (send_of (run b cs) port t (length out)).answer ≡ granted → number_at (send_bytes (run b cs) port t out) 30 1 ≡ used (port - 1) b cs 0 % 256
sent_count s cs port t out e =
    let b = (setup_of s).next in
    let i = port - 1 in
    let w = wrote (run b cs) port t out e in
    let h : i < most_ports = omega (arith, w.ready.0.low, w.ready.0.high, eight_ports s cs) in
    let c = record_run i (used_by i) (λ (n : ℕ) (p : Port). p.count ≡ n % 256) (λ b c n l u. after_count b i n l u c) s cs 0 h refl in
    wrote_count w (omega (arith, c)) ∙ c
