-- What Send writes, Read reads: where Send answers 0, the first 64 bytes of the output are read as exactly the fields of the rules, and what a neighbour
-- makes of them is what Receive makes of those fields. And what version, hopCount and frameCount are in them.
use mathlib.Core.Path.{◌≡◌, refl, sym, ap, ◌∙◌, subst}
use mathlib.Core.Bool.{true}
use mathlib.Core.List.{List}
use mathlib.Core.Logic.{◌⊎◌, inl, inr}
use Prim.Native.Nat.{ℕ, ◌-◌, ◌<◌, ◌≤◌}
use native.Mathlib.Omega.{arith}
use lib.ListN.{length, take, drop}
use Rattle.std.specs.Prelude.{⊤}
use Rattle.std.proofs.Common.{Some, Result, Ok, Err}
use Rattle.refusals.specs.Answer.{answer_number, granted, told}
use Rattle.refusals.specs.declared.Refusal.{Refusal}
use Rattle.numbers.specs.Bytes.{number_at}
use Rattle.times.specs.Times.{counts}
use Rattle.choice.specs.Rank.{CandidateFits}
use Rattle.choice.specs.declared.Candidate.{Candidate}
use Rattle.frame.specs.Frame.{frame_length, is_version}
use Rattle.frame.specs.Read.{read_of}
use Rattle.frame.specs.Write.{write_refusal, bytes_of, written_of}
use Rattle.frame.specs.Demands.{Typed}
use Rattle.frame.specs.declared.Fields.{Fields}
use Rattle.port.specs.Send.{listener_frame_of, sending_of, sending_bytes}
use Rattle.port.specs.declared.Port.{Port}
use Rattle.port.specs.declared.Outcome.{Outcome}
use Rattle.bridge.specs.Table.{port_at}
use Rattle.bridge.specs.Arguments.{port_refusal, send_refusal}
use Rattle.bridge.specs.State.{version_at, Lawful, FullBridge, Listens, stores_port}
use Rattle.bridge.specs.Receive.{receive_fields_of, receive_of}
use Rattle.bridge.specs.Chosen.{chosen_of}
use Rattle.bridge.specs.Send.{chosen_samples, sending_at, send_of, send_bytes}
use Rattle.bridge.specs.Demands.{From, SentFields}
use Rattle.bridge.specs.declared.Bridge.{Bridge}
use Rattle.bridge.specs.declared.Done.{Done}
use Rattle.frame.proofs.FrameLaws.{version_small, filled}
use Rattle.frame.proofs.Trip.{written_read, version_byte, hop_byte, count_byte}
use Rattle.port.proofs.PortLaws.{SentFor, sending_for, sending_listens, sending_version, sending_count, sending_written, sending_typed, received_is}
use Rattle.bridge.proofs.CheckLaws.{granted_both, Ready, send_ready}
use Rattle.bridge.proofs.TableLaws.{all_each}
use Rattle.bridge.proofs.StateLaws.{receive_read}
use Rattle.bridge.proofs.Least.{chosen_member}
use Rattle.bridge.proofs.Numbered.{candidates_fit}

-- ---- a send that answers 0

-- what it left in the output: a frame
pub record Wrote (b : Bridge) (port t : ℕ) (out left : List ℕ) : Type 0 where
  pub fields : Fields
  pub ready : Ready b.setup.n port t × (frame_length ≤ length out)
  pub sending : sending_at (chosen_of b) b (port - 1) (record { 0 = t }) ≡ Ok fields
  pub bytes : left ≡ bytes_of fields (drop frame_length out)

pub wrote : (b : Bridge) (port t : ℕ) (out : List ℕ) → (send_of b port t (length out)).answer ≡ granted → Wrote b port t out (send_bytes b port t out)
unfolding send_of send_bytes sending_at
wrote b port t out =
    granted_both (λ (d : Done ⊤) (left : List ℕ). d.answer ≡ granted → Wrote b port t out left) (send_refusal b.setup.n b.links port t (length out))
    (λ q z. by sent refl z (send_ready b.setup.n b.links port t (length out) q))
    (λ _ q z. cc)
  where
    sent : Result Fields Refusal
    sent = sending_of (chosen_of b) (chosen_samples b) b.setup.sender (version_at b (port - 1)) (record { 0 = t }) (port_at b.ports (port - 1))

    by : (s : Result Fields Refusal) → sent ≡ s → told s ≡ granted → Ready b.setup.n port t × (frame_length ≤ length out) → Wrote b port t out (sending_bytes s out)
    by (Err k) q z ready = cc
    by (Ok f) q z ready = record { fields = f; ready = ready; sending = q; bytes = refl }

-- a frame that a full bridge's port sends is one for the chosen clock
abbrev pub SentAt : Bridge → ℕ → ℕ → Fields → Type 0
SentAt b i t f = SentFor (chosen_of b) (chosen_samples b) b.setup.sender (version_at b i) (record { 0 = t }) (port_at b.ports i) f

pub sent_at : (b : Bridge) (i t : ℕ) (f : Fields) → sending_at (chosen_of b) b i (record { 0 = t }) ≡ Ok f → FullBridge b → SentAt b i t f
unfolding sending_at
sent_at b i t f e full = sending_for (chosen_of b) (chosen_samples b) b.setup.sender (version_at b i) (record { 0 = t }) (port_at b.ports i) f e full

-- ---- version, hopCount and frameCount

module _ {b : Bridge} {port t : ℕ} {out left : List ℕ} (w : Wrote b port t out left) where
  -- byte 15 is the port's version
  pub wrote_version : is_version (version_at b (port - 1)) ≡ true → number_at left 15 1 ≡ version_at b (port - 1)
  unfolding sending_at
  wrote_version known =
      let same = sending_version (chosen_of b) (chosen_samples b) b.setup.sender (version_at b (port - 1)) (record { 0 = t }) (port_at b.ports (port - 1)) w.fields w.sending in
      ap (λ (l : List ℕ). number_at l 15 1) w.bytes
      ∙ version_byte w.fields (drop frame_length out) (subst (λ (n : ℕ). n < 256) (sym same) (version_small (version_at b (port - 1)) known))
      ∙ same

  -- byte 30 is the port's next frameCount
  pub wrote_count : (port_at b.ports (port - 1)).count < counts → number_at left 30 1 ≡ (port_at b.ports (port - 1)).count
  unfolding sending_at
  wrote_count h =
      let same = sym (sending_count (chosen_of b) (chosen_samples b) b.setup.sender (version_at b (port - 1)) (record { 0 = t }) (port_at b.ports (port - 1)) w.fields w.sending) in
      ap (λ (l : List ℕ). number_at l 30 1) w.bytes ∙ count_byte w.fields (drop frame_length out) (subst (λ (n : ℕ). n < counts) same h) ∙ sym same

  -- a full bridge's byte 29 is the chosen clock's held hop
  pub wrote_hop : FullBridge b → {c : Candidate} → chosen_of b ≡ Some c → c.hop < 256 → number_at left 29 1 ≡ c.hop
  wrote_hop full {c} chosen l =
      let s = sent_at b (port - 1) t w.fields w.sending full in
      let both : Some s.clock ≡ Some c = sym s.chosen ∙ chosen in
      let clock : s.clock ≡ c = cc in
      let held : s.clock.hop ≡ c.hop = ap (λ (x : Candidate). x.hop) clock in
      let same : w.fields.hop ≡ c.hop = sym (ap (λ (f : Fields). f.hop) s.same) ∙ held in
      ap (λ (l : List ℕ). number_at l 29 1) w.bytes ∙ hop_byte w.fields (drop frame_length out) (omega (arith, same, l)) ∙ same

-- ---- of a lawful state

-- a port that sends has a version that there is
pub version_known : (b : Bridge) (port t : ℕ) → Lawful b → Ready b.setup.n port t → is_version (version_at b (port - 1)) ≡ true
version_known b port t h r =
    let s = h.setup_lawful in
    all_each is_version b.setup.versions b.setup.n (port - 1) 0 (omega (arith, s.ports_most, s.typed.versions_all)) s.versions-fit (omega (arith, r.low, r.high))

-- each part of the chosen clock has its bits
pub chosen_fits : (b : Bridge) → Lawful b → CandidateFits (chosen_of b)
chosen_fits b h = candidates_fit b h (chosen_of b) (chosen_member b)

module _ (b : Bridge) (port t : ℕ) (out : List ℕ) (lawful : Lawful b) (sent : (send_of b port t (length out)).answer ≡ granted) where
  -- byte 15 of a frame that was sent is the port's version
  pub sent_frame_version : number_at (send_bytes b port t out) 15 1 ≡ version_at b (port - 1)
  sent_frame_version = let w = wrote b port t out sent in wrote_version w (version_known b port t lawful w.ready.0)

  -- byte 30 of a frame that was sent is the port's next frameCount
  pub sent_frame_count : number_at (send_bytes b port t out) 30 1 ≡ (port_at b.ports (port - 1)).count
  sent_frame_count = wrote_count (wrote b port t out sent) (lawful.ports_lawful (port - 1)).count

  -- a full bridge's byte 29 is the chosen clock's held hop
  pub sent_frame_hop : FullBridge b → {c : Candidate} → chosen_of b ≡ Some c → number_at (send_bytes b port t out) 29 1 ≡ c.hop
  sent_frame_hop full chosen = wrote_hop (wrote b port t out sent) full chosen (subst CandidateFits chosen (chosen_fits b lawful)).1

  -- a frame that was sent is one that Write takes
  pub sent_frame_written : (f : Fields) → sending_at (chosen_of b) b (port - 1) (record { 0 = t }) ≡ Ok f → write_refusal f (length out) ≡ granted
  unfolding sending_at
  sent_frame_written f e =
      let r = (wrote b port t out sent).ready in
      sending_written (chosen_of b) (chosen_samples b) b.setup.sender (version_at b (port - 1)) (record { 0 = t }) (port_at b.ports (port - 1)) f e (version_known b port t lawful r.0) (length out) r.0.time (lawful.ports_lawful (port - 1)) r.1

  -- each of its fields has its bits
  sent_typed : (f : Fields) → sending_at (chosen_of b) b (port - 1) (record { 0 = t }) ≡ Ok f → Typed f
  unfolding sending_at
  sent_typed f e =
      sending_typed (chosen_of b) (chosen_samples b) b.setup.sender (version_at b (port - 1)) (record { 0 = t }) (port_at b.ports (port - 1)) f e
      (version_known b port t lawful (wrote b port t out sent).ready.0) lawful.setup_lawful.typed.address (chosen_fits b lawful) (lawful.ports_lawful (port - 1))

  -- the first 64 bytes are read as the frame that was sent
  read_back : (f : Fields) → sending_at (chosen_of b) b (port - 1) (record { 0 = t }) ≡ Ok f → read_of (take frame_length (send_bytes b port t out)) ≡ Ok f
  read_back f e =
      let w = wrote b port t out sent in
      let z = sent_frame_written f e in
      let both : Ok w.fields ≡ Ok f = sym w.sending ∙ e in
      let same : w.fields ≡ f = cc in
      let bytes : written_of f out ≡ send_bytes b port t out
      = sym (filled f out (sym z)) ∙ ap (λ (g : Fields). bytes_of g (drop frame_length out)) (sym same) ∙ sym w.bytes in
      subst (λ (l : List ℕ). read_of (take frame_length l) ≡ Ok f) bytes (written_read f out (sent_typed f e) z)

  -- WHAT SEND WRITES, READ READS: the first 64 bytes are read as exactly the fields of the rules, those of a full bridge
  pub sent_frame_read : FullBridge b → SentFields b port t (take frame_length (send_bytes b port t out))
  sent_frame_read full =
      let w = wrote b port t out sent in
      let s = sent_at b (port - 1) t w.fields w.sending full in
      record {
        clock = s.clock;
        times = s.times;
        chosen = s.chosen;
        read_off = s.sent;
        read = read_back w.fields w.sending ∙ ap (λ (f : Fields). Ok f) (sym s.same);
      }

  -- and those of a listener
  pub listener_frame_read : Listens b → read_of (take frame_length (send_bytes b port t out)) ≡ Ok (listener_frame_of b.setup.sender (version_at b (port - 1)) (record { 0 = t }) (port_at b.ports (port - 1)))
  unfolding sending_at
  listener_frame_read l =
      let w = wrote b port t out sent in
      read_back w.fields w.sending
      ∙ ap (λ (f : Fields). Ok f) (sending_listens (chosen_of b) (chosen_samples b) b.setup.sender (version_at b (port - 1)) (record { 0 = t }) (port_at b.ports (port - 1)) w.fields w.sending l)

  -- what a neighbour makes of them, at a port with a link and a local time in range, is what Receive makes of the fields that were sent
  pub sent_frame_received : (there : Bridge) (at arrival : ℕ) (f : Fields) → sending_at (chosen_of b) b (port - 1) (record { 0 = t }) ≡ Ok f
      → port_refusal there.setup.n there.links at arrival ≡ granted
      → receive_of there at (take frame_length (send_bytes b port t out)) arrival ≡ receive_fields_of (chosen_of there) there (at - 1) f (record { 0 = arrival })
  sent_frame_received there at arrival f e clear = sym (receive_read there at _ arrival (Ok f) (sym clear) (sym (read_back f e)))

  -- with 0, or with 7 to 9: a neighbour never refuses a sent frame by its bytes
  pub sent_frame_answer : (there : Bridge) (at arrival : ℕ) → port_refusal there.setup.n there.links at arrival ≡ granted
      → let k = answer_number (receive_of there at (take frame_length (send_bytes b port t out)) arrival).answer in (k ≡ 0) ⊎ From 7 9 k
  unfolding receive_fields_of
  sent_frame_answer there at arrival clear =
      let Answer : Done ⊤ → Type 0 = λ (d : Done ⊤). (answer_number d.answer ≡ 0) ⊎ From 7 9 (answer_number d.answer) in
      let w = wrote b port t out sent in
      subst Answer (sym (sent_frame_received there at arrival w.fields w.sending clear))
      (received_is _ _ _ _ _ (λ (d : Outcome Port). Answer (stores_port there (at - 1) d)) (λ k l g. inr (l, g)) (λ _ _ _ _ _. inl refl))
