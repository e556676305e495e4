-- Demand 3 on the frame: where Send of a full bridge answers 0, the ten bytes of grandTime that it wrote lie less than `bound` units from the exact line
-- through the oldest and the newest kept sample of the chosen clock, read at t less backTime, plus backTime, across the wrap. In version 2 they and the four
-- bytes of errorTime, less that sample's errorTime, lie less than `departure_bound` units from that line at t itself; in version 1 errorTime is that sample's.
use mathlib.Core.Path.{◌≡◌, sym, ap, ◌∙◌, subst}
use mathlib.Core.List.{List}
use mathlib.Core.Logic.{inl, inr, ⊎_elim}
use Prim.Native.Nat.{ℕ, ◌-◌}
use lib.IntN.{ℤ, pos, ◌+ℤ◌, ◌-ℤ◌}
use lib.ListN.{length, drop}
use Rattle.refusals.specs.Answer.{granted}
use Rattle.numbers.specs.Bytes.{number_at}
use Rattle.times.specs.Times.{since_of, units, error_of}
use Rattle.timeline.specs.Sent.{reach_of}
use Rattle.timeline.specs.Line.{bound, departure_bound, NearLine}
use Rattle.samples.specs.Keep.{LawfulSamples}
use Rattle.frame.specs.Frame.{frame_length, first_version, second_version}
use Rattle.port.specs.Send.{stretch_of}
use Rattle.bridge.specs.Table.{port_at}
use Rattle.bridge.specs.State.{version_at, Lawful, FullBridge}
use Rattle.bridge.specs.Chosen.{chosen_of}
use Rattle.bridge.specs.Send.{chosen_samples, sending_at, send_of, send_bytes}
use Rattle.bridge.specs.Demands.{grand_start, grand_bytes_of, OnLine, version_in, error_start, error_bytes_of, error_in, ErrorSent, AtDeparture}
use Rattle.bridge.specs.declared.Bridge.{Bridge}
use Rattle.timeline.proofs.SentLaws.{sent_near}
use Rattle.timeline.proofs.Departures.{sent_heard, sent_with_rest, sent_departs}
use Rattle.frame.proofs.FrameLaws.{version_cases}
use Rattle.frame.proofs.Trip.{grand-bytes, error-bytes}
use Rattle.port.proofs.PortLaws.{ReadOff, sending_read_off}
use Rattle.bridge.proofs.TableLaws.{chosen_lawful}
use Rattle.bridge.proofs.Sent.{Wrote, wrote, version_known, sent_frame_version}

-- the samples of the chosen clock are lawful
samples_sent : (b : Bridge) → Lawful b → LawfulSamples (chosen_samples b)
samples_sent b h = chosen_lawful (chosen_of b) b.clock b.ports h.clock_lawful h.ports_lawful

-- the grand time and errorTime of a frame that was written are read off the chosen clock's samples
wrote_read_off : {b : Bridge} {port t : ℕ} {out left : List ℕ} (w : Wrote b port t out left) → FullBridge b
    → ReadOff (chosen_samples b) (record { 0 = t }) b.setup.sender.back (stretch_of (version_at b (port - 1)) b.setup.sender.back) w.fields
unfolding sending_at
wrote_read_off {b} {port} {t} w full =
    sending_read_off (chosen_of b) (chosen_samples b) b.setup.sender (version_at b (port - 1)) (record { 0 = t }) (port_at b.ports (port - 1)) w.fields w.sending full

module _ {b : Bridge} {port t rest : ℕ} {out left : List ℕ} (w : Wrote b port t out left) (r : ReadOff (chosen_samples b) (record { 0 = t }) b.setup.sender.back rest w.fields) where
  -- its ten bytes of grandTime, and its four of errorTime
  grand_written : number_at left grand_start grand_bytes_of ≡ units w.fields.grand
  grand_written = ap (λ (l : List ℕ). number_at l grand_start grand_bytes_of) w.bytes ∙ grand-bytes w.fields (drop frame_length out) r.range

  error_written : number_at left error_start error_bytes_of ≡ w.fields.error.0
  error_written = ap (λ (l : List ℕ). number_at l error_start error_bytes_of) w.bytes ∙ error-bytes w.fields (drop frame_length out) r.bits

  signed_written : error_in left ≡ error_of w.fields.error
  signed_written = ap (λ (n : ℕ). error_of (record { 0 = n })) error_written

module _ (b : Bridge) (port t : ℕ) (out : List ℕ) (lawful : Lawful b) (full : FullBridge b) (sent : (send_of b port t (length out)).answer ≡ granted) where
  -- DEMAND 3, in either version
  pub sent_frame_near : OnLine b t (send_bytes b port t out)
  sent_frame_near =
      let w = wrote b port t out sent in
      let r = wrote_read_off w full in
      record {
        ends = r.ends;
        kept = r.kept;
        near =
            subst (λ (n : ℕ). NearLine bound r.ends.oldest r.ends.newest (pos n) (reach_of (since_of (record { 0 = t }) r.ends.newest.local) b.setup.sender.back) b.setup.sender.back) (sym (grand_written w r))
            (sent_near (chosen_samples b) (record { 0 = t }) b.setup.sender.back _ w.fields.grand w.fields.error r (samples_sent b lawful) lawful.setup_lawful.back_small);
      }

  -- the version in the frame is the port's, and decides which rest errorTime takes in
  stretch_in : (version : ℕ) → version_in (send_bytes b port t out) ≡ version → stretch_of (version_at b (port - 1)) b.setup.sender.back ≡ stretch_of version b.setup.sender.back
  stretch_in version e = ap (λ (v : ℕ). stretch_of v b.setup.sender.back) (sym (sent_frame_version b port t out lawful sent) ∙ e)

  -- WHAT ERRORTIME IS, by the version in the frame
  pub sent_frame_error : ErrorSent b (send_bytes b port t out)
  sent_frame_error =
      let w = wrote b port t out sent in
      let r = wrote_read_off w full in
      let version = sent_frame_version b port t out lawful sent in
      record {
        ends = r.ends;
        kept = r.kept;
        says =
            ⊎_elim
            (λ v. let e = version ∙ v in
            inl (e, error_written w r ∙ sent_heard (chosen_samples b) (record { 0 = t }) b.setup.sender.back _ w.fields.grand w.fields.error r (samples_sent b lawful) (stretch_in first_version e)))
            (λ v. let e = version ∙ v in
            inr (e, signed_written w r ∙ sent_with_rest (chosen_samples b) (record { 0 = t }) b.setup.sender.back _ w.fields.grand w.fields.error r (samples_sent b lawful) (stretch_in second_version e)))
            (version_cases (version_at b (port - 1)) (version_known b port t lawful w.ready.0));
      }

  -- THE LINE AT THE DEPARTURE ITSELF, by a frame of version 2
  pub sent_frame_departs : version_in (send_bytes b port t out) ≡ second_version → AtDeparture b t (send_bytes b port t out)
  sent_frame_departs e =
      let w = wrote b port t out sent in
      let r = wrote_read_off w full in
      record {
        ends = r.ends;
        kept = r.kept;
        near =
            subst (λ (z : ℤ). NearLine departure_bound r.ends.oldest r.ends.newest z (pos (since_of (record { 0 = t }) r.ends.newest.local)) 0)
            (λ i. pos (sym (grand_written w r) i) +ℤ sym (signed_written w r) i -ℤ error_of r.ends.newest.error)
            (sent_departs (chosen_samples b) (record { 0 = t }) b.setup.sender.back _ w.fields.grand w.fields.error r (samples_sent b lawful) (stretch_in second_version e) lawful.setup_lawful.back_small);
      }
