-- Listeners: what a listener's Send answers and writes; that a bridge takes its frames, at the last hop and as the worst clock there is; and that they give no line.
use mathlib.Core.Path.{◌≡◌, refl, sym, ap, ◌∙◌, subst}
use mathlib.Core.List.{List, [], ◌∷◌, Memᴰ}
use mathlib.Core.Logic.{◌⊎◌, inl, inr, ⊎_elim}
use Prim.Native.Nat.{ℕ, suc, ◌-◌, ◌<◌}
use native.Mathlib.Omega.{arith}
use lib.ListN.{length, take}
use Rattle.std.specs.Prelude.{⊤}
use Rattle.std.proofs.Common.{Option, Some, None, Result, Ok, Err}
use Rattle.refusals.specs.Answer.{answer_number, granted, told}
use Rattle.refusals.specs.declared.Refusal.{Refusal}
use Rattle.refusals.specs.declared.Refusal.TheVariants.{FewSamples}
use Rattle.refusals.specs.Order.{Condition, First, nowhere, here, later, given}
use Rattle.samples.specs.Keep.{ends_of}
use Rattle.samples.specs.declared.Ends.{Ends}
use Rattle.timeline.specs.Sent.{sent_through_of, sent_of}
use Rattle.choice.specs.Hop.{last_hop, hop_of}
use Rattle.choice.specs.Precedence.{precedence_of, key_of, worst_precedence}
use Rattle.choice.specs.Choose.{rank_of, chosen_hop}
use Rattle.choice.specs.declared.Candidate.{Candidate}
use Rattle.frame.specs.Frame.{frame_length}
use Rattle.frame.specs.declared.Fields.{Fields}
use Rattle.port.specs.Send.{stretch_of, sending_by, clock_sending, listener_hop_of}
use Rattle.port.specs.declared.Profile.TheVariants.{Full, Listener}
use Rattle.port.specs.declared.Port.{Port}
use Rattle.bridge.specs.Table.{port_at, most_ports, samples_at, samples_of_choice}
use Rattle.bridge.specs.Arguments.{port_refusal, send_refusal}
use Rattle.bridge.specs.State.{version_at, TypedSetup, ListenerSetup, Lawful, FullBridge, Listens, answers}
use Rattle.bridge.specs.declared.Setup.{Setup}
use Rattle.bridge.specs.Setup.{setup_of}
use Rattle.bridge.specs.Own.{own_clock_of}
use Rattle.bridge.specs.Receive.{setting_at, receive_fields_of, receive_of}
use Rattle.bridge.specs.Chosen.{chosen_of}
use Rattle.bridge.specs.Send.{chosen_samples, sending_at, send_of, send_bytes}
use Rattle.bridge.specs.Demands.{From, ListenerAnswers, candidates, NoWorse, Call, run, FromListener, HeardListeners}
use Rattle.bridge.specs.declared.Bridge.{Bridge}
use Rattle.bridge.specs.declared.Done.{Done}
use Rattle.samples.proofs.KeepLaws.{Still, still_few, ends_few}
use Rattle.choice.proofs.WorstLaws.{worst_only}
use Rattle.port.proofs.PortLaws.{send_as}
use Rattle.port.proofs.Order.{frame_order}
use Rattle.port.proofs.ListenerLaws.{listener-hop, received_still, aged_still}
use Rattle.bridge.proofs.CheckLaws.{granted_when, granted_both, send_is}
use Rattle.bridge.proofs.Keeps.{setup_lawful, run_lawful}
use Rattle.bridge.proofs.Refused.{own_answers}
use Rattle.bridge.proofs.Order.{own_clock_order}
use Rattle.bridge.proofs.Records.{listener_stays}
use Rattle.bridge.proofs.StateLaws.{receive_read}
use Rattle.bridge.proofs.Numbered.{candidates_fit}
use Rattle.bridge.proofs.Least.{chosen_least}
use Rattle.bridge.proofs.Sent.{listener_frame_read}
use Rattle.bridge.proofs.Heard.{took, taken_announced, heard_run}

-- ---- a listener

-- after any calls it has one port, is not capable and has backTime 0
pub listener_setup : (s : Setup) (cs : List Call) → TypedSetup s → s.sender.profile ≡ Listener → (setup_of s).answer ≡ granted → ListenerSetup (run (setup_of s).next cs).setup
listener_setup s cs typed listens done =
    (run_lawful (setup_of s).next cs (setup_lawful s typed)).setup_lawful.listener_fits (listener_stays s cs listens done)

-- so it has no own clock: a reading is refused with 2 or 10, and nothing is stored
by_10 : {k : ℕ} {P Q R S : Type 0} {cs : List Condition} → S → First k (given 2 P ∷ given 2 Q ∷ given 2 R ∷ given 10 S ∷ cs) → (k ≡ 2) ⊎ (k ≡ 10)
by_10 s (here _ _ _ e) = inl e
by_10 s (later _ _ _ (here _ _ _ e)) = inl e
by_10 s (later _ _ _ (later _ _ _ (here _ _ _ e))) = inl e
by_10 s (later _ _ _ (later _ _ _ (later _ _ _ (here _ _ _ e)))) = inr e
by_10 s (later _ _ _ (later _ _ _ (later _ _ _ (later _ _ n _)))) = absurd (n s)

pub listener_own_clock : (b : Bridge) (count seconds fraction at : ℕ) → Lawful b → Listens b
    → let d = own_clock_of b count seconds fraction at in let k = answer_number d.answer in ((k ≡ 2) ⊎ (k ≡ 10)) × (d.next ≡ b)
listener_own_clock b count seconds fraction at lawful listens =
    let refused = by_10 (lawful.setup_lawful.listener_fits listens).not_capable (own_clock_order b count seconds fraction at) in
    ⊎_elim
    (λ z. absurd (⊎_elim (λ two. omega (arith, two, z)) (λ ten. omega (arith, ten, z)) refused))
    (⊎_elim (λ r. r) (λ r. absurd (⊎_elim (λ two. omega (arith, two, r.0)) (λ ten. omega (arith, ten, r.0)) refused)))
    (own_answers b count seconds fraction at)

-- ---- a listener's Send

module _ (b : Bridge) (port t : ℕ) (listens : Listens b) where
  -- whatever was heard, kept or is old, it sends a frame
  listens_frame : told (sending_at (chosen_of b) b (port - 1) (record { 0 = t })) ≡ granted
  unfolding sending_at
  listens_frame = ap told (sym (send_as (chosen_of b) (chosen_samples b) b.setup.sender (version_at b (port - 1)) (record { 0 = t }) (port_at b.ports (port - 1)) Listener listens))

  -- it is answered by the port, the local time, the link and the room alone
  pub listener_answer : (room : ℕ) → (send_of b port t room).answer ≡ send_refusal b.setup.n b.links port t room
  unfolding send_of
  listener_answer room =
      granted_when (λ (d : Done ⊤). d.answer ≡ send_refusal b.setup.n b.links port t room) (send_refusal b.setup.n b.links port t room)
      (λ e. listens_frame ∙ sym e)
      (λ _ _. refl)

  -- so with 0, 2, 3 or 4; a refusal stores nothing and leaves the output as it was
  pub listener_answers : (out : List ℕ) → ListenerAnswers b out (send_of b port t (length out)) (send_bytes b port t out)
  unfolding send_of send_bytes
  listener_answers out =
      granted_both (ListenerAnswers b out) (send_refusal b.setup.n b.links port t (length out))
      (λ _. inl (ap answer_number listens_frame))
      (λ _ _. send_is (λ (r : Result ⊤ Refusal). ListenerAnswers b out (answers r b) out) b.setup.n b.links port t (length out)
      (inr ((omega arith, omega arith), refl, refl)) (inr ((omega arith, omega arith), refl, refl)) (inr ((omega arith, omega arith), refl, refl)) (inl refl))

  -- its frame is one as listeners send them
  pub listener-frame : (out : List ℕ) → Lawful b → (send_of b port t (length out)).answer ≡ granted → FromListener (take frame_length (send_bytes b port t out))
  listener-frame out lawful sent =
      record { fields = _; read = listener_frame_read b port t out lawful sent listens; precedence = refl; hop = refl; grand = refl; error = refl }

-- ---- such a frame at a bridge

-- 7 is not among its refusals
from_8 : {k : ℕ} {P Q R : Type 0} → (P → ⊥) → First k (given 7 P ∷ given 8 Q ∷ given 9 R ∷ []) → (k ≡ 0) ⊎ From 8 9 k
from_8 n (here _ _ h e) = absurd (n h)
from_8 n (later _ _ _ (here _ _ _ e)) = inr (omega (arith, e), omega (arith, e))
from_8 n (later _ _ _ (later _ _ _ (here _ _ _ e))) = inr (omega (arith, e), omega (arith, e))
from_8 n (later _ _ _ (later _ _ _ (later _ _ _ (nowhere e)))) = inl e

module _ (b : Bridge) (port : ℕ) (frame : List ℕ) (arrival : ℕ) (from : FromListener frame) where
  -- at a port with a link and a local time in range it is taken, or refused with 8 or 9
  pub listener_received : port_refusal b.setup.n b.links port arrival ≡ granted → let k = answer_number (receive_of b port frame arrival).answer in (k ≡ 0) ⊎ From 8 9 k
  unfolding receive_fields_of
  listener_received clear =
      subst (λ (d : Done ⊤). (answer_number d.answer ≡ 0) ⊎ From 8 9 (answer_number d.answer))
      (receive_read b port frame arrival (Ok from.fields) (sym clear) (sym from.read))
      (from_8 (λ e. omega (arith, e, from.hop)) (frame_order (setting_at b (port - 1)) (chosen_hop (chosen_of b)) from.fields (record { 0 = arrival }) (port_at b.ports (port - 1))))

  -- where it is taken, its clock is announced with the worst precedence at the last hop
  pub listener_held : Lawful b → (receive_of b port frame arrival).answer ≡ granted
      → (port_at (receive_of b port frame arrival).next.ports (port - 1)).announcement ≡ Some (record { precedence = worst_precedence; hop = last_hop; heard_at = record { 0 = arrival } })
  listener_held lawful e =
      let t = took b port frame arrival e in
      let both : Ok t.fields ≡ Ok from.fields = sym t.read ∙ from.read in
      let same : t.fields ≡ from.fields = cc in
      let hop : t.fields.hop ≡ listener_hop_of = ap (λ (f : Fields). f.hop) same ∙ from.hop in
      let precedence : t.fields.precedence ≡ worst_precedence = ap (λ (f : Fields). f.precedence) same ∙ from.precedence in
      taken_announced b port frame arrival lawful e
      ∙ (λ i. Some (record {
        precedence = precedence i;
        hop = (ap (λ (h : ℕ). hop_of h (chosen_hop (chosen_of b))) hop ∙ listener-hop (chosen_hop (chosen_of b))) i;
        heard_at = record { 0 = arrival };
      }))

-- a clock of the worst precedence is chosen only where no clock of another precedence is a candidate
pub worst_chosen : (b : Bridge) → Lawful b → {c : Candidate} → chosen_of b ≡ Some c → c.precedence ≡ worst_precedence → {other : Candidate} → Memᴰ (Some other) (candidates b)
    → other.precedence ≡ worst_precedence
unfolding rank_of key_of
worst_chosen b lawful {c} chosen worst {other} member =
    let fits = candidates_fit b lawful (Some other) member in
    let least = subst (λ (x : Option Candidate). NoWorse x (Some other)) chosen (chosen_least b (Some other) member) in
    let key : precedence_of c.precedence ≡ precedence_of worst_precedence = ap precedence_of worst in
    worst_only other.precedence fits.0 (omega (arith, least, key, fits.1, fits.2))

-- ---- a listener alone gives no line

-- a port that took nothing but listeners' frames since its link came up keeps at most one sample
heard_still : (s : Setup) (cs : List Call) (i : ℕ) → i < most_ports → HeardListeners i (setup_of s).next cs → Still 0 (port_at (run (setup_of s).next cs).ports i).samples
heard_still s cs i h =
    let P : List (List ℕ) → Port → Type 0 = λ (frames : List (List ℕ)) (p : Port). ((frame : List ℕ) → Memᴰ frame frames → FromListener frame) → Still 0 p.samples in
    heard_run i P
    (λ frames p q _ e u all. subst (Still 0) (sym e) (u all))
    (λ _. tt)
    (λ frames at timeout p u all. aged_still at timeout p (u all))
    (λ frames frame f setting chosen at p _ read _ u all.
    let from = all frame (Memᴰ.head refl) in
    let both : Ok f ≡ Ok from.fields = sym read ∙ from.read in
    let same : f ≡ from.fields = cc in
    received_still setting chosen f at p (ap (λ (g : Fields). g.grand) same ∙ from.grand) (u (λ x m. all x (Memᴰ.tail m))))
    s cs h

-- A LISTENER ALONE GIVES NO LINE: where that port's clock is chosen, there are no two samples to read one off
pub listeners_no_line : (s : Setup) (cs : List Call) (i : ℕ) {c : Candidate}
    → let b = run (setup_of s).next cs in
    i < most_ports → HeardListeners i (setup_of s).next cs → chosen_of b ≡ Some c → c.number ≡ suc i → ends_of (chosen_samples b) ≡ None
unfolding samples_of_choice samples_at
listeners_no_line s cs i below heard chosen number =
    let b = run (setup_of s).next cs in
    let samples = (port_at b.ports i).samples in
    ap (λ (x : Option Candidate). ends_of (samples_of_choice x b.clock b.ports)) chosen
    ∙ ap (λ (n : ℕ). ends_of (samples_at n b.clock b.ports)) number
    ∙ ends_few samples (still_few 0 samples (heard_still s cs i below heard))

-- so a full bridge sends nothing for it, at any port: 11
pub listeners_few : (s : Setup) (cs : List Call) (i port t room : ℕ) {c : Candidate}
    → let b = run (setup_of s).next cs in
    FullBridge b → i < most_ports → HeardListeners i (setup_of s).next cs → chosen_of b ≡ Some c → c.number ≡ suc i → send_refusal b.setup.n b.links port t room ≡ granted
    → (send_of b port t room).answer ≡ Err FewSamples
unfolding send_of sending_at sent_of
listeners_few s cs i port t room {c} full below heard chosen number clear =
    granted_when (λ (d : Done ⊤). d.answer ≡ Err FewSamples) (send_refusal b.setup.n b.links port t room)
    (λ _. ap told (sym (send_as (chosen_of b) (chosen_samples b) b.setup.sender (version_at b (port - 1)) (record { 0 = t }) held Full full) ∙ for_clock))
    (λ refusal e. cc)
  where
    b : Bridge
    b = run (setup_of s).next cs

    held : Port
    held = port_at b.ports (port - 1)

    for_clock : clock_sending (chosen_of b) (chosen_samples b) b.setup.sender (version_at b (port - 1)) (record { 0 = t }) held ≡ Err FewSamples
    for_clock =
        ap (λ (x : Option Candidate). clock_sending x (chosen_samples b) b.setup.sender (version_at b (port - 1)) (record { 0 = t }) held) chosen
        ∙ ap (λ (e : Option Ends). sending_by (sent_through_of e (record { 0 = t }) b.setup.sender.back (stretch_of (version_at b (port - 1)) b.setup.sender.back)) b.setup.sender (version_at b (port - 1)) c.precedence c.hop (record { 0 = t }) held)
        (listeners_no_line s cs i below heard chosen number)
