-- Demand 1: each call answers with a number that document 01 lists for it, and a refusal changes what the document names and nothing else.
use mathlib.Core.Path.{◌≡◌, refl, subst}
use mathlib.Core.List.{List}
use mathlib.Core.Logic.{inl, inr, ⊎_elim}
use Prim.Native.Nat.{ℕ, ◌-◌}
use native.Mathlib.Omega.{arith}
use lib.Dec.{leb, ltb}
use lib.ListN.{length}
use Rattle.std.specs.Prelude.{⊤}
use Rattle.std.proofs.Common.{Option, Some, None, Result, Ok, Err}
use Rattle.refusals.specs.declared.Refusal.{Refusal}
use Rattle.times.specs.Times.{circle}
use Rattle.samples.specs.Keep.{ends_of}
use Rattle.samples.specs.declared.Ends.{Ends}
use Rattle.timeline.specs.Drift.{drift_through_of, drift_of}
use Rattle.frame.specs.Read.{rows_of, read_as, read_of}
use Rattle.frame.specs.Write.{write_refusal, written_as, written_of}
use Rattle.frame.specs.declared.Fields.{Fields}
use Rattle.port.specs.Send.{sending_done, sending_bytes}
use Rattle.port.specs.declared.Port.{Port}
use Rattle.port.specs.declared.OwnClock.{OwnClock}
use Rattle.port.specs.declared.Outcome.{Outcome}
use Rattle.bridge.specs.Table.{port_at, samples_at}
use Rattle.bridge.specs.Arguments.{port_refusal, send_refusal, own_clock_refusal, mask_beyond}
use Rattle.bridge.specs.Fits.{setup_fits}
use Rattle.bridge.specs.declared.Setup.{Setup}
use Rattle.bridge.specs.State.{version_at, answers, stores_port, stores_clock}
use Rattle.bridge.specs.Setup.{setup_of}
use Rattle.bridge.specs.Links.{links_of}
use Rattle.bridge.specs.Own.{own_clock_of}
use Rattle.bridge.specs.Receive.{setting_at, read_by, receive_fields_of, receive_of}
use Rattle.bridge.specs.Age.{age_of}
use Rattle.bridge.specs.Chosen.{chosen_of}
use Rattle.bridge.specs.Send.{chosen_samples, sending_at, send_of, send_bytes}
use Rattle.bridge.specs.Drift.{drift_at}
use Rattle.bridge.specs.Demands.{ReadAnswers, WriteAnswers, SetupAnswers, LinksAnswers, AgeAnswers, OwnAnswers, ReceiveAnswers, SendAnswers, DriftAnswers}
use Rattle.bridge.specs.declared.Bridge.{Bridge}
use Rattle.numbers.proofs.Branches.{if_when}
use Rattle.frame.proofs.FrameLaws.{read_is, write_is}
use Rattle.port.proofs.PortLaws.{received_is, own_reading_is, sending_is}
use Rattle.bridge.proofs.CheckLaws.{granted_when, granted_both, port_is, send_is, own_is}

pub read_answers : (s : List ℕ) → ReadAnswers (read_of s)
unfolding read_of
read_answers s =
    read_is (λ (r : Result ⊤ Refusal). ReadAnswers (read_as r (rows_of s))) s (inr (omega arith, omega arith)) (inr (omega arith, omega arith)) (inr (omega arith, omega arith)) (inl refl)

pub write_answers : (f : Fields) (out : List ℕ) → WriteAnswers out (write_refusal f (length out)) (written_of f out)
unfolding written_of
write_answers f out =
    write_is (λ (r : Result ⊤ Refusal). WriteAnswers out r (written_as r f out)) f (length out) (inr (inl refl, refl)) (inr (inr (inl refl), refl)) (inr (inr (inr refl), refl)) (inl refl)

pub setup_answers : (s : Setup) → SetupAnswers (setup_of s)
unfolding setup_of
setup_answers s = if_when SetupAnswers (setup_fits s) (λ _. inl refl) (λ _. inr (refl, refl))

pub links_answers : (b : Bridge) (mask : ℕ) → LinksAnswers b (links_of b mask)
unfolding links_of
links_answers b mask = if_when (LinksAnswers b) (mask_beyond b.setup.n mask) (λ _. inr (refl, refl)) (λ _. inl refl)

pub age_answers : (b : Bridge) (at : ℕ) → AgeAnswers b (age_of b at)
unfolding age_of
age_answers b at = if_when (AgeAnswers b) (leb circle at) (λ _. inr (refl, refl)) (λ _. inl refl)

pub own_answers : (b : Bridge) (count seconds fraction at : ℕ) → OwnAnswers b count at (own_clock_of b count seconds fraction at)
unfolding own_clock_of
own_answers b count seconds fraction at =
    granted_when (OwnAnswers b count at) (own_clock_refusal b.setup.capable seconds fraction at)
    (λ _. own_reading_is count _ (record { 0 = at }) b.clock (λ (d : Outcome OwnClock). OwnAnswers b count at (stores_clock b d)) (inr (inr (refl, refl))) (λ _ _ _. inl refl))
    (λ _ _. own_is (λ (r : Result ⊤ Refusal). OwnAnswers b count at (answers r b)) b.setup.capable seconds fraction at (inr (inl (inl refl, refl))) (inr (inl (inr refl, refl))) (inl refl))

pub receive_answers : (b : Bridge) (port : ℕ) (frame : List ℕ) (arrival : ℕ) → ReceiveAnswers b port frame arrival (receive_of b port frame arrival)
unfolding receive_of receive_fields_of
receive_answers b port frame arrival =
    granted_when (ReceiveAnswers b port frame arrival) (port_refusal b.setup.n b.links port arrival)
    (λ _. by (read_of frame) refl)
    (λ _ _. port_is (λ (r : Result ⊤ Refusal). ReceiveAnswers b port frame arrival (answers r b)) b.setup.n b.links port arrival (inr (inl ((omega arith, omega arith), refl))) (inr (inl ((omega arith, omega arith), refl))) (inl refl))
  where
    by : (r : Result Fields Refusal) → read_of frame ≡ r → ReceiveAnswers b port frame arrival (read_by (chosen_of b) b (port - 1) r (record { 0 = arrival }))
    by (Err k) q = ⊎_elim inl (λ h. inr (inl ((omega (arith, h.0), omega (arith, h.1)), refl))) (subst ReadAnswers q (read_answers frame))
    by (Ok f) q =
        received_is (setting_at b (port - 1)) _ f (record { 0 = arrival }) (port_at b.ports (port - 1)) (λ (d : Outcome Port). ReceiveAnswers b port frame arrival (stores_port b (port - 1) d))
        (λ k l g. inr (inr ((l, g), (f, q, refl))))
        (λ _ _ _ _ _. inl refl)

pub send_answers : (b : Bridge) (port t : ℕ) (out : List ℕ) → SendAnswers b port out (send_of b port t (length out)) (send_bytes b port t out)
unfolding send_of send_bytes sending_at
send_answers b port t out =
    let held = port_at b.ports (port - 1) in
    granted_both (SendAnswers b port out) (send_refusal b.setup.n b.links port t (length out))
    (λ _. sending_is (chosen_of b) (chosen_samples b) b.setup.sender (version_at b (port - 1)) (record { 0 = t }) held
    (λ (s : Result Fields Refusal). SendAnswers b port out (stores_port b (port - 1) (sending_done s held)) (sending_bytes s out)) (λ k _ l g. inr (inr ((l, g), refl, refl))) (λ _ _ _ _ _. inl refl) (λ _. inl refl))
    (λ _ _. send_is (λ (r : Result ⊤ Refusal). SendAnswers b port out (answers r b) out) b.setup.n b.links port t (length out)
    (inr (inl ((omega arith, omega arith), refl, refl))) (inr (inl ((omega arith, omega arith), refl, refl))) (inr (inl ((omega arith, omega arith), refl, refl))) (inl refl))

pub drift_answers : (b : Bridge) (port : ℕ) → DriftAnswers (drift_at b port)
unfolding drift_at drift_of
drift_answers b port = if_when DriftAnswers (ltb b.setup.n port) (λ _. inr refl) (λ _. by (ends_of (samples_at port b.clock b.ports)))
  where
    by : (e : Option Ends) → DriftAnswers (drift_through_of e)
    by None = inl refl
    by (Some ends) = inl refl
