-- What a call leaves of the setup and of the records, by their number and by the one at an index, and what holds along calls in a row.
use mathlib.Core.Path.{◌≡◌, refl, sym, ap, ◌∙◌, subst}
use mathlib.Core.List.{List, [], ◌∷◌}
use Prim.Native.Nat.{ℕ, zero, suc, ◌-◌, ◌<◌, ◌≤◌}
use native.Mathlib.Nat.{zero-add}
use borrow.Author.Tests.{leb-true}
use lib.Dec.{leb, lit≤}
use lib.ListN.{length, set, replicate, length-set}
use Rattle.std.specs.Prelude.{⊤}
use Rattle.std.proofs.Common.{Result, Ok, Err}
use Rattle.refusals.specs.Answer.{granted}
use Rattle.refusals.specs.declared.Refusal.{Refusal}
use Rattle.times.specs.Times.{circle}
use Rattle.frame.specs.Read.{read_of}
use Rattle.frame.specs.declared.Fields.{Fields}
use Rattle.port.specs.Record.{empty_port, aged_port}
use Rattle.port.specs.declared.Profile.TheVariants.{Full, Listener}
use Rattle.port.specs.declared.Port.{Port}
use Rattle.bridge.specs.Table.{each, port_at, most_ports, relinked_port}
use Rattle.bridge.specs.Arguments.{port_refusal, send_refusal, own_clock_refusal, mask_beyond}
use Rattle.bridge.specs.Fits.{ranges_fit, profile_fits, setup_fits}
use Rattle.bridge.specs.declared.Setup.{Setup}
use Rattle.bridge.specs.State.{FullBridge, Listens}
use Rattle.bridge.specs.Setup.{setup_of}
use Rattle.bridge.specs.Links.{links_of}
use Rattle.bridge.specs.Own.{own_clock_of}
use Rattle.bridge.specs.Receive.{read_by, receive_fields_of, receive_of}
use Rattle.bridge.specs.Age.{age_of}
use Rattle.bridge.specs.Send.{send_of}
use Rattle.bridge.specs.Demands.{Call, links, own_clock, receive, age, send, after, run, along}
use Rattle.bridge.specs.Chosen.{chosen_of}
use Rattle.bridge.specs.declared.Bridge.{Bridge}
use Rattle.bridge.specs.declared.Done.{Done}
use Rattle.numbers.proofs.Branches.{if_when}
use Rattle.times.proofs.TestLaws.{both_hold}
use Rattle.bridge.proofs.CheckLaws.{granted_when}
use Rattle.bridge.proofs.Walk.{each_at, each_length}

-- ---- the record at an index

-- one record replaced by one that has the same part
pub replaced : {A : Type 0} (part : Port → A) (ports : List Port) (j : ℕ) (p : Port) → part p ≡ part (port_at ports j)
    → (i : ℕ) → part (port_at (set ports j p) i) ≡ part (port_at ports i)
replaced part [] j p e i = refl
replaced part (a ∷ l) zero p e zero = e
replaced part (a ∷ l) zero p e (suc i) = refl
replaced part (a ∷ l) (suc j) p e zero = refl
replaced part (a ∷ l) (suc j) p e (suc i) = replaced part l j p e i

-- each record changed by its index
pub each_record : (f : ℕ → Port → Port) (ports : List Port) (i : ℕ) → i < length ports → port_at (each f 0 ports) i ≡ f i (port_at ports i)
each_record f ports i h = each_at f 0 i ports empty_port h ∙ ap (λ (k : ℕ). f k (port_at ports i)) (zero-add i)

-- ---- the setup, and how many records there are

-- a state has the setup of b, and as many records
abbrev pub Alike : Bridge → Bridge → Type 0
Alike b x = (x.setup ≡ b.setup) × (length x.ports ≡ length b.ports)

module _ (b : Bridge) where
  receive_alike : (port : ℕ) (frame : List ℕ) (arrival : ℕ) → Alike b (receive_of b port frame arrival).next
  unfolding receive_of receive_fields_of
  receive_alike port frame arrival =
      granted_when (λ (d : Done ⊤). Alike b d.next) (port_refusal b.setup.n b.links port arrival) (λ _. by (read_of frame)) (λ _ _. (refl, refl))
    where
      by : (r : Result Fields Refusal) → Alike b (read_by (chosen_of b) b (port - 1) r (record { 0 = arrival })).next
      by (Err k) = (refl, refl)
      by (Ok f) = (refl, length-set b.ports (port - 1) _)

  -- every call leaves them
  pub after_alike : (c : Call) → Alike b (after b c)
  unfolding links_of own_clock_of age_of send_of
  after_alike (links mask) =
      if_when (λ (d : Done ℕ). Alike b d.next) (mask_beyond b.setup.n mask) (λ _. (refl, refl))
      (λ _. (refl, each_length (relinked_port b.links mask) 0 b.ports))
  after_alike (own_clock count byte seconds fraction at) =
      granted_when (λ (d : Done ⊤). Alike b d.next) (own_clock_refusal b.setup.capable seconds fraction at) (λ _. (refl, refl)) (λ _ _. (refl, refl))
  after_alike (receive port frame bytes arrival) = receive_alike port frame arrival
  after_alike (age at) =
      if_when (λ (d : Done ⊤). Alike b d.next) (leb circle at) (λ _. (refl, refl))
      (λ _. (refl, each_length (λ _. aged_port (record { 0 = at }) b.setup.timeout) 0 b.ports))
  after_alike (send port t room) =
      granted_when (λ (d : Done ⊤). Alike b d.next) (send_refusal b.setup.n b.links port t room)
      (λ _. (refl, length-set b.ports (port - 1) _))
      (λ _ _. (refl, refl))

-- ---- calls in a row, from Setup on

-- a fresh record is empty
pub fresh_record : (n i : ℕ) → port_at (replicate n empty_port) i ≡ empty_port
fresh_record zero i = refl
fresh_record (suc n) zero = refl
fresh_record (suc n) (suc i) = fresh_record n i

-- every record is empty at first
setup_record : (s : Setup) (i : ℕ) → port_at (setup_of s).next.ports i ≡ empty_port
unfolding setup_of
setup_record s i = if_when (λ (d : Done ⊤). port_at d.next.ports i ≡ empty_port) (setup_fits s) (λ _. fresh_record most_ports i) (λ _. fresh_record most_ports i)

setup_length : (s : Setup) → length (setup_of s).next.ports ≡ most_ports
unfolding setup_of
setup_length s = if_when (λ (d : Done ⊤). length d.next.ports ≡ most_ports) (setup_fits s) (λ _. refl) (λ _. refl)

pub setup_ports : (s : Setup) → (setup_of s).next.setup.n ≤ most_ports
unfolding setup_of setup_fits ranges_fit
setup_ports s =
    if_when (λ (d : Done ⊤). d.next.setup.n ≤ most_ports) (setup_fits s)
    (λ e.
    let ranges = (both_hold (profile_fits s.sender.profile s.n s.capable s.sender.back) _ e).1 in
    leb-true _ _ (both_hold (leb s.n most_ports) _ (both_hold (leb 1 s.n) _ ranges).1).0)
    (λ _. lit≤ tt)

pub run_alike : (b : Bridge) (cs : List Call) → Alike b (run b cs)
unfolding run
run_alike b [] = (refl, refl)
run_alike b (c ∷ cs) =
    let rest = run_alike (after b c) cs in
    let first = after_alike b c in
    (rest.0 ∙ first.0, rest.1 ∙ first.1)

-- a full bridge stays one, and what Setup took as a listener
pub full_stays : (s : Setup) (cs : List Call) → s.sender.profile ≡ Full → FullBridge (run (setup_of s).next cs)
unfolding setup_of
full_stays s cs full =
    ap (λ (x : Setup). x.sender.profile) (run_alike (setup_of s).next cs).0
    ∙ if_when (λ (d : Done ⊤). FullBridge d.next) (setup_fits s) (λ _. full) (λ _. refl)

pub listener_stays : (s : Setup) (cs : List Call) → s.sender.profile ≡ Listener → (setup_of s).answer ≡ granted → Listens (run (setup_of s).next cs)
unfolding setup_of
listener_stays s cs listens done =
    ap (λ (x : Setup). x.sender.profile) (run_alike (setup_of s).next cs).0
    ∙ if_when (λ (d : Done ⊤). d.answer ≡ granted → Listens d.next) (setup_fits s) (λ _ _. listens) (λ _ e. cc) done

-- there are eight records after any calls
pub eight_records : (s : Setup) (cs : List Call) → length (run (setup_of s).next cs).ports ≡ most_ports
eight_records s cs = (run_alike (setup_of s).next cs).1 ∙ setup_length s

-- and no more ports
pub eight_ports : (s : Setup) (cs : List Call) → (run (setup_of s).next cs).setup.n ≤ most_ports
eight_ports s cs = subst (λ (x : Setup). x.n ≤ most_ports) (sym (run_alike (setup_of s).next cs).0) (setup_ports s)

-- what every call keeps, of the record at index i and of what is reckoned along the calls, holds after any of them
module _ {A : Type 0} (i : ℕ) (step : Bridge → Call → A → A) (Holds : A → Port → Type 0)
    (kept : (b : Bridge) (c : Call) (x : A) → i < length b.ports → Holds x (port_at b.ports i) → Holds (step b c x) (port_at (after b c).ports i)) where
  pub along_run : (b : Bridge) (cs : List Call) (x : A) → i < length b.ports → Holds x (port_at b.ports i) → Holds (along step b cs x) (port_at (run b cs).ports i)
  unfolding run along
  along_run b [] x l h = h
  along_run b (c ∷ cs) x l h = along_run (after b c) cs (step b c x) (rw (after_alike b c).1 l) (kept b c x l h)

  pub record_run : (s : Setup) (cs : List Call) (x : A) → i < most_ports → Holds x empty_port → Holds (along step (setup_of s).next cs x) (port_at (run (setup_of s).next cs).ports i)
  record_run s cs x l h = along_run (setup_of s).next cs x (rw (setup_length s) l) (rw (setup_record s i) h)
