-- Lawful is kept: Setup hands back a lawful state whatever it answers, and so do every call on a lawful state and any calls in a row.
use mathlib.Core.Path.{◌≡◌, refl, sym, ap, ◌∙◌}
use mathlib.Core.Bool.{Bool, true, false, not, ◌&&◌}
use mathlib.Core.List.{List, [], ◌∷◌}
use Prim.Native.Nat.{ℕ, ◌-◌, ◌^◌, ◌<◌}
use borrow.Author.Tests.{leb-true, leb-false, ltb-true, eqb-true}
use lib.Dec.{leb, ltb, eqb, lit<, lit≤}
use lib.ListN.{length, take, length-set}
use lib.Pow.{pow_pos}
use Rattle.std.specs.Prelude.{⊤}
use Rattle.std.proofs.Common.{Result, Ok, Err}
use Rattle.refusals.specs.declared.Refusal.{Refusal}
use Rattle.numbers.specs.Bytes.{Bytes}
use Rattle.times.specs.Times.{circle, counts}
use Rattle.times.specs.declared.LocalTime.{LocalTime}
use Rattle.timeline.specs.Sent.{longest_elapsed}
use Rattle.frame.specs.Read.{read_of}
use Rattle.frame.specs.declared.Fields.{Fields}
use Rattle.port.specs.Record.{empty_port}
use Rattle.port.specs.Lawful.{LawfulPort, LawfulClock, FieldsInRange}
use Rattle.port.specs.declared.Profile.{Profile}
use Rattle.port.specs.declared.Profile.TheVariants.{Listener}
use Rattle.port.specs.declared.Port.{Port}
use Rattle.port.specs.declared.OwnClock.{OwnClock}
use Rattle.bridge.specs.Table.{each, port_at, most_ports, relinked_port}
use Rattle.bridge.specs.Arguments.{bit, port_refusal, send_refusal, own_clock_refusal, mask_beyond}
use Rattle.bridge.specs.Fits.{least_timeout, greatest_timeout, all, setting_fits, listener_ports, ranges_fit, profile_fits, setup_fits, plain_setup, no_setup}
use Rattle.bridge.specs.declared.Setup.{Setup}
use Rattle.bridge.specs.State.{TypedSetup, ListenerSetup, LawfulSetup, Lawful, with_port, with_links, with_clock}
use Rattle.bridge.specs.Setup.{fresh_of, setup_of}
use Rattle.bridge.specs.Links.{links_of}
use Rattle.bridge.specs.Own.{own_clock_of}
use Rattle.bridge.specs.Receive.{receive_fields_of, read_by, receive_of}
use Rattle.bridge.specs.Age.{age_of}
use Rattle.bridge.specs.Send.{send_of}
use Rattle.bridge.specs.Demands.{Call, links, own_clock, receive, age, send, after, run}
use Rattle.bridge.specs.Chosen.{chosen_of}
use Rattle.bridge.specs.declared.Bridge.{Bridge}
use Rattle.bridge.specs.declared.Done.{Done}
use Rattle.numbers.proofs.Branches.{if_when}
use Rattle.times.proofs.TestLaws.{both_hold}
use Rattle.port.proofs.PortLaws.{empty_lawful, used_lawful, aged_lawful, received_lawful, own_reading_lawful, read_in_range}
use Rattle.bridge.proofs.Walk.{each_length, each_all, set_all}
use Rattle.bridge.proofs.CheckLaws.{granted_when, port_ready, own_ready}
use Rattle.bridge.proofs.Records.{fresh_record}

abbrev pub Next : {A : Type 0} → Done A → Type 0
Next d = Lawful d.next

-- ---- a state by its parts

-- other links and other records in a lawful state
parts_kept : (b : Bridge) (mask : ℕ) (ports : List Port) → Lawful b → mask < 2 ^ b.setup.n → length ports ≡ length b.ports → ((i : ℕ) → LawfulPort (port_at ports i))
    → Lawful (with_links b mask ports)
parts_kept b mask ports h hl l hp = record {
  setup_lawful = h.setup_lawful;
  links_most = hl;
  ranking_kept = refl;
  clock_lawful = h.clock_lawful;
  records = l ∙ h.records;
  ports_lawful = hp;
}

pub port_kept : (b : Bridge) (i : ℕ) (port : Port) → Lawful b → LawfulPort port → Lawful (with_port b i port)
port_kept b i port h l =
    parts_kept b b.links _ h h.links_most (length-set b.ports i port) (set_all LawfulPort empty_port empty_lawful b.ports i port l h.ports_lawful)

-- another own clock
clock_kept : (b : Bridge) (clock : OwnClock) → Lawful b → LawfulClock clock → Lawful (with_clock b clock)
clock_kept b clock h l = record {
  setup_lawful = h.setup_lawful;
  links_most = h.links_most;
  ranking_kept = h.ranking_kept;
  clock_lawful = l;
  records = h.records;
  ports_lawful = h.ports_lawful;
}

each_kept : (f : ℕ → Port → Port) (b : Bridge) (mask : ℕ) → Lawful b → mask < 2 ^ b.setup.n → ((k : ℕ) (p : Port) → LawfulPort p → LawfulPort (f k p))
    → Lawful (with_links b mask (each f 0 b.ports))
each_kept f b mask h hl g =
    parts_kept b mask _ h hl (each_length f 0 b.ports) (each_all f LawfulPort empty_port empty_lawful g 0 b.ports h.ports_lawful)

-- ---- setup

fresh_lawful : (s : Setup) → LawfulSetup s → Lawful (fresh_of s)
fresh_lawful s h = record {
  setup_lawful = h;
  links_most = pow_pos s.n;
  ranking_kept = refl;
  clock_lawful = record { preceding = tt; samples = tt };
  records = refl;
  ports_lawful = λ i. rw (fresh_record most_ports i) empty_lawful;
}

-- the plainest setups
pub plain_typed : (n timeout back : ℕ) → TypedSetup (plain_setup n timeout back)
plain_typed n timeout back = record {
  settings_all = refl;
  versions_all = refl;
  address = record { byte0 = lit< tt; byte1 = lit< tt; byte2 = lit< tt; byte3 = lit< tt; byte4 = lit< tt; byte5 = lit< tt };
  own_fits = record { priority1 = lit< tt; source = lit< tt; variance = lit< tt; priority2 = lit< tt; clock = lit< tt };
}

-- that of no ports
none_lawful : LawfulSetup no_setup
unfolding all
none_lawful = record {
  typed = plain_typed 0 0 0;
  ports_most = lit≤ tt;
  timeout_most = lit≤ tt;
  back_small = lit< tt;
  listener_fits = λ l. cc;
  delays-fit = refl;
  versions-fit = refl;
}

-- a listener that Setup takes has one port, is not capable and has backTime 0
listener_taken : (s : Setup) → profile_fits s.sender.profile s.n s.capable s.sender.back ≡ true → s.sender.profile ≡ Listener → ListenerSetup s
unfolding profile_fits
listener_taken s fits listens =
    let all = ap (λ (p : Profile). profile_fits p s.n s.capable s.sender.back) (sym listens) ∙ fits in
    let ports = both_hold (eqb s.n listener_ports) _ all in
    let rest = both_hold (not s.capable) _ ports.1 in
    record { one_port = eqb-true _ _ ports.0; not_capable = by s.capable rest.0; no_back = eqb-true _ _ rest.1 }
  where
    by : (t : Bool) → not t ≡ true → t ≡ false
    by true e = sym e
    by false e = refl

pub setup_lawful : (s : Setup) → TypedSetup s → Lawful (setup_of s).next
unfolding setup_of setup_fits ranges_fit
setup_lawful s typed =
    if_when (λ (d : Done ⊤). Next d) (setup_fits s)
    (λ e.
    let g = both_hold (profile_fits s.sender.profile s.n s.capable s.sender.back) _ e in
    let a = both_hold (leb 1 s.n) _ g.1 in
    let b = both_hold (leb s.n most_ports) _ a.1 in
    let c = both_hold (leb least_timeout s.timeout) _ b.1 in
    let d = both_hold (leb s.timeout greatest_timeout) _ c.1 in
    let f = both_hold (ltb s.sender.back longest_elapsed) _ d.1 in
    let v = both_hold (all setting_fits (take s.n s.settings)) _ f.1 in
    fresh_lawful s (record {
      typed = typed;
      ports_most = leb-true _ _ b.0;
      timeout_most = leb-true _ _ d.0;
      back_small = ltb-true _ _ f.0;
      listener_fits = listener_taken s g.0;
      delays-fit = v.0;
      versions-fit = v.1;
    }))
    (λ _. fresh_lawful no_setup none_lawful)

-- ---- the calls

pub links_lawful : (b : Bridge) (mask : ℕ) → Lawful b → Lawful (links_of b mask).next
unfolding links_of mask_beyond relinked_port
links_lawful b mask h =
    if_when (λ (d : Done ℕ). Next d) (leb (2 ^ b.setup.n) mask) (λ _. h)
    (λ e. each_kept (relinked_port b.links mask) b mask h (leb-false _ _ e)
    (λ k p l. if_when LawfulPort (eqb (bit b.links k) 1 && eqb (bit mask k) 0) (λ _. empty_lawful) (λ _. l)))

pub own_lawful : (b : Bridge) (count seconds fraction at : ℕ) → count < counts → Lawful b → Lawful (own_clock_of b count seconds fraction at).next
unfolding own_clock_of
own_lawful b count seconds fraction at byte h =
    granted_when (λ (d : Done ⊤). Next d) (own_clock_refusal b.setup.capable seconds fraction at)
    (λ e.
    let r = own_ready b.setup.capable seconds fraction at e in
    clock_kept b _ h
    (own_reading_lawful count (record { 0 = seconds; 1 = fraction }) (record { 0 = at }) b.clock byte r.time (record { seconds = r.whole; fraction = r.part }) h.clock_lawful))
    (λ _ _. h)

heard_lawful : (b : Bridge) (i : ℕ) (f : Fields) (at : LocalTime) → Lawful b → at.0 < circle → FieldsInRange f → Lawful (receive_fields_of (chosen_of b) b i f at).next
unfolding receive_fields_of
heard_lawful b i f at h t r = port_kept b i _ h (received_lawful _ _ f at _ t r (h.ports_lawful i))

pub receive_lawful : (b : Bridge) (port : ℕ) (frame : List ℕ) (arrival : ℕ) → Bytes frame → Lawful b → Lawful (receive_of b port frame arrival).next
unfolding receive_of
receive_lawful b port frame arrival bytes h =
    granted_when (λ (d : Done ⊤). Next d) (port_refusal b.setup.n b.links port arrival)
    (λ e. by (read_of frame) refl (port_ready b.setup.n b.links port arrival e).time)
    (λ _ _. h)
  where
    by : (r : Result Fields Refusal) → read_of frame ≡ r → arrival < circle → Next (read_by (chosen_of b) b (port - 1) r (record { 0 = arrival }))
    by (Err k) q t = h
    by (Ok f) q t = heard_lawful b (port - 1) f (record { 0 = arrival }) h t (read_in_range frame f bytes q)

pub age_lawful : (b : Bridge) (at : ℕ) → Lawful b → Lawful (age_of b at).next
unfolding age_of
age_lawful b at h =
    if_when (λ (d : Done ⊤). Next d) (leb circle at) (λ _. h)
    (λ _. each_kept _ b b.links h h.links_most (λ k p l. aged_lawful (record { 0 = at }) b.setup.timeout p l))

pub send_lawful : (b : Bridge) (port t room : ℕ) → Lawful b → Lawful (send_of b port t room).next
unfolding send_of
send_lawful b port t room h =
    granted_when (λ (d : Done ⊤). Next d) (send_refusal b.setup.n b.links port t room)
    (λ _. port_kept b (port - 1) _ h (used_lawful _ (h.ports_lawful (port - 1))))
    (λ _ _. h)

-- ---- calls in a row

after_lawful : (b : Bridge) (c : Call) → Lawful b → Lawful (after b c)
after_lawful b (links mask) h = links_lawful b mask h
after_lawful b (own_clock count byte seconds fraction at) h = own_lawful b count seconds fraction at byte h
after_lawful b (receive port frame bytes arrival) h = receive_lawful b port frame arrival bytes h
after_lawful b (age at) h = age_lawful b at h
after_lawful b (send port t room) h = send_lawful b port t room h

-- every state that a call is given, after any calls on a lawful one, is lawful
pub run_lawful : (b : Bridge) (cs : List Call) → Lawful b → Lawful (run b cs)
unfolding run
run_lawful b [] h = h
run_lawful b (c ∷ cs) h = run_lawful (after b c) cs (after_lawful b c h)
