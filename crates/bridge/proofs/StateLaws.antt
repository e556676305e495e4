-- Laws of the calls: what each definition comes to, case by case, and how far a loop over the records has come.
use mathlib.Core.Path.{◌≡◌, refl, sym, ap, ◌∙◌, subst}
use mathlib.Core.Bool.{Bool, true, false, cond, true≢false}
use mathlib.Core.List.{List}
use Prim.Native.Nat.{ℕ, ◌+◌, ◌-◌, ◌^◌, ◌<◌, ◌≤◌, zero, suc}
use native.Mathlib.Omega.{arith}
use borrow.Author.Tests.{lt-ltb, le-ltb}
use lib.Count.{ones}
use lib.Dec.{leb}
use lib.ListN.{length, set}
use Rattle.std.specs.Prelude.{⊤}
use Rattle.std.proofs.Common.{Option, Some, None, Result, Ok, Err}
use Rattle.refusals.specs.Answer.{granted}
use Rattle.refusals.specs.declared.Refusal.{Refusal}
use Rattle.refusals.specs.declared.Refusal.TheVariants.{BadSetup, OutOfRange}
use Rattle.times.specs.Times.{circle}
use Rattle.times.specs.declared.LocalTime.{LocalTime}
use Rattle.samples.specs.Keep.{LawfulSamples}
use Rattle.samples.specs.declared.Samples.{Samples}
use Rattle.timeline.specs.declared.Drift.{Drift}
use Rattle.timeline.specs.declared.Drift.TheVariants as Drifts
use Rattle.timeline.specs.Drift.{drift_of}
use Rattle.choice.specs.Choose.{candidate_of, own_candidate, number_of, chosen_hop}
use Rattle.choice.specs.Places.{Updates}
use Rattle.choice.specs.declared.Candidate.{Candidate}
use Rattle.choice.specs.declared.Rank.{Rank}
use Rattle.frame.specs.Read.{read_of}
use Rattle.frame.specs.declared.Fields.{Fields}
use Rattle.port.specs.Receive.{received_of}
use Rattle.port.specs.Record.{empty_port, too_old, aged_port}
use Rattle.port.specs.Lawful.{LawfulPort}
use Rattle.port.specs.Own.{own_reading_of}
use Rattle.port.specs.Send.{sending_of, sending_done, sending_bytes}
use Rattle.port.specs.declared.Port.{Port}
use Rattle.port.specs.declared.OwnClock.{OwnClock}
use Rattle.port.specs.declared.Outcome.{Outcome}
use Rattle.bridge.specs.Table.{most_ports, each, port_at, samples_at, samples_of_choice, relinked_port}
use Rattle.bridge.specs.Arguments.{port_refusal, send_refusal, own_clock_refusal, mask_beyond}
use Rattle.bridge.specs.Fits.{ranges_fit, profile_fits, setup_fits}
use Rattle.bridge.specs.declared.Setup.{Setup}
use Rattle.bridge.specs.State.{version_at, with_ports, answers, stores_port, stores_clock, by_refusal, refused_or, Lawful}
use Rattle.bridge.specs.Setup.{fresh_of, no_bridge, setup_of}
use Rattle.bridge.specs.Links.{links_of}
use Rattle.bridge.specs.Own.{own_clock_of}
use Rattle.bridge.specs.Receive.{setting_at, read_by, receive_fields_of, receive_of}
use Rattle.bridge.specs.Age.{age_of}
use Rattle.bridge.specs.Chosen.{chosen_of}
use Rattle.bridge.specs.Send.{sending_at, send_of, send_bytes}
use Rattle.bridge.specs.Drift.{drift_at}
use Rattle.bridge.specs.declared.Bridge.{Bridge}
use Rattle.bridge.specs.declared.Done.{Done}
use Rattle.numbers.proofs.Branches.{if_true, if_false}
use Rattle.port.proofs.PortLaws.{empty_lawful, aged_fresh, send_unchosen}
use Rattle.bridge.proofs.TableLaws.{best_number, relinked_beyond}
use Rattle.bridge.proofs.Keeps.{port_kept}
use Rattle.bridge.proofs.RankingLaws.{ranking_stored, state_made, stored_made}
use Rattle.bridge.proofs.Walk.{Walked, walked_start, walked_more, walked_same, walked_first}

-- ---- a refusal found before any record is looked at, whose definition is `want`: where it is none, and where it is one

module _ {A : Type 0} (want : Result ⊤ Refusal) (x y : A) where
  goes_on : granted ≡ want → x ≡ by_refusal want x y
  goes_on e = ap (λ answer. by_refusal answer x y) e

  stops : (refusal : Refusal) → Err refusal ≡ want → y ≡ by_refusal want x y
  stops refusal e = ap (λ answer. by_refusal answer x y) e

refuses : (b : Bridge) (want : Result ⊤ Refusal) (refusal : Refusal) (x : Done ⊤) → Err refusal ≡ want → answers (Err refusal) b ≡ refused_or b want x
refuses b want refusal x e = ap (λ answer. refused_or b answer x) e

-- ---- setup

module _ (s : Setup) where
  -- both tests hold, or one does not
  pub setup_done : profile_fits s.sender.profile s.n s.capable s.sender.back ≡ true → ranges_fit s ≡ true → answers granted (fresh_of s) ≡ setup_of s
  unfolding setup_of setup_fits
  setup_done profile ranges = if_true (setup_fits s) _ _ (rw (profile, ranges) refl)

  pub setup_refused : setup_fits s ≡ false → answers (Err BadSetup) no_bridge ≡ setup_of s
  unfolding setup_of
  setup_refused e = if_false _ _ _ e

  pub profile_refused : profile_fits s.sender.profile s.n s.capable s.sender.back ≡ false → answers (Err BadSetup) no_bridge ≡ setup_of s
  unfolding setup_fits
  profile_refused profile = setup_refused (rw profile refl)

  pub ranges_refused : profile_fits s.sender.profile s.n s.capable s.sender.back ≡ true → ranges_fit s ≡ false → answers (Err BadSetup) no_bridge ≡ setup_of s
  unfolding setup_fits
  ranges_refused profile ranges = setup_refused (rw (profile, ranges) refl)

-- ---- a loop that changes the records where they are: of the state only they change, and the ranking with them; those below i have

pub record Stored (f : ℕ → Port → Port) (b : Bridge) (i : ℕ) (next : Bridge) : Type 0 where
  pub rest : next ≡ with_ports b next.ports
  pub walked : Walked f most_ports b.ports i next.ports
  pub lawful : Lawful next

module _ (f : ℕ → Port → Port) (b : Bridge) where
  pub stored_start : Lawful b → Stored f b 0 b
  stored_start l = record { rest = state_made b l; walked = walked_start f most_ports b.ports l.records; lawful = l }

  module _ (i : ℕ) (next : Bridge) (s : Stored f b i next) where
    -- one more record is stored, once what it announces has taken its place in the ranking
    pub stored_more : (q : Port) (ranks : List Rank) → i < most_ports → q ≡ f i (port_at next.ports i) → LawfulPort q
        → Updates (i + 1) (candidate_of (i + 1) q.announcement) next.ranking ranks
        → Stored f b (i + 1) (record { setup = next.setup; links = next.links; ranking = ranks; clock = next.clock; ports = set next.ports i q })
    stored_more q ranks h e l updates =
        subst (Stored f b (i + 1)) (sym (stored_made next i q ranks (ranking_stored next s.lawful i (i + 1) h refl q ranks updates)))
        (record {
          rest = ap (λ (x : Bridge). with_ports x (set next.ports i q)) s.rest;
          walked = walked_more f most_ports b.ports i next.ports empty_port q s.walked h e;
          lawful = port_kept next i q s.lawful l;
        })

    -- one that is emptied announces nothing
    pub stored_emptied : (q : Port) (ranks : List Rank) → i < most_ports → q ≡ empty_port → empty_port ≡ f i (port_at next.ports i)
        → Updates (i + 1) (candidate_of (i + 1) None) next.ranking ranks
        → Stored f b (i + 1) (record { setup = next.setup; links = next.links; ranking = ranks; clock = next.clock; ports = set next.ports i q })
    stored_emptied q ranks h e empties updates =
        stored_more q ranks h (e ∙ empties) (subst LawfulPort (sym e) empty_lawful)
        (subst (λ (p : Port). Updates (i + 1) (candidate_of (i + 1) p.announcement) next.ranking ranks) (sym e) updates)

    -- a record that is to stay as it is need not be stored
    pub stored_same : i < most_ports → port_at next.ports i ≡ f i (port_at next.ports i) → Stored f b (i + 1) next
    stored_same h e = record { rest = s.rest; walked = walked_same f most_ports b.ports i next.ports empty_port s.walked h e; lawful = s.lawful }

    -- all have changed where every record from i on is to stay as it is
    pub stored_all : ((k : ℕ) → i ≤ k → k < most_ports → port_at next.ports k ≡ f k (port_at next.ports k)) → next ≡ with_ports b (each f 0 b.ports)
    stored_all g = s.rest ∙ ap (with_ports b) (walked_first f most_ports b.ports i next.ports empty_port s.walked g)

-- ---- age

module _ (b : Bridge) (at : ℕ) where
  pub age_refused : leb circle at ≡ true → answers (Err OutOfRange) b ≡ age_of b at
  unfolding age_of
  age_refused e = if_true _ _ _ e

  abbrev pub ages_by : ℕ → Port → Port
  ages_by _ = aged_port (record { 0 = at }) b.setup.timeout

  pub age_done : (i : ℕ) (next : Bridge) → leb circle at ≡ false → Stored ages_by b i next → most_ports ≤ i → answers granted next ≡ age_of b at
  unfolding age_of
  age_done i next e s h = ap (answers granted) (stored_all ages_by b i next s (λ k m l. absurd (omega arith))) ∙ if_false _ _ _ e

  -- where none of the first i announcements was found too old, their records age by staying as they are
  abbrev pub NoneOld : ℕ → Bool → Type 0
  NoneOld i found = found ≡ false → Stored ages_by b i b

  pub none_old_more : (i : ℕ) (found next : Bool) → i < most_ports → NoneOld i found
      → next ≡ cond found true (too_old (port_at b.ports i).announcement (record { 0 = at }) b.setup.timeout) → NoneOld (i + 1) next
  none_old_more i true next h w e z = absurd (true≢false (sym e ∙ z))
  none_old_more i false next h w e z = stored_same ages_by b i b (w refl) h (aged_fresh _ _ _ (sym e ∙ z))

-- ---- links

module _ (b : Bridge) (mask : ℕ) where
  pub links_refused : mask_beyond b.setup.n mask ≡ true → answers (Err OutOfRange) b ≡ links_of b mask
  unfolding links_of
  links_refused e = if_true _ _ _ e

  abbrev pub relinks_by : ℕ → Port → Port
  relinks_by = relinked_port b.links mask

  -- the records from n on stay, for their ports have no link to lose
  pub links_done : (i : ℕ) (next : Bridge) → mask_beyond b.setup.n mask ≡ false → Stored relinks_by b i next → b.setup.n ≤ i → b.links < 2 ^ b.setup.n
      → answers (Ok (ones mask)) (record { setup = next.setup; links = mask; ranking = next.ranking; clock = next.clock; ports = next.ports }) ≡ links_of b mask
  unfolding links_of
  links_done i next e s h l =
      ap (λ (x : Bridge). answers (Ok (ones mask)) (record { setup = x.setup; links = mask; ranking = x.ranking; clock = x.clock; ports = x.ports }))
      (stored_all relinks_by b i next s (λ k m _. relinked_beyond b.links mask k _ b.setup.n l (omega arith)))
      ∙ if_false _ _ _ e

-- ---- own clock

module _ (b : Bridge) (count seconds fraction at : ℕ) where
  pub own_refused : (refusal : Refusal) → Err refusal ≡ own_clock_refusal b.setup.capable seconds fraction at → answers (Err refusal) b ≡ own_clock_of b count seconds fraction at
  unfolding own_clock_of
  own_refused refusal e = refuses b _ refusal _ e

  pub own_done : (reading : Outcome OwnClock) → granted ≡ own_clock_refusal b.setup.capable seconds fraction at
      → reading ≡ own_reading_of count (record { 0 = seconds; 1 = fraction }) (record { 0 = at }) b.clock → stores_clock b reading ≡ own_clock_of b count seconds fraction at
  unfolding own_clock_of
  own_done reading e t = ap (stores_clock b) t ∙ goes_on _ _ _ e

-- ---- receive

-- what is stored of a frame that was read goes by H of the state before the call
pub receive_stores : (b : Bridge) (i : ℕ) (f : Fields) (at : LocalTime)
    → stores_port b i (received_of (setting_at b i) (chosen_hop (chosen_of b)) f at (port_at b.ports i)) ≡ receive_fields_of (chosen_of b) b i f at
unfolding receive_fields_of
receive_stores b i f at = refl

module _ (b : Bridge) (port : ℕ) (frame : List ℕ) (arrival : ℕ) where
  pub receive_refused : (refusal : Refusal) → Err refusal ≡ port_refusal b.setup.n b.links port arrival → answers (Err refusal) b ≡ receive_of b port frame arrival
  unfolding receive_of
  receive_refused refusal e = refuses b _ refusal _ e

  pub receive_read : (r : Result Fields Refusal) → granted ≡ port_refusal b.setup.n b.links port arrival → r ≡ read_of frame
      → read_by (chosen_of b) b (port - 1) r (record { 0 = arrival }) ≡ receive_of b port frame arrival
  unfolding receive_of
  receive_read r e q = ap (λ (x : Result Fields Refusal). read_by (chosen_of b) b (port - 1) x (record { 0 = arrival })) q ∙ goes_on _ _ _ e

-- ---- send

module _ (b : Bridge) (port t : ℕ) (out : List ℕ) where
  pub send_refused : (refusal : Refusal) → Err refusal ≡ send_refusal b.setup.n b.links port t (length out) → answers (Err refusal) b ≡ send_of b port t (length out)
  unfolding send_of
  send_refused refusal e = refuses b _ refusal _ e

  pub send_untouched : (refusal : Refusal) → Err refusal ≡ send_refusal b.setup.n b.links port t (length out) → out ≡ send_bytes b port t out
  unfolding send_bytes
  send_untouched refusal e = stops _ _ _ refusal e

  pub send_stores : (sent : Outcome Port) → granted ≡ send_refusal b.setup.n b.links port t (length out)
      → sent ≡ sending_done (sending_at (chosen_of b) b (port - 1) (record { 0 = t })) (port_at b.ports (port - 1)) → stores_port b (port - 1) sent ≡ send_of b port t (length out)
  unfolding send_of
  send_stores sent e q = ap (stores_port b (port - 1)) q ∙ goes_on _ _ _ e

  pub send_fills : granted ≡ send_refusal b.setup.n b.links port t (length out)
      → sending_bytes (sending_at (chosen_of b) b (port - 1) (record { 0 = t })) out ≡ send_bytes b port t out
  unfolding send_bytes
  send_fills e = goes_on _ _ _ e

-- what a port sends by the chosen clock and the samples of its number: where no clock is chosen the samples do not matter
pub sending_chosen : (b : Bridge) (i : ℕ) (t : LocalTime) (c : Option Candidate) (s : Samples) (version : ℕ) → c ≡ chosen_of b → s ≡ samples_at (number_of c) b.clock b.ports
    → version ≡ version_at b i → sending_of c s b.setup.sender version t (port_at b.ports i) ≡ sending_at (chosen_of b) b i t
unfolding sending_at samples_of_choice
sending_chosen b i t c s version e q v =
    go c s q
    ∙ (λ j. sending_of (e j) (samples_of_choice (e j) b.clock b.ports) b.setup.sender (v j) t (port_at b.ports i))
  where
    go : (c : Option Candidate) (s : Samples) → s ≡ samples_at (number_of c) b.clock b.ports
        → sending_of c s b.setup.sender version t (port_at b.ports i) ≡ sending_of c (samples_of_choice c b.clock b.ports) b.setup.sender version t (port_at b.ports i)
    go None s q = send_unchosen None s b.setup.sender version t (port_at b.ports i) _
    go (Some chosen) s q = ap (λ (x : Samples). sending_of (Some chosen) x b.setup.sender version t (port_at b.ports i)) q

-- ---- drift

module _ (b : Bridge) (port : ℕ) where
  pub drift_refused : b.setup.n < port → Drifts.Refused ≡ drift_at b port
  unfolding drift_at
  drift_refused h = if_true _ _ _ (lt-ltb _ _ h)

  pub drift_done : (d : Drift) → port ≤ b.setup.n → d ≡ drift_of (samples_at port b.clock b.ports) → d ≡ drift_at b port
  unfolding drift_at
  drift_done d h e = e ∙ if_false _ _ _ (le-ltb _ _ h)

-- ---- a clock by its number, 0 for the own clock, k + 1 for the record at index k

-- x is none of the numbers below n
abbrev pub NoneBelow : ℕ → ℕ → Type 0
NoneBelow x zero = Unit {0}
NoneBelow x (suc n) = NoneBelow x n × (x ≡ n → ⊥)

-- so it is no less than n
none_below : (x n : ℕ) → NoneBelow x n → n ≤ x
none_below x zero r = omega arith
none_below x (suc n) r = omega (arith, none_below x n r.0, r.1)

-- a number that is no more than 8 and none below it is that of the last port
pub last_port : {number : ℕ} → number ≤ most_ports → NoneBelow number most_ports → number ≡ most_ports
last_port {number} h r = omega (arith, none_below number most_ports r)

-- the samples in a record are lawful
pub record_lawful : (b : Bridge) (k : ℕ) {samples : Samples} → samples ≡ (port_at b.ports k).samples → Lawful b → LawfulSamples samples
record_lawful b k e l = subst LawfulSamples (sym e) (l.ports_lawful k).samples

-- and those of the clock with its number
pub record_samples : (clock : OwnClock) (ports : List Port) (k : ℕ) {number : ℕ} {samples : Samples} → samples ≡ (port_at ports k).samples → number ≡ suc k
    → samples ≡ samples_at number clock ports
unfolding samples_at
record_samples clock ports k e n = e ∙ ap (λ (i : ℕ). samples_at i clock ports) (sym n)

-- the number of the chosen clock is that of a port, or 0
pub chosen_number : (b : Bridge) → length b.ports ≡ 8 → number_of (chosen_of b) ≤ 8
unfolding chosen_of own_candidate
chosen_number b e = omega (arith, best_number 0 b.ports (own_candidate b.setup.capable b.setup.own) (own_number b.setup.capable), e)
  where
    own_number : (t : Bool) → number_of (own_candidate t b.setup.own) ≤ 0 + length b.ports
    own_number true = omega arith
    own_number false = omega arith
