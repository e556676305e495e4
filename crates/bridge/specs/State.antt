-- The state: what holds of every state that Setup or a call hands back, and a state with one part changed.
use Rattle.std.specs.Prelude.{◌≡◌, true, false, List, ℕ, ◌^◌, ◌<◌, ◌≤◌, length, get_or, take, set, Result, Ok, Err, ⊤}
use Rattle.refusals.specs.declared.Refusal.{Refusal}
use Rattle.timeline.specs.Sent.{longest_elapsed}
use Rattle.choice.specs.Rank.{PrecedenceFits}
use Rattle.port.specs.Lawful.{LawfulPort, LawfulClock, LawfulMac}
use Rattle.port.specs.declared.Profile.TheVariants.{Full, Listener}
use Rattle.port.specs.declared.Port.{Port}
use Rattle.port.specs.declared.OwnClock.{OwnClock}
use Rattle.port.specs.declared.Outcome.{Outcome}
use Rattle.bridge.specs.Table.{port_at, most_ports}
use Rattle.bridge.specs.Fits.{greatest_timeout, delays_fit_of, versions_fit_of, listener_ports, listener_back}
use Rattle.bridge.specs.Ranking.{kept_ranking}
use Rattle.bridge.specs.declared.Setup.{Setup}
use Rattle.bridge.specs.declared.Bridge.{Bridge}
use Rattle.bridge.specs.declared.Done.{Done}

-- what the types of a setup say, whatever Setup makes of it: eight settings and eight versions, an address of six bytes, and an own precedence whose parts have their bits
pub record TypedSetup (s : Setup) : Type 0 where
  pub settings_all : length s.settings ≡ most_ports
  pub versions_all : length s.versions ≡ most_ports
  pub address : LawfulMac s.sender.mac
  pub own_fits : PrecedenceFits s.own

-- what a listener is, in every state
pub record ListenerSetup (s : Setup) : Type 0 where
  pub one_port : s.n ≡ listener_ports
  pub not_capable : s.capable ≡ false
  pub no_back : s.sender.back ≡ listener_back

-- a setup in a state: one that Setup took, or that of no ports
pub record LawfulSetup (s : Setup) : Type 0 where
  pub typed : TypedSetup s
  pub ports_most : s.n ≤ most_ports
  pub timeout_most : s.timeout ≤ greatest_timeout
  pub back_small : s.sender.back < longest_elapsed
  pub listener_fits : s.sender.profile ≡ Listener → ListenerSetup s
  pub delays-fit : delays_fit_of (take s.n s.settings) ≡ true
  pub versions-fit : versions_fit_of (take s.n s.versions) ≡ true

-- what holds of every number in a state that Setup or a call hands back; and the ranking that it keeps is the one made afresh from its table
pub record Lawful (b : Bridge) : Type 0 where
  pub setup_lawful : LawfulSetup b.setup
  pub links_most : b.links < 2 ^ b.setup.n
  pub ranking_kept : b.ranking ≡ kept_ranking b.setup b.ports
  pub clock_lawful : LawfulClock b.clock
  pub records : length b.ports ≡ most_ports
  pub ports_lawful : (i : ℕ) → LawfulPort (port_at b.ports i)

-- a full bridge's state, and a listener's
abbrev pub FullBridge : Bridge → Type 0
FullBridge b = b.setup.sender.profile ≡ Full

abbrev pub Listens : Bridge → Type 0
Listens b = b.setup.sender.profile ≡ Listener

-- the version of the frames that the port at index i sends
abbrev pub version_at : Bridge → ℕ → ℕ
version_at b i = get_or b.setup.versions i 0

-- a state by its parts, its ranking made afresh: every state that is made, or whose records change, is made here
abbrev pub state_of : Setup → ℕ → OwnClock → List Port → Bridge
state_of setup links clock ports = record { setup = setup; links = links; ranking = kept_ranking setup ports; clock = clock; ports = ports }

-- a state with other records, another own clock (which leaves the ranking), other links
abbrev pub with_ports : Bridge → List Port → Bridge
with_ports b ports = state_of b.setup b.links b.clock ports

abbrev pub with_port : Bridge → ℕ → Port → Bridge
with_port b i port = with_ports b (set b.ports i port)

abbrev pub with_clock : Bridge → OwnClock → Bridge
with_clock b clock = record b { clock = clock }

abbrev pub with_links : Bridge → ℕ → List Port → Bridge
with_links b mask ports = state_of b.setup mask b.clock ports

-- what a call answers, and the next state
abbrev pub answers : {A : Type 0} → Result A Refusal → Bridge → Done A
answers answer b = record { answer = answer; next = b }

-- what a port or the own clock answers, with its record stored
abbrev pub stores_port : Bridge → ℕ → Outcome Port → Done ⊤
stores_port b i d = answers d.answer (with_port b i d.after)

abbrev pub stores_clock : Bridge → Outcome OwnClock → Done ⊤
stores_clock b d = answers d.answer (with_clock b d.after)

-- the first where there is no refusal, else the second
abbrev pub by_refusal : {A : Type 0} → Result ⊤ Refusal → A → A → A
by_refusal (Ok _) goes_on stops = goes_on
by_refusal (Err refusal) goes_on stops = stops

-- a refusal found before any record is looked at stores nothing; where there is none, the call goes on
abbrev pub refused_or : Bridge → Result ⊤ Refusal → Done ⊤ → Done ⊤
refused_or b answer d = by_refusal answer d (answers answer b)

-- how many bytes a state takes, and an answer with the next one: room that a task has in its frame for a call
abbrev pub state_bytes : ℕ
state_bytes = 2184

abbrev pub done_bytes : ℕ
done_bytes = 2192
