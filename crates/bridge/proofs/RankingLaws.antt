-- Laws of the ranking that a state keeps: it goes by the announcements alone, and what a port announces takes its place in it.
use mathlib.Core.Path.{◌≡◌, refl, sym, ap, ◌∙◌}
use mathlib.Core.Bool.{Bool, true, false}
use mathlib.Core.List.{List, [], ◌∷◌}
use Prim.Native.Nat.{ℕ, zero, suc, ◌+◌, ◌<◌}
use native.Mathlib.Nat.{add-zero}
use native.Mathlib.Numerals.{add-one}
use native.Mathlib.Omega.{arith}
use lib.ListN.{length, set, replicate, length-set}
use lib.Seq.{get_or-set_same, get_or-set_other}
use Rattle.std.proofs.Common.{Option, Some, None}
use Rattle.choice.specs.Choose.{candidate_of, own_candidate}
use Rattle.choice.specs.Ranking.{placed_of, ranking_of, ranked_at, with_candidate}
use Rattle.choice.specs.Places.{places, places_of, Keeps, Updates}
use Rattle.choice.specs.declared.Precedence.{Precedence}
use Rattle.choice.specs.declared.Announcement.{Announcement}
use Rattle.choice.specs.declared.Candidate.{Candidate}
use Rattle.choice.specs.declared.Rank.{Rank}
use Rattle.port.specs.Record.{empty_port}
use Rattle.port.specs.declared.Port.{Port}
use Rattle.bridge.specs.Table.{port_at, most_ports, candidates_from, candidates_of}
use Rattle.bridge.specs.Ranking.{fresh_ranking, kept_ranking}
use Rattle.bridge.specs.State.{Lawful, with_port, with_ports}
use Rattle.bridge.specs.Demands.{candidates}
use Rattle.bridge.specs.declared.Setup.{Setup}
use Rattle.bridge.specs.declared.Bridge.{Bridge}
use Rattle.choice.proofs.RankingLaws.{Under, Numbered, ranked_member, ranking_length, ranking_ordered, numbered_once, ranking_changed}
use Rattle.bridge.proofs.Numbered.{candidates_fit}

-- ---- the candidates stand under their numbers

candidate-under : (k : ℕ) (x : Option Announcement) → Under k (candidate_of k x)
unfolding candidate_of
candidate-under k None = tt
candidate-under k (Some a) = refl

from_numbered : (k : ℕ) (ports : List Port) → Numbered k (candidates_from k ports)
unfolding candidates_from
from_numbered k [] = tt
from_numbered k (p ∷ ports) = (candidate-under k p.announcement, from_numbered (suc k) ports)

own_under : (capable : Bool) (own : Precedence) → Under 0 (own_candidate capable own)
unfolding own_candidate
own_under true own = refl
own_under false own = tt

pub candidates_under : (capable : Bool) (own : Precedence) (ports : List Port) → Numbered 0 (candidates_of capable own ports)
candidates_under capable own ports = (own_under capable own, from_numbered 1 ports)

-- as many as there are ports, and the own clock
from_length : (k : ℕ) (ports : List Port) → length (candidates_from k ports) ≡ length ports
unfolding candidates_from
from_length k [] = refl
from_length k (p ∷ ports) = ap suc (from_length (suc k) ports)

pub candidates_length : (capable : Bool) (own : Precedence) (ports : List Port) → length (candidates_of capable own ports) ≡ suc (length ports)
candidates_length capable own ports = ap suc (from_length 1 ports)

-- that of a port is what it announces
from_there : (k : ℕ) (ports : List Port) (i : ℕ) → ranked_at (candidates_from k ports) i ≡ candidate_of (k + i) (port_at ports i).announcement
unfolding candidates_from candidate_of
from_there k [] i = refl
from_there k (p ∷ ports) zero = ap (λ (n : ℕ). candidate_of n p.announcement) (sym (add-zero k))
from_there k (p ∷ ports) (suc i) =
    let next : suc k + i ≡ k + suc i = omega arith in
    from_there (suc k) ports i ∙ ap (λ (n : ℕ). candidate_of n (port_at ports i).announcement) next

pub candidate_there : (b : Bridge) (i : ℕ) → ranked_at (candidates b) (i + 1) ≡ candidate_of (i + 1) (port_at b.ports i).announcement
candidate_there b i =
    let number : 1 + i ≡ i + 1 = omega arith in
    ap (ranked_at (candidates b)) (add-one i) ∙ from_there 1 b.ports i ∙ ap (λ (n : ℕ). candidate_of n (port_at b.ports i).announcement) number

-- where no port announces anything there is the own clock alone
pub fresh_alone : (setup : Setup) → places_of places (placed_of (own_candidate setup.capable setup.own) []) ≡ kept_ranking setup (replicate most_ports empty_port)
unfolding ranking_of placed_of candidates_from candidate_of
fresh_alone setup = refl

-- ---- one port changes

module _ (capable : Bool) (own : Precedence) (ports : List Port) (i : ℕ) (port : Port) where
  abbrev before : List (Option Candidate)
  before = candidates_of capable own ports

  abbrev after : List (Option Candidate)
  after = candidates_of capable own (set ports i port)

  -- its candidate, and all others
  changed_there : i < length ports → ranked_at after (i + 1) ≡ candidate_of (i + 1) port.announcement
  changed_there h =
      let number : 1 + i ≡ i + 1 = omega arith in
      ap (ranked_at after) (add-one i) ∙ from_there 1 (set ports i port) i
      ∙ (λ j. candidate_of (number j) (get_or-set_same ports i port empty_port h j).announcement)

  changed_others : (n : ℕ) → (n ≡ i + 1 → ⊥) → ranked_at after n ≡ ranked_at before n
  changed_others zero other = refl
  changed_others (suc m) other =
      from_there 1 (set ports i port) m
      ∙ ap (λ (p : Port). candidate_of (1 + m) p.announcement) (get_or-set_other ports i m port empty_port (λ e. other (omega (arith, e))))
      ∙ sym (from_there 1 ports m)

-- a port that announces the same leaves the ranking
same_from : (k : ℕ) (ports : List Port) (i : ℕ) (port : Port) → port.announcement ≡ (port_at ports i).announcement → candidates_from k (set ports i port) ≡ candidates_from k ports
unfolding candidates_from
same_from k [] i port e = refl
same_from k (p ∷ ports) zero port e = ap (λ (x : Option Announcement). candidate_of k x ∷ candidates_from (suc k) ports) e
same_from k (p ∷ ports) (suc i) port e = λ j. candidate_of k p.announcement ∷ same_from (suc k) ports i port e j

same_announced : (setup : Setup) (ports : List Port) (i : ℕ) (port : Port) → port.announcement ≡ (port_at ports i).announcement
    → fresh_ranking setup (set ports i port) ≡ fresh_ranking setup ports
same_announced setup ports i port e = ap (λ (l : List (Option Candidate)). ranking_of (own_candidate setup.capable setup.own ∷ l)) (same_from 1 ports i port e)

-- ---- of a lawful state

module _ (b : Bridge) (lawful : Lawful b) where
  abbrev ranking : List (Option Candidate)
  ranking = fresh_ranking b.setup b.ports

  pub numbered : Numbered 0 (candidates b)
  numbered = candidates_under b.setup.capable b.setup.own b.ports

  pub nine : length (candidates b) ≡ places
  nine = candidates_length b.setup.capable b.setup.own b.ports ∙ ap suc lawful.records

  -- the ranks that it keeps are those of the ranking made afresh
  pub ranking_keeps : Keeps b.ranking ranking
  ranking_keeps = record {
    is = lawful.ranking_kept;
    ordered = ranking_ordered 0 (candidates b) numbered (omega (arith, nine));
    within = omega (arith, ranking_length (candidates b), nine);
    once = numbered_once (candidates b) numbered;
    clocks = λ x m. (ranked_member (candidates b) m).1;
    fits = λ x m. candidates_fit b lawful x (ranked_member (candidates b) m).0;
  }

  -- a record that announces the same leaves it
  pub announced_kept : (i : ℕ) (port : Port) → port.announcement ≡ (port_at b.ports i).announcement → (with_port b i port).ranking ≡ b.ranking
  announced_kept i port e = ap (places_of places) (same_announced b.setup b.ports i port e) ∙ sym lawful.ranking_kept

  -- what a port announces takes its place in it
  pub ranking_stored : (i number : ℕ) → i < most_ports → number ≡ i + 1 → (port : Port) (ranks : List Rank)
      → Updates number (candidate_of number port.announcement) b.ranking ranks → ranks ≡ (with_port b i port).ranking
  ranking_stored i number h e port ranks updates =
      let capable = b.setup.capable in
      let own = b.setup.own in
      let there = changed_there capable own b.ports i port (omega (arith, h, lawful.records)) in
      let after = candidates_of capable own (set b.ports i port) in
      let as_many : length after ≡ places = candidates_length capable own (set b.ports i port) ∙ ap suc (length-set b.ports i port ∙ lawful.records) in
      updates ranking ranking_keeps (omega (arith, h, e))
      ∙ ap (places_of places)
      (ap (λ (n : ℕ). with_candidate n (candidate_of n port.announcement) ranking) e
      ∙ ap (λ (c : Option Candidate). with_candidate (i + 1) c ranking) (sym there)
      ∙ sym (ranking_changed (candidates b) after numbered (candidates_under capable own (set b.ports i port)) (omega (arith, nine)) (omega (arith, as_many)) (i + 1) (omega (arith, h))
      (changed_others capable own b.ports i port)))

-- ---- a state by its parts

-- a lawful state is the one that its other parts make
pub state_made : (b : Bridge) → Lawful b → b ≡ with_ports b b.ports
state_made b lawful = λ j. record { setup = b.setup; links = b.links; ranking = lawful.ranking_kept j; clock = b.clock; ports = b.ports }

-- a record stored, with a ranking that is the one made afresh
pub stored_made : (b : Bridge) (i : ℕ) (port : Port) (ranks : List Rank) → ranks ≡ (with_port b i port).ranking
    → record { setup = b.setup; links = b.links; ranking = ranks; clock = b.clock; ports = set b.ports i port } ≡ with_port b i port
stored_made b i port ranks e = λ j. record { setup = b.setup; links = b.links; ranking = e j; clock = b.clock; ports = set b.ports i port }

-- and where it announces the same, the ranking that was
pub stored_kept : (b : Bridge) → Lawful b → (i : ℕ) (port : Port) → port.announcement ≡ (port_at b.ports i).announcement
    → record { setup = b.setup; links = b.links; ranking = b.ranking; clock = b.clock; ports = set b.ports i port } ≡ with_port b i port
stored_kept b lawful i port e = stored_made b i port b.ranking (sym (announced_kept b lawful i port e))
