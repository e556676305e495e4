-- The ranking that a state keeps: in a lawful state, and so after any calls, it is the one made afresh from the table, in order, each candidate once and no other such list;
-- its head is the chosen clock, its second the best without that one; and a port that loses its link, or that aged, is not in it after that call.
use mathlib.Core.Path.{◌≡◌, refl, sym, ap, ◌∙◌, subst}
use mathlib.Core.Bool.{Bool, true, false}
use mathlib.Core.List.{List, Memᴰ}
use Prim.Native.Nat.{ℕ, zero, suc, ◌+◌, ◌<◌, ◌≤◌}
use native.Mathlib.Numerals.{add-one}
use native.Mathlib.Omega.{arith}
use borrow.Author.Tests.{ltb-true, ltb-false, le-leb, eq-eqb, ne_eqb}
use lib.Dec.{ltb, leb, eqb}
use lib.ListN.{length, get_or-eq_default}
use Rattle.std.specs.Prelude.{⊤}
use Rattle.std.proofs.Common.{Option, Some, None}
use Rattle.refusals.specs.Answer.{answer_number, granted}
use Rattle.times.specs.Times.{circle, since_of}
use Rattle.choice.specs.Choose.{candidate_of, best_of, number_of, shown_port}
use Rattle.choice.specs.Least.{rank_in}
use Rattle.choice.specs.Permutation.{Permutation}
use Rattle.choice.specs.Ranking.{ranked_at, Ordered, IsClock, clocks_in, how_many_below, without_number}
use Rattle.choice.specs.Places.{candidate_in}
use Rattle.choice.specs.declared.Announcement.{Announcement}
use Rattle.choice.specs.declared.Candidate.{Candidate}
use Rattle.port.specs.Record.{empty_port, too_old, aged_port}
use Rattle.port.specs.declared.Port.{Port}
use Rattle.bridge.specs.Table.{each, port_at, most_ports, loses_link, relinked_port}
use Rattle.bridge.specs.Arguments.{bit, mask_beyond}
use Rattle.bridge.specs.Ranking.{fresh_ranking, kept_ranking}
use Rattle.bridge.specs.State.{TypedSetup, Lawful, with_links}
use Rattle.bridge.specs.Setup.{setup_of}
use Rattle.bridge.specs.Links.{links_of}
use Rattle.bridge.specs.Age.{age_of}
use Rattle.bridge.specs.Chosen.{chosen_of}
use Rattle.bridge.specs.Ranked.{ranked_of}
use Rattle.bridge.specs.Demands.{candidates, NotShown, Call, run}
use Rattle.bridge.specs.declared.Setup.{Setup}
use Rattle.bridge.specs.declared.Bridge.{Bridge}
use Rattle.bridge.specs.declared.Done.{Done}
use Rattle.numbers.proofs.Branches.{if_when}
use Rattle.port.proofs.PortLaws.{aged_old}
use Rattle.choice.proofs.RankingLaws.{numbered_at, ranked_member, place_member, clock_within, ranking_permutation, ranking_only, ranking_head, ranking_second, second_next, ordered_once, ranking_below, ordered_below, ranking_count}
use Rattle.choice.proofs.PlacesLaws.{kept_candidate}
use Rattle.bridge.proofs.Keeps.{setup_lawful, links_lawful, age_lawful, run_lawful}
use Rattle.bridge.proofs.Walk.{each_length}
use Rattle.bridge.proofs.Records.{each_record}
use Rattle.bridge.proofs.TableLaws.{relinked_lost, relinked_kept}
use Rattle.bridge.proofs.Least.{chosen_best}
use Rattle.bridge.proofs.Numbered.{candidates_fit}
use Rattle.bridge.proofs.RankingLaws.{candidate_there, numbered, nine, ranking_keeps}

-- ---- in a lawful state

module _ (b : Bridge) (lawful : Lawful b) where
  abbrev ranking : List (Option Candidate)
  ranking = fresh_ranking b.setup b.ports

  -- what is kept at each place is the candidate of the ranking made afresh
  pub kept_place : (place : ℕ) → candidate_in b.ranking place ≡ ranked_of b place
  unfolding ranked_of
  kept_place place = kept_candidate (ranking_keeps b lawful) place

  -- from best to worst, the candidates of the table in another order, and the only such list
  pub fresh_ordered : Ordered ranking
  fresh_ordered = (ranking_keeps b lawful).ordered

  pub fresh_permutation : Permutation (clocks_in (candidates b)) ranking
  fresh_permutation = ranking_permutation (candidates b)

  pub fresh_only : (l : List (Option Candidate)) → Ordered l → Permutation (clocks_in (candidates b)) l → l ≡ ranking
  fresh_only l o p = ranking_only (candidates b) l (numbered b lawful) (omega (arith, nine b lawful)) o p

  -- each once
  pub ranked_once : (i j : ℕ) → IsClock (ranked_of b i) → ranked_of b i ≡ ranked_of b j → i ≡ j
  unfolding ranked_of
  ranked_once i j clock e =
      ordered_once ranking fresh_ordered i j (clock_within ranking i clock) (clock_within ranking j (subst IsClock e clock)) e

  -- THE HEAD IS THE CHOICE
  pub chosen_head : ranked_of b 0 ≡ chosen_of b
  unfolding ranked_of
  chosen_head = ranking_head (candidates b) (numbered b lawful) (omega (arith, nine b lawful)) (candidates_fit b lawful) ∙ chosen_best b

  -- so Chosen reads it
  pub kept_chosen : candidate_in b.ranking 0 ≡ chosen_of b
  kept_chosen = kept_place 0 ∙ chosen_head

  -- THE SECOND IS THE RUNNER-UP: the best of the candidates without the chosen one
  pub runner_up : ranked_of b 1 ≡ best_of None (without_number (number_of (chosen_of b)) (candidates b))
  unfolding ranked_of
  runner_up =
      ranking_second (candidates b) (numbered b lawful) (omega (arith, nine b lawful)) (candidates_fit b lawful)
      ∙ ap (λ (c : Option Candidate). best_of None (without_number (number_of c) (candidates b))) (chosen_best b)

  -- a clock at a place has so many better ones, and where there is none there are no more than that
  pub ranked_before : (place : ℕ) → IsClock (ranked_of b place) → how_many_below (rank_in (ranked_of b place)) (candidates b) ≡ place
  unfolding ranked_of
  ranked_before place clock =
      sym (ranking_below (rank_in (ranked_at ranking place)) (candidates b))
      ∙ ordered_below ranking fresh_ordered (ranking_keeps b lawful).clocks place (clock_within ranking place clock)

  pub ranked_behind : (place : ℕ) → ranked_of b place ≡ None → length (clocks_in (candidates b)) ≤ place
  unfolding ranked_of
  ranked_behind place e = by (ltb place (length ranking)) refl where
    by : (t : Bool) → ltb place (length ranking) ≡ t → length (clocks_in (candidates b)) ≤ place
    by true q = absurd (subst IsClock e ((ranking_keeps b lawful).clocks _ (place_member ranking place (ltb-true _ _ q))))
    by false q = omega (arith, ltb-false place (length ranking) q, ranking_count (candidates b))

-- ---- after any calls

pub run_ranking : (s : Setup) (cs : List Call) → TypedSetup s → let b = run (setup_of s).next cs in b.ranking ≡ kept_ranking b.setup b.ports
run_ranking s cs typed = (run_lawful (setup_of s).next cs (setup_lawful s typed)).ranking_kept

-- ---- a port that announces nothing

-- what stands under its number is none
silent_none : (b : Bridge) (i : ℕ) → (port_at b.ports i).announcement ≡ None → ranked_at (candidates b) (i + 1) ≡ None
unfolding candidate_of
silent_none b i e = candidate_there b i ∙ ap (candidate_of (i + 1)) e

-- so no place shows it
silent_not_shown : (b : Bridge) → Lawful b → (i : ℕ) → i < most_ports → (port_at b.ports i).announcement ≡ None → NotShown b i
unfolding ranked_of shown_port
silent_not_shown b lawful i h e place = by (ranked_at (fresh_ranking b.setup b.ports) place) refl
  where
    by : (c : Option Candidate) → ranked_at (fresh_ranking b.setup b.ports) place ≡ c → shown_port c ≡ i + 1 → ⊥
    by None q shown = omega (arith, shown, h)
    by (Some c) q shown =
        let within = clock_within (fresh_ranking b.setup b.ports) place (subst IsClock (sym q) tt) in
        let there = subst (λ (x : Option Candidate). Memᴰ x (fresh_ranking b.setup b.ports)) q (place_member (fresh_ranking b.setup b.ports) place within) in
        let (j, number, _, at) = numbered_at 0 (candidates b) (numbered b lawful) (ranked_member (candidates b) there).0 in
        let index : j ≡ i + 1 = omega (arith, number, shown) in
        subst IsClock (sym at ∙ ap (ranked_at (candidates b)) index ∙ silent_none b i e) tt

-- the state with other links, and what a port announces there that lost its own
abbrev relinked : Bridge → ℕ → Bridge
relinked b mask = with_links b mask (each (relinked_port b.links mask) 0 b.ports)

lost_silent : (b : Bridge) → Lawful b → (mask i : ℕ) → i < most_ports → loses_link b.links mask i ≡ true → (port_at (relinked b mask).ports i).announcement ≡ None
lost_silent b lawful mask i h lost =
    let turn = relinked_port b.links mask in
    sym (ap (λ (p : Port). p.announcement) (relinked_lost b.links mask i (port_at b.ports i) lost ∙ sym (each_record turn b.ports i (omega (arith, h, lawful.records)))))

-- A LINK THAT GOES DOWN: the port is shown at no place after that call
pub lost_not_shown : (b : Bridge) (mask i : ℕ) → Lawful b → i < most_ports → answer_number (links_of b mask).answer ≡ 0 → bit b.links i ≡ 1 → bit mask i ≡ 0
    → NotShown (links_of b mask).next i
unfolding links_of
lost_not_shown b mask i lawful h =
    if_when (λ (d : Done ℕ). Lawful d.next → answer_number d.answer ≡ 0 → bit b.links i ≡ 1 → bit mask i ≡ 0 → NotShown d.next i) (mask_beyond b.setup.n mask)
    (λ _ _ z _ _. absurd (omega (arith, z)))
    (λ _ left _ was now.
    let lost : loses_link b.links mask i ≡ true = rw (was, now) refl in
    silent_not_shown _ left i h (lost_silent b lawful mask i h lost))
    (links_lawful b mask lawful)

-- A PORT THAT AGED likewise
pub aged_not_shown : (b : Bridge) (at i : ℕ) {held : Announcement} → Lawful b → i < most_ports → (age_of b at).answer ≡ granted
    → (port_at b.ports i).announcement ≡ Some held → b.setup.timeout ≤ since_of (record { 0 = at }) held.heard_at → NotShown (age_of b at).next i
unfolding age_of
aged_not_shown b at i {held} lawful h z e old =
    if_when (λ (d : Done ⊤). Lawful d.next → d.answer ≡ granted → NotShown d.next i) (leb circle at)
    (λ _ _ z. cc)
    (λ _ left _.
    silent_not_shown _ left i h
    (let timeout = b.setup.timeout in
    let port = port_at b.ports i in
    let found : too_old port.announcement (record { 0 = at }) timeout ≡ true = ap (λ (x : Option Announcement). too_old x (record { 0 = at }) timeout) e ∙ le-leb _ _ old in
    sym (ap (λ (p : Port). p.announcement)
    (aged_old (record { 0 = at }) timeout port found ∙ sym (each_record (λ _. aged_port (record { 0 = at }) timeout) b.ports i (omega (arith, h, lawful.records)))))))
    (age_lawful b at lawful)
    z

-- ---- the runner-up, over a call

module _ (b : Bridge) (mask i : ℕ) (alone : (j : ℕ) → loses_link b.links mask j ≡ eqb j i) where
  -- every record but this one is as it was
  other_port : (j : ℕ) → (j ≡ i → ⊥) → port_at (relinked b mask).ports j ≡ port_at b.ports j
  other_port j other = by (ltb j (length b.ports)) refl where
    by : (t : Bool) → ltb j (length b.ports) ≡ t → port_at (relinked b mask).ports j ≡ port_at b.ports j
    by true e =
        each_record (relinked_port b.links mask) b.ports j (ltb-true _ _ e)
        ∙ sym (relinked_kept b.links mask j (port_at b.ports j) (alone j ∙ ne_eqb j i other))
    by false e =
        let beyond = ltb-false j (length b.ports) e in
        get_or-eq_default (relinked b mask).ports empty_port {n = j} (omega (arith, beyond, each_length (relinked_port b.links mask) 0 b.ports))
        ∙ sym (get_or-eq_default b.ports empty_port {n = j} beyond)

  other_candidate : (n : ℕ) → (n ≡ i + 1 → ⊥) → ranked_at (candidates (relinked b mask)) n ≡ ranked_at (candidates b) n
  other_candidate zero other = refl
  other_candidate (suc j) other =
      ap (ranked_at (candidates (relinked b mask))) (sym (add-one j))
      ∙ candidate_there (relinked b mask) j
      ∙ ap (λ (p : Port). candidate_of (j + 1) p.announcement) (other_port j (λ e. other (omega (arith, e))))
      ∙ sym (candidate_there b j)
      ∙ ap (ranked_at (candidates b)) (add-one j)

-- WHERE THE CHOSEN PORT ALONE LOSES ITS LINK, the runner-up is chosen
pub runner_up_next : (b : Bridge) (mask i : ℕ) {c : Candidate} → Lawful b → i < most_ports → chosen_of b ≡ Some c → c.number ≡ i + 1 → answer_number (links_of b mask).answer ≡ 0
    → ((j : ℕ) → loses_link b.links mask j ≡ eqb j i) → chosen_of (links_of b mask).next ≡ ranked_of b 1
unfolding links_of ranked_of
runner_up_next b mask i {c} lawful h chosen number z alone =
    if_when (λ (d : Done ℕ). Lawful d.next → answer_number d.answer ≡ 0 → chosen_of d.next ≡ ranked_of b 1) (mask_beyond b.setup.n mask)
    (λ _ _ z. absurd (omega (arith, z)))
    (λ _ left _.
    let next = relinked b mask in
    let head = chosen_head b lawful ∙ chosen in
    sym (chosen_head next left)
    ∙ second_next (candidates b) (candidates next) (numbered b lawful) (numbered next left) (omega (arith, nine b lawful)) (omega (arith, nine next left)) (i + 1) (omega (arith, h))
    (other_candidate b mask i alone) (silent_none next i (lost_silent b lawful mask i h (alone i ∙ eq-eqb i i refl))) (subst IsClock (sym head) tt) (ap number_of head ∙ number))
    (links_lawful b mask lawful)
    z
