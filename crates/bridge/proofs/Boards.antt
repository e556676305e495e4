-- A call goes by the choice that it is given. On every board that is the same, in whatever order and grouping it compares; and so are the answers, the next states and the bytes of its calls, and the state after any calls.
use mathlib.Core.Path.{◌≡◌, refl, sym, ap, ◌∙◌, subst}
use mathlib.Core.List.{List, [], ◌∷◌, ◌++◌, Memᴰ}
use Prim.Native.Nat.{ℕ, zero, suc, ◌+◌, ◌-◌, ◌<◌, ◌≤◌}
use native.Mathlib.Omega.{arith}
use lib.ListN.{length}
use Rattle.std.specs.Prelude.{⊤}
use Rattle.std.proofs.Common.{Option, None, Result, Ok}
use Rattle.refusals.specs.Answer.{granted}
use Rattle.refusals.specs.declared.Refusal.{Refusal}
use Rattle.choice.specs.Choose.{candidate_of, better_of, best_of, chosen_hop}
use Rattle.choice.specs.Permutation.{Permutation}
use Rattle.choice.specs.Compare.{Comparison, compared_in}
use Rattle.choice.specs.declared.Candidate.{Candidate}
use Rattle.frame.specs.Read.{read_of}
use Rattle.frame.specs.declared.Fields.{Fields}
use Rattle.port.specs.Receive.{received_of}
use Rattle.port.specs.Send.{sending_of, sending_done, sending_bytes}
use Rattle.bridge.specs.Table.{port_at, most_ports, samples_of_choice}
use Rattle.bridge.specs.Arguments.{port_refusal, send_refusal}
use Rattle.bridge.specs.State.{version_at, TypedSetup, Lawful, stores_port}
use Rattle.bridge.specs.Setup.{setup_of}
use Rattle.bridge.specs.Receive.{setting_at, receive_fields_of, receive_by, receive_of}
use Rattle.bridge.specs.Chosen.{chosen_of}
use Rattle.bridge.specs.Send.{sending_at, send_by_of, send_bytes_by, send_of, send_bytes}
use Rattle.bridge.specs.Demands.{candidates, Call, links, own_clock, receive, age, send, after, run}
use Rattle.bridge.specs.Board.{candidate_under_of, numbers_from_of, numbers_to, GoesThrough, chosen_on, after_on, run_on}
use Rattle.bridge.specs.declared.Setup.{Setup}
use Rattle.bridge.specs.declared.Bridge.{Bridge}
use Rattle.bridge.specs.declared.Done.{Done}
use Rattle.choice.proofs.PermutationLaws.{permutation_append, members_back}
use Rattle.choice.proofs.CompareLaws.{best_permuted, best_parts, any_way}
use Rattle.bridge.proofs.Keeps.{setup_lawful, run_lawful}
use Rattle.bridge.proofs.Least.{chosen_best}
use Rattle.bridge.proofs.Records.{setup_ports}
use Rattle.bridge.proofs.Numbered.{numbers_parts, numbers-from, numbers_below, candidates_numbered, numbered_fits, candidates_fit}
use Rattle.bridge.proofs.Beyond.{beyond_silent}

-- ---- what a call makes of the choice that it is given

module _ (choice : Option Candidate) (b : Bridge) where
  -- Receive: a frame that is read is held by this choice's H
  pub received_by : (port : ℕ) (frame : List ℕ) (arrival : ℕ) (f : Fields) → port_refusal b.setup.n b.links port arrival ≡ granted → read_of frame ≡ Ok f
      → receive_by choice b port frame arrival
      ≡ stores_port b (port - 1) (received_of (setting_at b (port - 1)) (chosen_hop choice) f (record { 0 = arrival }) (port_at b.ports (port - 1)))
  unfolding receive_fields_of
  received_by port frame arrival f clear read = rw (clear, read) refl

  -- Send: what is sent is for this choice, by its samples
  abbrev sent : ℕ → ℕ → Result Fields Refusal
  sent i t = sending_of choice (samples_of_choice choice b.clock b.ports) b.setup.sender (version_at b i) (record { 0 = t }) (port_at b.ports i)

  pub sent_by : (port t room : ℕ) → send_refusal b.setup.n b.links port t room ≡ granted
      → send_by_of choice b port t room ≡ stores_port b (port - 1) (sending_done (sent (port - 1) t) (port_at b.ports (port - 1)))
  unfolding sending_at
  sent_by port t room clear = rw clear refl

  pub bytes_by : (port t : ℕ) (out : List ℕ) → send_refusal b.setup.n b.links port t (length out) ≡ granted
      → send_bytes_by choice b port t out ≡ sending_bytes (sent (port - 1) t) out
  unfolding sending_at
  bytes_by port t out clear = rw clear refl

-- ---- in a lawful state

module _ (b : Bridge) (lawful : Lawful b) where
  -- for every order of the candidates
  pub chosen_permuted : (l : List (Option Candidate)) → Permutation (candidates b) l → best_of None l ≡ chosen_of b
  chosen_permuted l p = sym (best_permuted (candidates b) l (candidates_fit b lawful) p) ∙ chosen_best b

  -- for two parts of them by themselves, and then the better of the two bests
  pub chosen_parts : (l k : List (Option Candidate)) → Permutation (candidates b) (l ++ k) → better_of (best_of None l) (best_of None k) ≡ chosen_of b
  chosen_parts l k p = best_parts l k (λ x m. candidates_fit b lawful x (members_back p m)) ∙ chosen_permuted (l ++ k) p

  module _ (board : Comparison ℕ) (goes : GoesThrough board b) where
    -- Chosen
    pub chosen_same : chosen_on board b ≡ chosen_of b
    chosen_same =
        any_way (candidate_under_of b) (numbers_to most_ports) board (numbered_fits b lawful) goes
        ∙ ap (best_of None) (sym (candidates_numbered b lawful.records))
        ∙ chosen_best b

    -- Receive, whose H it is
    pub receive_same : (port : ℕ) (frame : List ℕ) (arrival : ℕ) → receive_by (chosen_on board b) b port frame arrival ≡ receive_of b port frame arrival
    unfolding receive_of
    receive_same port frame arrival = ap (λ (c : Option Candidate). receive_by c b port frame arrival) chosen_same

    -- Send, with every byte of the output
    pub send_same : (port t room : ℕ) → send_by_of (chosen_on board b) b port t room ≡ send_of b port t room
    unfolding send_of
    send_same port t room = ap (λ (c : Option Candidate). send_by_of c b port t room) chosen_same

    pub bytes_same : (port t : ℕ) (out : List ℕ) → send_bytes_by (chosen_on board b) b port t out ≡ send_bytes b port t out
    unfolding send_bytes
    bytes_same port t out = ap (λ (c : Option Candidate). send_bytes_by c b port t out) chosen_same

    -- and the state after any call
    after_same : (c : Call) → after_on board b c ≡ after b c
    after_same (links mask) = refl
    after_same (own_clock count byte seconds fraction at) = refl
    after_same (receive port frame bytes arrival) = ap (λ (d : Done ⊤). d.next) (receive_same port frame arrival)
    after_same (age at) = refl
    after_same (send port t room) = ap (λ (d : Done ⊤). d.next) (send_same port t room)

-- ---- from Setup on, on a board that compares the own clock and the station's ports, each once

-- one call more
run_more : (b : Bridge) (cs : List Call) (c : Call) → run b (cs ++ (c ∷ [])) ≡ after (run b cs) c
unfolding run
run_more b [] c = refl
run_more b (x ∷ cs) c = run_more (after b x) cs c

module _ (s : Setup) (board : Comparison ℕ) (each : Permutation (numbers_to (setup_of s).next.setup.n) (compared_in board)) where
  abbrev fresh : Bridge
  fresh = (setup_of s).next

  -- the numbers beyond its ports
  abbrev beyond : List ℕ
  beyond = numbers_from_of (1 + fresh.setup.n) (most_ports - fresh.setup.n)

  -- with these, all eight
  to_eight : numbers_to fresh.setup.n ++ beyond ≡ numbers_to most_ports
  to_eight =
      let n = fresh.setup.n in
      let all : n + (most_ports - n) ≡ most_ports = omega (arith, setup_ports s) in
      λ i. 0 ∷ (sym (numbers_parts n 1 (most_ports - n)) ∙ ap (numbers_from_of 1) all) i

  -- none of them has a candidate
  none_beyond : (cs : List Call) (number : ℕ) → Memᴰ number beyond → candidate_under_of (run fresh cs) number ≡ None
  unfolding candidate_under_of candidate_of
  none_beyond cs zero m = absurd (omega (arith, numbers-from _ _ m))
  none_beyond cs (suc i) m =
      let n = fresh.setup.n in
      let above : n ≤ i = omega (arith, numbers-from (1 + n) (most_ports - n) m) in
      let below : i < most_ports = omega (arith, numbers_below (1 + n) (most_ports - n) m, setup_ports s) in
      ap (candidate_of (suc i)) (beyond_silent i s cs above below)

  -- so after any calls the board goes through all candidates
  pub goes_through : (cs : List Call) → GoesThrough board (run fresh cs)
  goes_through cs = record {
    left_out = beyond;
    once = subst (λ (l : List ℕ). Permutation l (compared_in board ++ beyond)) to_eight (permutation_append beyond each);
    none = none_beyond cs;
  }

  -- and the state is the same
  module _ (typed : TypedSetup s) where
    further : (cs more : List Call) → run_on board (run fresh cs) more ≡ run (run fresh cs) more
    unfolding run run_on
    further cs [] = refl
    further cs (c ∷ more) =
        let b = run fresh cs in
        let lawful = run_lawful fresh cs (setup_lawful s typed) in
        ap (λ (x : Bridge). run_on board x more) (after_same b lawful board (goes_through cs) c ∙ sym (run_more fresh cs c))
        ∙ further (cs ++ (c ∷ [])) more
        ∙ ap (λ (x : Bridge). run x more) (run_more fresh cs c)

    pub run_same : (cs : List Call) → run_on board fresh cs ≡ run fresh cs
    unfolding run
    run_same cs = further [] cs
