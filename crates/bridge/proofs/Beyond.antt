-- A port beyond the station's last takes no frame, so that after any calls it announces nothing.
use mathlib.Core.Path.{◌≡◌, refl, sym, ap, ◌∙◌, subst}
use mathlib.Core.List.{List, [], ◌∷◌}
use mathlib.Core.Logic.{⊎_elim}
use Prim.Native.Nat.{ℕ, ◌-◌, ◌<◌, ◌≤◌}
use native.Mathlib.Omega.{arith}
use borrow.Author.Tests.{eqb-true}
use Rattle.std.proofs.Common.{None}
use Rattle.frame.specs.Read.{read_refusal, read_of}
use Rattle.bridge.specs.Table.{port_at, most_ports, loses_link}
use Rattle.bridge.specs.Arguments.{mask_beyond}
use Rattle.bridge.specs.Setup.{setup_of}
use Rattle.bridge.specs.Demands.{Call, links, own_clock, receive, age, send, after, run, along, taken_by, last_of}
use Rattle.bridge.specs.declared.Setup.{Setup}
use Rattle.bridge.specs.declared.Bridge.{Bridge}
use Rattle.numbers.proofs.Branches.{if_when}
use Rattle.bridge.proofs.Records.{after_alike}
use Rattle.bridge.proofs.CheckLaws.{number_granted}
use Rattle.bridge.proofs.Heard.{took}
use Rattle.bridge.proofs.Hops.{Announces, run_announces}

module _ (i : ℕ) where
  -- no call takes a frame there
  taken_not : (b : Bridge) (c : Call) → b.setup.n ≤ i → taken_by i b c [] ≡ []
  taken_not b (links mask) l =
      if_when (λ (x : List (List ℕ)). x ≡ []) (mask_beyond b.setup.n mask) (λ _. refl)
      (λ _. if_when (λ (x : List (List ℕ)). x ≡ []) (loses_link b.links mask i) (λ _. refl) (λ _. refl))
  taken_not b (own_clock count byte seconds fraction at) l = refl
  taken_not b (receive port frame bytes arrival) l =
      if_when (λ (x : List (List ℕ)). x ≡ []) _
      (λ q. if_when (λ (x : List (List ℕ)). x ≡ []) _
      (λ s. let ready = (took b port frame arrival (number_granted (eqb-true _ _ q))).ready in absurd (omega (arith, ready.low, ready.high, eqb-true (port - 1) i s)))
      (λ _. refl))
      (λ _. refl)
  taken_not b (age at) l = refl
  taken_not b (send port t room) l = refl

  -- nor do any calls in a row
  taken_never : (b : Bridge) (cs : List Call) → b.setup.n ≤ i → along (taken_by i) b cs [] ≡ []
  unfolding along
  taken_never b [] l = refl
  taken_never b (c ∷ cs) l =
      ap (along (taken_by i) (after b c) cs) (taken_not b c l)
      ∙ taken_never (after b c) cs (subst (λ (s : Setup). s.n ≤ i) (sym (after_alike b c).0) l)

  -- so it never announces one
  pub beyond_silent : (s : Setup) (cs : List Call) → (setup_of s).next.setup.n ≤ i → i < most_ports → (port_at (run (setup_of s).next cs).ports i).announcement ≡ None
  unfolding read_of read_refusal
  beyond_silent s cs l h =
      ⊎_elim (λ silent. silent)
      (λ above. let unread = above.read in cc)
      (subst (λ (x : List (List ℕ)). Announces (last_of x) (port_at (run (setup_of s).next cs).ports i).announcement) (taken_never (setup_of s).next cs l) (run_announces s cs i h))
