-- Laws of a choice as it is shown: the port and the held hop of a clock, and what stands for both where there is none.
use mathlib.Core.Path.{◌≡◌, refl}
use Rattle.std.proofs.Common.{Option, Some, None}
use Rattle.choice.specs.Choose.{none_shown_of, shown_port, shown_hop}
use Rattle.choice.specs.declared.Candidate.{Candidate}

module _ (choice : Option Candidate) where
  pub port_shown : {c : Candidate} → choice ≡ Some c → c.number ≡ shown_port choice
  unfolding shown_port
  port_shown e = rw e

  pub hop_shown : {c : Candidate} → choice ≡ Some c → c.hop ≡ shown_hop choice
  unfolding shown_hop
  hop_shown e = rw e

  pub none-shown : choice ≡ None → (none_shown_of ≡ shown_port choice) × (none_shown_of ≡ shown_hop choice)
  unfolding shown_port shown_hop
  none-shown e = rw e (refl, refl)
