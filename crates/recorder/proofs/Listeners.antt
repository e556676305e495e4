-- A latch is not stamped by a listener: where the chosen clock's port took nothing but listeners' frames since its link came up, 11.
use mathlib.Core.Path.{◌≡◌, sym, ap, ◌∙◌}
use Rattle.std.proofs.Common.{Option, Some, Err}
use Rattle.refusals.specs.declared.Refusal.TheVariants.{FewSamples}
use mathlib.Core.List.{List}
use Prim.Native.Nat.{ℕ, suc, ◌<◌}
use Rattle.times.specs.Times.{circle}
use Rattle.samples.specs.declared.Ends.{Ends}
use Rattle.choice.specs.declared.Candidate.{Candidate}
use Rattle.bridge.specs.Table.{most_ports}
use Rattle.bridge.specs.Setup.{setup_of}
use Rattle.bridge.specs.Chosen.{chosen_of}
use Rattle.bridge.specs.Demands.{Call, run, HeardListeners}
use Rattle.bridge.specs.declared.Setup.{Setup}
use Rattle.bridge.proofs.Listeners.{listeners_no_line}
use Rattle.recorder.specs.Stamp.{latched, stamp_through, stamp_of}
use Rattle.recorder.proofs.StampLaws.{stamp-by}

pub listeners_unstamped : (s : Setup) (cs : List Call) (i latch : ℕ) {c : Candidate}
    → let b = run (setup_of s).next cs in
    i < most_ports → HeardListeners i (setup_of s).next cs → chosen_of b ≡ Some c → c.number ≡ suc i → latch < circle → stamp_of b latch ≡ Err FewSamples
listeners_unstamped s cs i latch below heard chosen number l =
    sym (stamp-by (run (setup_of s).next cs) latch l (sym chosen)) ∙ ap (λ (e : Option Ends). stamp_through e (latched latch)) (listeners_no_line s cs i below heard chosen number)
