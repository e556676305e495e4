-- One shifted by n is 2^n.
use mathlib.Core.Path.{ap, ◌∙◌}
use Prim.Native.Nat.{ℕ, ◌^◌}
use lib.Dec.{leb}
use Rattle.bridge.specs.Arguments.{mask_beyond}
use Rattle.bridge.proofs.CheckLaws.{shift_one}
use Rattle.bridge_arguments.proofs.beyond.Goals as goal

pub returns : goal.returns
unfolding mask_beyond
returns c = ap (λ (n : ℕ). leb n c.from.result) (shift_one c.args.n c.requires) ∙ ap (leb (2 ^ c.args.n)) c.from.ensures
