-- Laws of the lines of a capture: what a text is answered with by whether it is one. The listing's backTime is 10 ms.
use mathlib.Core.Path.{◌≡◌, refl, ap, ◌∙◌}
use mathlib.Core.Bool.{true, false}
use mathlib.Core.List.{List}
use Prim.Native.Nat.{ℕ, ◌<◌}
use lib.IntN.{pos}
use lib.ListN.{length}
use Rattle.std.specs.Prelude.{⊤}
use Rattle.refusals.specs.Refusals.{bad_line}
use Rattle.bridge.specs.declared.Bridge.{Bridge}
use Rattle.bridge.specs.declared.Done.{Done}
use Rattle.capture.specs.Capture.{listing_back, line_digits, is_line, listed_as, captured_of, done_of, listed_of}
use Rattle.numbers.proofs.Branches.{if_true, if_false}
use Rattle.bridge.proofs.Defaults.{milliseconds}
use Rattle.hexadecimal.proofs.DigitLaws.{exactly_long}

pub listing_back_is : pos listing_back ≡ milliseconds 10
listing_back_is = refl

module _ (b : Bridge) (s : List ℕ) where
  pub listed_bad : is_line s ≡ false → listed_as b bad_line ≡ listed_of b s
  unfolding listed_of
  listed_bad e = if_false _ _ _ e

  pub listed_done : (done : Done ⊤) → is_line s ≡ true → done ≡ captured_of b s → done_of done ≡ listed_of b s
  unfolding listed_of
  listed_done done e d = ap done_of d ∙ if_true _ _ _ e

  -- a text that is longer than a line is none
  pub listed_long : line_digits < length s → listed_as b bad_line ≡ listed_of b s
  listed_long h = listed_bad (exactly_long line_digits s h)
