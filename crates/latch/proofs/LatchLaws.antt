-- Laws of the lines of the stamps program: what a text is answered with by whether it is a latch.
use mathlib.Core.Path.{◌≡◌, sym, ap}
use mathlib.Core.Bool.{true, false}
use mathlib.Core.List.{List}
use Prim.Native.Nat.{ℕ, ◌<◌}
use lib.ListN.{length}
use Rattle.bridge.specs.declared.Bridge.{Bridge}
use Rattle.hexadecimal.specs.Digit.{worth}
use Rattle.answer.specs.Answer.{Answer}
use Rattle.capture.specs.Capture.{listed_of}
use Rattle.latch.specs.Latch.{latch_digits, is_latch, latch_says, latched_of}
use Rattle.numbers.proofs.Branches.{if_true, if_false}
use Rattle.hexadecimal.proofs.DigitLaws.{exactly_long}

module _ (b : Bridge) (s : List ℕ) where
  pub latch_stamped : is_latch s ≡ true → latch_says b (worth 0 s) ≡ latched_of b s
  unfolding latched_of
  latch_stamped e = if_true _ _ _ e

  pub latch_listed : is_latch s ≡ false → listed_of b s ≡ latched_of b s
  unfolding latched_of
  latch_listed e = if_false _ _ _ e

  -- a latch leaves the state as it is
  pub latch_stays : is_latch s ≡ true → (latched_of b s).next ≡ b
  latch_stays e = ap (λ (x : Answer). x.next) (sym (latch_stamped e))

  -- a text that is longer than a latch is none
  pub latch_long : latch_digits < length s → listed_of b s ≡ latched_of b s
  latch_long h = latch_listed (exactly_long latch_digits s h)
