-- What the call promises.
use Rattle.std.specs.Prelude.{◌≡◌, ℕ, Result}
use Rattle.refusals.specs.Chain.{carried}
use Rattle.refusals.specs.Answer.{answer_number, answer_value}
use Rattle.refusals.specs.declared.Refusal.{Refusal}
use Rattle.times.specs.declared.GrandTime.{GrandTime}
use Rattle.bridge.specs.declared.Bridge.{Bridge}
use Rattle.recorder.specs.Stamp.{stamp_of, stamp_refusal, stamp_given_of}

-- stamp: the number by the state and the latch, and the grand time exactly where that is 0; the state is not handed back
pub record StampPromise (b : Bridge) (latch : ℕ) (s : Result GrandTime Refusal) : Type 0 where
  pub answer : s ≡ stamp_of b latch
  pub number : answer_number s ≡ stamp_refusal b latch
  pub time : answer_value s ≡ carried (stamp_refusal b latch) (stamp_given_of b latch)
