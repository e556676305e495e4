-- What the theorems on stamps say: which answers there are, the line that a stamp lies near, and when one latch is no earlier than another.
use Rattle.std.specs.Prelude.{◌≡◌, ◌⊎◌, ℕ, ◌*◌, ◌<◌, ◌≤◌, ℤ, pos, nat_abs, Some, None, Result}
use Rattle.std.proofs.Math.Option.{some}
use Rattle.refusals.specs.Answer.{answer_number, answer_value}
use Rattle.refusals.specs.declared.Refusal.{Refusal}
use Rattle.times.specs.Times.{circle, grand_end, since_of, units}
use Rattle.times.specs.declared.GrandTime.{GrandTime}
use Rattle.samples.specs.Keep.{ends_of}
use Rattle.samples.specs.declared.Samples.{Samples}
use Rattle.samples.specs.declared.Ends.{Ends}
use Rattle.timeline.specs.Line.{longest_reach, reading_at, bound, NearLine}
use Rattle.bridge.specs.Chosen.{chosen_of}
use Rattle.bridge.specs.Send.{chosen_samples}
use Rattle.bridge.specs.declared.Bridge.{Bridge}
use Rattle.recorder.specs.Stamp.{latched, distance_of}

-- ---- the answers, each with what holds where it is given

-- at a distance x from the newer of two ends, within reach: 13 where the reading is no grand time, or 0 and the reading
abbrev pub InReachAnswers : Ends → ℤ → Result GrandTime Refusal → Type 0
InReachAnswers e x s =
    ((answer_number s ≡ 13) × ((n : ℕ) → reading_at e.oldest e.newest x ≡ pos n → grand_end ≤ n))
    ⊎ ((answer_number s ≡ 0) × ((g : GrandTime) × (answer_value s ≡ some g) × (pos (units g) ≡ reading_at e.oldest e.newest x)))

-- 12 beyond it
abbrev pub ReachAnswers : Ends → ℤ → Result GrandTime Refusal → Type 0
ReachAnswers e x s = ((answer_number s ≡ 12) × (longest_reach < nat_abs x)) ⊎ ((nat_abs x ≤ longest_reach) × InReachAnswers e x s)

-- of a chosen clock with these samples: 11, or by its two ends
abbrev pub ClockAnswers : Samples → ℕ → Result GrandTime Refusal → Type 0
ClockAnswers samples latch s =
    ((answer_number s ≡ 11) × (ends_of samples ≡ None))
    ⊎ ((e : Ends) × (ends_of samples ≡ Some e) × ReachAnswers e (distance_of (latched latch) e.newest.local) s)

-- 2 for a latch that is no local time; 10 where no clock is chosen; else by the chosen clock
abbrev pub StampAnswers : Bridge → ℕ → Result GrandTime Refusal → Type 0
StampAnswers b latch s =
    ((answer_number s ≡ 2) × (circle ≤ latch))
    ⊎ ((latch < circle) × (((answer_number s ≡ 10) × (chosen_of b ≡ None)) ⊎ ((chosen_of b ≡ None → ⊥) × ClockAnswers (chosen_samples b) latch s)))

-- ---- the line

-- the oldest and the newest kept sample of the chosen clock, and that the grand time lies near the line through them, read at the latch
pub record StampOnLine (b : Bridge) (latch : ℕ) (g : GrandTime) : Type 0 where
  pub ends : Ends
  pub kept : ends_of (chosen_samples b) ≡ Some ends
  pub near : NearLine bound ends.oldest ends.newest (pos (units g)) (distance_of (latched latch) ends.newest.local) 0

-- ---- the order of latches

-- a latch is no earlier than another: the way on to it is no longer than two stamped latches can lie apart
abbrev pub NoEarlier : ℕ → ℕ → Type 0
NoEarlier latch other = since_of (latched latch) (latched other) ≤ 2 * longest_reach
