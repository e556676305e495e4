-- When Stamp refuses: each condition by itself, with its number.
use Rattle.std.specs.Prelude.{◌≡◌, List, [], ◌∷◌, ℕ, ◌^◌, ◌<◌, ◌≤◌, pos, nat_abs, Option, Some, None}
use Rattle.refusals.specs.Order.{Condition, given}
use Rattle.times.specs.declared.LocalTime.{LocalTime}
use Rattle.samples.specs.Keep.{how_many, ends_of}
use Rattle.samples.specs.declared.Samples.{Samples}
use Rattle.samples.specs.declared.Ends.{Ends}
use Rattle.timeline.specs.Line.{reading_at}
use Rattle.bridge.specs.Chosen.{chosen_of}
use Rattle.bridge.specs.Send.{chosen_samples}
use Rattle.bridge.specs.declared.Bridge.{Bridge}
use Rattle.recorder.specs.Stamp.{latched, distance_of}

-- the latch lies more than 2^39 from the newer sample, before or after it
abbrev pub TooFar : Option Ends → LocalTime → Type 0
TooFar None latch = ⊥
TooFar (Some e) latch = 2 ^ 39 < nat_abs (distance_of latch e.newest.local)

-- the line at the latch is below zero, or reaches 2^80
abbrev pub NoGrandTime : Option Ends → LocalTime → Type 0
NoGrandTime None latch = ⊥
NoGrandTime (Some e) latch = (n : ℕ) → reading_at e.oldest e.newest (distance_of latch e.newest.local) ≡ pos n → 2 ^ 80 ≤ n

-- by the samples of the chosen clock: fewer than two, too far, no grand time
abbrev pub latch_conditions : Samples → LocalTime → List Condition
latch_conditions samples latch =
    given 11 (how_many samples < 2)
    ∷ given 12 (TooFar (ends_of samples) latch)
    ∷ given 13 (NoGrandTime (ends_of samples) latch)
    ∷ []

-- a latch that is no local time, no clock chosen, and then these
abbrev pub stamp_conditions : Bridge → ℕ → List Condition
stamp_conditions b latch =
    given 2 (2 ^ 48 ≤ latch)
    ∷ given 10 (chosen_of b ≡ None)
    ∷ latch_conditions (chosen_samples b) (latched latch)
