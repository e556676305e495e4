-- The lines of the stamps program: a latch among the lines of a capture, and the stamp that is printed for it.
use Rattle.std.specs.Prelude.{Bool, cond, List, [], ◌∷◌, ℕ, Result, Ok, Err}
use Rattle.refusals.specs.Refusals.{number_of}
use Rattle.refusals.specs.declared.Refusal.{Refusal}
use Rattle.times.specs.declared.GrandTime.{GrandTime}
use Rattle.bridge.specs.declared.Bridge.{Bridge}
use Rattle.recorder.specs.Stamp.{stamp_of}
use Rattle.hexadecimal.specs.Character.{newline}
use Rattle.hexadecimal.specs.Digit.{exactly, worth}
use Rattle.columns.specs.Columns.{columns_text, line1}
use Rattle.answer.specs.Answer.{Answer, says}
use Rattle.capture.specs.Capture.{listed_of}

-- the digits of a latch
abbrev pub latch_digits : ℕ
latch_digits = 12

-- s is 12 digits
abbrev pub is_latch : List ℕ → Bool
is_latch s = exactly latch_digits s

-- the bytes of a grand time's seconds, and of its fraction
abbrev pub seconds_bytes : ℕ
seconds_bytes = 5

abbrev pub fraction_bytes : ℕ
fraction_bytes = 5

-- a stamp, 20 digits, or the refusal
abbrev pub latch_text : Result GrandTime Refusal → List ℕ
latch_text (Ok g) = columns_text (seconds_bytes ∷ fraction_bytes ∷ 0 ∷ []) (g.0 ∷ g.1 ∷ newline ∷ [])
latch_text (Err refusal) = line1 (number_of refusal)

-- a latch leaves the state as it is
abbrev pub latch_says : Bridge → ℕ → Answer
latch_says b latch = says b (latch_text (stamp_of b latch))

-- a latch is stamped, and every other text is answered as the listing answers it
unfoldable pub latched_of : Bridge → List ℕ → Answer
latched_of b s = cond (is_latch s) (latch_says b (worth 0 s)) (listed_of b s)
