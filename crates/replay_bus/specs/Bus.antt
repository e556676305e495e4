-- The lines of replay over the cycle time of a bus, Y and Z: what a line gives, and what is printed.
use Rattle.std.specs.Prelude.{ℕ, ◌/◌, ◌%◌, cond, List, [], ◌∷◌, eqb, Result, Ok, Err}
use Rattle.refusals.specs.Refusals.{done, bad_line, number_of}
use Rattle.refusals.specs.declared.Refusal.{Refusal}
use Rattle.times.specs.declared.GrandTime.{GrandTime}
use Rattle.hexadecimal.specs.Character.{space, newline}
use Rattle.hexadecimal.specs.Print.{capital_of}
use Rattle.columns.specs.Columns.{columns_text, line1, line_time}
use Rattle.forms.specs.Form.{number_in}
use Rattle.forms.specs.declared.Form.{Form}
use Rattle.replay_grammar.specs.Row.{letter_y, letter_z}
use Rattle.bus.specs.Bus.{outward_of, inward_of}
use Rattle.bus.specs.declared.BusTime.{BusTime}

-- ---- arguments

-- the bus time of a line, and the hint after it
abbrev pub bus_time_in : Form → BusTime
bus_time_in f = record { seconds = number_in f 0; cycle = number_in f 1; offset = number_in f 2 }

abbrev pub hint_in : Form → GrandTime
hint_in f = record { 0 = number_in f 3; 1 = number_in f 4 }

-- ---- answers

-- the first of an offset's three digits
abbrev pub first_digit : ℕ → ℕ
first_digit offset = capital_of (offset / 256 % 16)

-- a bus time: seconds in a byte, the cycle in two, the offset in three digits, the first as a character and the others as a byte
abbrev pub bus_widths : List ℕ
bus_widths = 1 ∷ 0 ∷ 1 ∷ 0 ∷ 2 ∷ 0 ∷ 0 ∷ 1 ∷ 0 ∷ []

abbrev pub bus_time_text : BusTime → List ℕ
bus_time_text t = columns_text bus_widths (done ∷ space ∷ t.seconds ∷ space ∷ t.cycle ∷ space ∷ first_digit t.offset ∷ t.offset ∷ newline ∷ [])

abbrev pub outward_text : Result BusTime Refusal → List ℕ
outward_text (Ok t) = bus_time_text t
outward_text (Err refusal) = line1 (number_of refusal)

abbrev pub inward_text : Result GrandTime Refusal → List ℕ
inward_text (Ok g) = line_time done g.0 g.1
inward_text (Err refusal) = line1 (number_of refusal)

-- the letter's call; that the line is bad where no call has the letter
unfoldable pub bus_text : ℕ → Form → List ℕ
bus_text letter f =
    cond (eqb letter letter_y) (outward_text (outward_of (record { 0 = number_in f 0; 1 = number_in f 1 })))
    (cond (eqb letter letter_z) (inward_text (inward_of (bus_time_in f) (hint_in f)))
    (line1 bad_line))
