-- What a field says, as an argument of a call. Field i is counted from 0.
use Rattle.std.specs.Prelude.{ℕ, ◌%◌, min, Bool, false, cond, get_or, eqb}
use Rattle.forms.specs.Field.{most_flag, most_length}
use Rattle.forms.specs.Form.{number_in}
use Rattle.forms.specs.declared.Form.{Form}

abbrev pub byte_values : ℕ
byte_values = 256

abbrev pub marked_in : Form → ℕ → Bool
marked_in f i = get_or f.marked i false

-- a byte, and a length or a count of bytes: by its kind the number is below 256, or at most 128, and so is what is said here of it
abbrev pub byte_in : Form → ℕ → ℕ
byte_in f i = number_in f i % byte_values

abbrev pub size_in : Form → ℕ → ℕ
size_in f i = min (number_in f i) most_length

abbrev pub flag_in : Form → ℕ → Bool
flag_in f i = eqb (number_in f i) most_flag

abbrev pub number_or : ℕ → Form → ℕ → ℕ
number_or default f i = cond (marked_in f i) default (number_in f i)
