-- One field of a line: what its kind wants, and what the field says.
use Rattle.std.specs.Prelude.{ℕ, ◌*◌, ◌/◌, ◌%◌, Option, Some, None, Bool, true, false, cond, List, [], ◌∷◌, length, get_or, leb, ltb, eqb}
use Rattle.hexadecimal.specs.Character.{space, no_bytes_mark}
use Rattle.hexadecimal.specs.Digit.{all_digits, worth}
use Rattle.hexadecimal.specs.Search.{up_to}
use Rattle.forms.specs.declared.kind.Kind.{Kind}
use Rattle.forms.specs.declared.kind.Kind.TheVariants.{Byte, Number, NumberOrDefault, DelayOrMeasured, Flag, Length, Bytes, Exactly}
use Rattle.forms.specs.declared.field.Content.{Content}
use Rattle.forms.specs.declared.field.Content.TheVariants.{UpTo, WholeBytes}
use Rattle.forms.specs.declared.field.Rule.{Rule}
use Rattle.forms.specs.declared.field.Field.{Field}

-- ---- what a kind wants

-- the marks: D, M and - (which is `no_bytes_mark`)
abbrev pub default_mark : ℕ
default_mark = 68

abbrev pub measured_mark : ℕ
measured_mark = 77

-- the most digits of a number, of a flag, and of up to 128 bytes
abbrev pub most_digits : ℕ
most_digits = 16

abbrev pub flag_digits : ℕ
flag_digits = 1

abbrev pub most_byte_digits : ℕ
most_byte_digits = 256

-- the greatest byte, flag, length of an output and number
abbrev pub most_byte : ℕ
most_byte = 255

abbrev pub most_flag : ℕ
most_flag = 1

abbrev pub most_length : ℕ
most_length = 128

abbrev pub most_number : ℕ
most_number = 18446744073709551615

-- a number: the mark, or 1 to `most` digits that make no more than the greatest
abbrev pub number_rule : Option ℕ → ℕ → ℕ → Rule
number_rule mark most greatest = record { mark = mark; fewest = 1; most = most; content = UpTo greatest }

-- bytes: the mark, or two digits for each byte, from the fewest digits to the most
abbrev pub bytes_rule : Option ℕ → ℕ → ℕ → Rule
bytes_rule mark fewest most = record { mark = mark; fewest = fewest; most = most; content = WholeBytes }

-- each kind's rule
unfoldable pub rule_of : Kind → Rule
rule_of Byte = number_rule None most_digits most_byte
rule_of Number = number_rule None most_digits most_number
rule_of NumberOrDefault = number_rule (Some default_mark) most_digits most_number
rule_of DelayOrMeasured = number_rule (Some measured_mark) most_digits most_number
rule_of Flag = number_rule None flag_digits most_flag
rule_of Length = number_rule None most_digits most_length
rule_of Bytes = bytes_rule (Some no_bytes_mark) 2 most_byte_digits
rule_of (Exactly n) = bytes_rule None (n * 2) (n * 2)

-- ---- what a field says

-- the field is the one character that is the mark
unfoldable pub is_mark : List ℕ → Option ℕ → Bool
is_mark f None = false
is_mark f (Some m) = cond (eqb (length f) 1) (eqb (get_or f 0 0) m) false

-- the field is digits, from the fewest to the most
unfoldable pub are_digits : List ℕ → ℕ → ℕ → Bool
are_digits f fewest most = cond (ltb (length f) fewest) false (cond (ltb most (length f)) false (all_digits f))

-- the mark
abbrev pub mark_field : ℕ → Field
mark_field width = record { marked = true; number = 0; size = 0; width = width }

-- so many digits as bytes, for which there is so much room
unfoldable pub bytes_field : ℕ → ℕ → Option Field
bytes_field width room =
    cond (eqb (width % 2) 0) (cond (leb (width / 2) room) (Some (record { marked = false; number = width / 2; size = width / 2; width = width })) None) None

-- digits as a number
unfoldable pub number_field : ℕ → List ℕ → Option Field
number_field greatest f = cond (leb (worth 0 f) greatest) (Some (record { marked = false; number = worth 0 f; size = 0; width = length f })) None

-- digits as what they are to make
abbrev pub content_field : Content → ℕ → List ℕ → Option Field
content_field (UpTo greatest) room f = number_field greatest f
content_field WholeBytes room f = bytes_field (length f) room

-- the field f by a rule, with so much room for its bytes; nothing where it is none
abbrev pub ruled_field : Rule → ℕ → List ℕ → Option Field
ruled_field rule room f =
    cond (is_mark f rule.mark) (Some (mark_field (length f))) (cond (are_digits f rule.fewest rule.most) (content_field rule.content room f) None)

-- by its kind
unfoldable pub field_of : Kind → ℕ → List ℕ → Option Field
field_of kind room f = ruled_field (rule_of kind) room f

-- the field that follows a space at the start of the text
unfoldable pub field_at : Kind → ℕ → List ℕ → Option Field
field_at kind room [] = None
field_at kind room (c ∷ s) = cond (eqb c space) (field_of kind room (up_to space s)) None
