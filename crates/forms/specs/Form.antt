-- What the fields of a line say, by the row of their kinds.
use Rattle.std.specs.Prelude.{ℕ, suc, ◌+◌, ◌*◌, ◌-◌, Option, Some, None, Bool, false, cond, List, [], ◌∷◌, ◌++◌, length, set, get_or, take, drop, replicate, eqb}
use Rattle.hexadecimal.specs.Digit.{pairs}
use Rattle.forms.specs.declared.kind.Kind.{Kind}
use Rattle.forms.specs.Field.{field_at}
use Rattle.forms.specs.declared.field.Field.{Field}
use Rattle.forms.specs.declared.Form.{Form}

-- the most fields of a row, and the bytes of all of them
abbrev pub most_fields : ℕ
most_fields = 16

abbrev pub buffer_bytes : ℕ
buffer_bytes = 256

-- the kinds of a row, which has no more than those
abbrev pub kinds_of : List Kind → List Kind
kinds_of row = take most_fields row

-- what is read so far: the fields' numbers and marks, and the bytes of all of them, of which so many are used
pub record Taken : Type 0 where
  pub numbers : List ℕ
  pub marked : List Bool
  pub bytes : List ℕ
  pub used : ℕ

abbrev pub nothing_taken : Taken
nothing_taken = record { numbers = replicate most_fields 0; marked = replicate most_fields false; bytes = replicate buffer_bytes 0; used = 0 }

-- with field i, whose bytes are `content`, put after those that are used
abbrev pub stored : ℕ → Field → List ℕ → Taken → Taken
stored i field content h = record {
  numbers = set h.numbers i field.number;
  marked = set h.marked i field.marked;
  bytes = take h.used h.bytes ++ (content ++ drop field.size (drop h.used h.bytes));
  used = h.used + field.size;
}

abbrev pub form_with : Taken → Form
form_with h = record { numbers = h.numbers; marked = h.marked; bytes = h.bytes }

-- goes on after a field, where it is one
abbrev pub with_field : Option Field → (Field → Option Form) → Option Form
with_field None rest = None
with_field (Some field) rest = rest field

-- the text from field i on, by the kinds from there on: a space and a field for each kind, and nothing more; nothing where it is not so
unfoldable pub walk : List Kind → List ℕ → ℕ → Taken → Option Form
walk [] text i h = cond (eqb (length text) 0) (Some (form_with h)) None
walk (kind ∷ kinds) text i h =
    with_field (field_at kind (buffer_bytes - h.used) text)
    (λ field. walk kinds (drop (suc field.width) text) (i + 1) (stored i field (pairs (take (field.size * 2) (drop 1 text))) h))

-- field i as a number
abbrev pub number_in : Form → ℕ → ℕ
number_in f i = get_or f.numbers i 0

-- what `read` answers
unfoldable pub form_of : List Kind → List ℕ → Option Form
form_of row text = walk (kinds_of row) text 0 nothing_taken
