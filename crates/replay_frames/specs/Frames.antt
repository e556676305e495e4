-- The lines of replay over frames alone, F, W and B, and H over a hop: the fields that a line gives, and what is printed.
use Rattle.std.specs.Prelude.{ℕ, cond, Result, Ok, Err, List, [], ◌∷◌, length, take, drop, get_or, replicate, eqb}
use Rattle.refusals.specs.Refusals.{done, number_of}
use Rattle.refusals.specs.Answer.{answer_number}
use Rattle.refusals.specs.declared.Refusal.{Refusal}
use Rattle.numbers.specs.Bytes.{number_at}
use Rattle.times.specs.declared.ErrorTime.{ErrorTime}
use Rattle.choice.specs.Passes.{passes_of}
use Rattle.choice.specs.declared.Precedence.{Precedence}
use Rattle.frame.specs.Read.{read_of}
use Rattle.frame.specs.Write.{write_refusal, written_of}
use Rattle.frame.specs.Better.{standing_of, winner_of, precedence_start, precedence_bytes}
use Rattle.frame.specs.declared.Mac.{Mac}
use Rattle.frame.specs.declared.Fields.{Fields}
use Rattle.frame.specs.declared.Winner.{Winner}
use Rattle.frame.specs.declared.Winner.TheVariants.{Neither, First, Second}
use Rattle.hexadecimal.specs.Character.{space, newline}
use Rattle.columns.specs.Columns.{columns_text, bytes_line, line1, line_with}
use Rattle.forms.specs.Field.{most_length}
use Rattle.forms.specs.Form.{number_in}
use Rattle.forms.specs.Value.{byte_in, size_in}
use Rattle.forms.specs.declared.Form.{Form}
use Rattle.replay_grammar.specs.Row.{letter_f, letter_w, letter_b, letter_h}
use Rattle.replay_times.specs.Times.{times_text}

-- ---- arguments: S, P, V and W have an address and a precedence first among their bytes, W then an errorTime

abbrev pub mac_from : List ℕ → Mac
mac_from s = record { 0 = get_or s 0 0; 1 = get_or s 1 0; 2 = get_or s 2 0; 3 = get_or s 3 0; 4 = get_or s 4 0; 5 = get_or s 5 0 }

abbrev pub precedence_from : List ℕ → Precedence
precedence_from s = record {
  priority1 = get_or s 6 0;
  source = get_or s 7 0;
  variance = number_at s 8 2;
  priority2 = get_or s 10 0;
  clock = number_at s 11 8;
}

abbrev pub error_in : List ℕ → ErrorTime
error_in s = record { 0 = number_at s 19 4 }

-- what W is to write
unfoldable pub fields_in : Form → Fields
fields_in f = record {
  sa = mac_from f.bytes;
  precedence = precedence_from f.bytes;
  hop = byte_in f 2;
  count = byte_in f 3;
  grand = record { 0 = number_in f 4; 1 = number_in f 5 };
  local = record { 0 = number_in f 6 };
  tx = record { 0 = number_in f 7 };
  rx = record { 0 = number_in f 8 };
  error = error_in f.bytes;
  version = byte_in f 10;
}

-- an output before a call: n of 128 bytes A5
abbrev pub untouched_byte : ℕ
untouched_byte = 0xA5

abbrev pub untouched : ℕ → List ℕ
untouched n = take n (replicate most_length untouched_byte)

-- ---- answers

-- how many bytes each column of a frame's fields has; 0 is a character
abbrev pub field_widths : List ℕ
field_widths = 1 ∷ 0 ∷ 1 ∷ 1 ∷ 1 ∷ 1 ∷ 1 ∷ 1 ∷ 0 ∷ 1 ∷ 1 ∷ 2 ∷ 1 ∷ 8 ∷ 0 ∷ 1 ∷ 0 ∷ 1 ∷ 0 ∷ 5 ∷ 5 ∷ 0 ∷ 6 ∷ 0 ∷ 6 ∷ 0 ∷ 6 ∷ 0 ∷ 4 ∷ 0 ∷ 1 ∷ 0 ∷ []

abbrev pub field_values : Fields → List ℕ
field_values f =
    let m = f.sa in
    let p = f.precedence in
    done ∷ space
    ∷ m.0 ∷ m.1 ∷ m.2 ∷ m.3 ∷ m.4 ∷ m.5 ∷ space
    ∷ p.priority1 ∷ p.source ∷ p.variance ∷ p.priority2 ∷ p.clock ∷ space
    ∷ f.hop ∷ space ∷ f.count ∷ space ∷ f.grand.0 ∷ f.grand.1 ∷ space
    ∷ f.local.0 ∷ space ∷ f.tx.0 ∷ space ∷ f.rx.0 ∷ space ∷ f.error.0 ∷ space ∷ f.version ∷ newline ∷ []

abbrev pub read_text : Result Fields Refusal → List ℕ
read_text (Ok f) = columns_text field_widths (field_values f)
read_text (Err refusal) = line1 (number_of refusal)

abbrev pub write_text : Fields → List ℕ → List ℕ
write_text f out = line_with (answer_number (write_refusal f (length out))) (written_of f out)

-- the precedence bytes of the better of two frames
abbrev pub piece_of : Winner → List ℕ → List ℕ → List ℕ
piece_of Neither a b = []
piece_of First a b = take precedence_bytes (drop precedence_start a)
piece_of Second a b = take precedence_bytes (drop precedence_start b)

unfoldable pub better_text_of : List ℕ → List ℕ → List ℕ
better_text_of a b = bytes_line (piece_of (winner_of (standing_of a) (standing_of b)) a b)

-- the passes left at a hop
abbrev pub passes_text : ℕ → List ℕ
passes_text hop = line1 (passes_of hop)

-- the letter's call, and then the lines of times
unfoldable pub plain_text : ℕ → Form → List ℕ
plain_text letter f =
    cond (eqb letter letter_f) (read_text (read_of (take (size_in f 0) f.bytes)))
    (cond (eqb letter letter_w) (write_text (fields_in f) (untouched (size_in f 11)))
    (cond (eqb letter letter_b) (better_text_of (take (size_in f 0) f.bytes) (take (size_in f 1) (drop (size_in f 0) f.bytes)))
    (cond (eqb letter letter_h) (passes_text (byte_in f 0))
    (times_text letter f))))
