-- Document 01's literals of the frame: a frame as it is written, what Read makes of it, and of it with one byte or the length changed.
use Rattle.std.specs.Prelude.{List, [], ◌∷◌, ◌++◌, ℕ, ◌+◌, ◌*◌, ◌^◌, length, take, set}
use Rattle.refusals.specs.Answer.{answer_number}
use Rattle.refusals.specs.Literals.{Literal, literal}
use Rattle.numbers.specs.Bytes.{number_at}
use Rattle.frame.specs.Read.{read_refusal}
use Rattle.frame.specs.Write.{write_refusal, bytes_of}
use Rattle.frame.specs.declared.Fields.{Fields}

-- fields of a version that differ from each other, and from every fixed one
abbrev fields_of_version : ℕ → Fields
fields_of_version version = record {
  sa = record { 0 = 3; 1 = 4; 2 = 5; 3 = 6; 4 = 7; 5 = 21 };
  precedence = record { priority1 = 8; source = 9; variance = 10; priority2 = 11; clock = 12 };
  hop = 13;
  count = 14;
  grand = record { 0 = 15; 1 = 16 };
  local = record { 0 = 17 };
  tx = record { 0 = 18 };
  rx = record { 0 = 19 };
  error = record { 0 = 20 };
  version = version;
}

-- their frame in version 2, and the number in n of its bytes from a on
abbrev frame : List ℕ
frame = bytes_of (fields_of_version 2) []

abbrev bytes : ℕ → ℕ → ℕ
bytes a n = number_at frame a n

-- the number that Read answers, and that of the frame where one of its bytes is another
abbrev read : List ℕ → ℕ
read s = answer_number (read_refusal s)

abbrev with : ℕ → ℕ → ℕ
with a byte = read (set frame a byte)

-- the number that Write answers to the fields of a version, into so many bytes
abbrev write : ℕ → ℕ → ℕ
write version room = answer_number (write_refusal (fields_of_version version) room)

unfoldable pub frame_literals : List Literal
frame_literals =
    -- 64 bytes
    literal (length frame) 64
    -- da 01-80-C2-00-00-0E, protocolType 88B5, function 1, byte 31 zero; version
    ∷ literal (bytes 0 6) 0x0180C200000E
    ∷ literal (bytes 12 2) 0x88B5
    ∷ literal (bytes 14 1) 1
    ∷ literal (bytes 31 1) 0
    ∷ literal (bytes 15 1) 2
    -- sa; precedence: priority1, timeSource, variance, priority2, clockID
    ∷ literal (bytes 6 6) 0x030405060715
    ∷ literal (bytes 16 1) 8
    ∷ literal (bytes 17 1) 9
    ∷ literal (bytes 18 2) 10
    ∷ literal (bytes 20 1) 11
    ∷ literal (bytes 21 8) 12
    -- hopCount, frameCount
    ∷ literal (bytes 29 1) 13
    ∷ literal (bytes 30 1) 14
    -- grandTime; localTime, thatTxTime, thatRxTime; errorTime
    ∷ literal (bytes 32 10) (15 * 2 ^ 40 + 16)
    ∷ literal (bytes 42 6) 17
    ∷ literal (bytes 48 6) 18
    ∷ literal (bytes 54 6) 19
    ∷ literal (bytes 60 4) 20
    -- Read takes it, and refuses it a byte shorter, a byte longer, and with another da, protocolType, function, byte 31 or version
    ∷ literal (read frame) 0
    ∷ literal (read (take 63 frame)) 4
    ∷ literal (read (frame ++ (0 ∷ []))) 4
    ∷ literal (with 0 0) 5
    ∷ literal (with 5 15) 5
    ∷ literal (with 12 0) 5
    ∷ literal (with 13 0) 5
    ∷ literal (with 14 2) 5
    ∷ literal (with 31 1) 5
    ∷ literal (with 15 0) 6
    ∷ literal (with 15 3) 6
    ∷ literal (with 15 255) 6
    -- version 1 is read too
    ∷ literal (with 15 1) 0
    -- sa has any value, and hop 255 is read
    ∷ literal (with 6 255) 0
    ∷ literal (with 29 255) 0
    -- Write takes version 1 and version 2 and no other; 4 comes before 6
    ∷ literal (write 1 64) 0
    ∷ literal (write 2 64) 0
    ∷ literal (write 0 64) 6
    ∷ literal (write 3 64) 6
    ∷ literal (write 255 64) 6
    ∷ literal (write 3 63) 4
    ∷ []
