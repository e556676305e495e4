-- Write: what fields are refused with, and the bytes of the output.
use Rattle.std.specs.Prelude.{ℕ, List, length, drop, ltb, leb, Result, Ok, Err, ⊤}
use Rattle.refusals.specs.Answer.{granted, require}
use Rattle.refusals.specs.declared.Refusal.{Refusal}
use Rattle.refusals.specs.declared.Refusal.TheVariants.{OutOfRange, WrongLength, WrongVersion}
use Rattle.times.specs.Times.{second, circle}
use Rattle.numbers.specs.Table.{joined}
use Rattle.frame.specs.Frame.{frame_length, is_version, widths, values_of}
use Rattle.frame.specs.declared.Fields.{Fields}

-- a time out of range, an output that is too short, and a version that there is not
unfoldable pub write_refusal : Fields → ℕ → Result ⊤ Refusal
write_refusal f room =
    require (ltb f.grand.0 second) OutOfRange
    (require (ltb f.grand.1 second) OutOfRange
    (require (ltb f.local.0 circle) OutOfRange
    (require (ltb f.tx.0 circle) OutOfRange
    (require (ltb f.rx.0 circle) OutOfRange
    (require (leb frame_length room) WrongLength
    (require (is_version f.version) WrongVersion granted))))))

-- the frame's 64 bytes, and then t
unfoldable pub bytes_of : Fields → List ℕ → List ℕ
bytes_of f t = joined widths (values_of f) t

-- the output: the frame over its first 64 bytes, or as it was
abbrev pub written_as : Result ⊤ Refusal → Fields → List ℕ → List ℕ
written_as (Ok _) f out = bytes_of f (drop frame_length out)
written_as (Err refusal) f out = out

unfoldable pub written_of : Fields → List ℕ → List ℕ
written_of f out = written_as (write_refusal f (length out)) f out
