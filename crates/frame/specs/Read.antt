-- Read: what bytes are refused with, and the fields of those that are not.
use Rattle.std.specs.Prelude.{ℕ, List, length, get_or, eqb, Result, Ok, ⊤}
use Rattle.refusals.specs.Answer.{granted, require, and_then}
use Rattle.refusals.specs.declared.Refusal.{Refusal}
use Rattle.refusals.specs.declared.Refusal.TheVariants.{WrongLength, WrongConstant, WrongVersion}
use Rattle.numbers.specs.Table.{parted}
use Rattle.frame.specs.Frame.{frame_length, station_address, local_experimental, time_sync, is_version, widths, da_row, protocol_type_row, function_row, version_row, zero_row, fields_of}
use Rattle.frame.specs.declared.Fields.{Fields}

-- the rows of a frame
abbrev pub rows_of : List ℕ → List ℕ
rows_of s = parted widths 0 s

-- a wrong da, protocolType, function or byte 31, and a version that there is not
abbrev pub constants_refusal : List ℕ → Result ⊤ Refusal
constants_refusal vs =
    require (eqb (get_or vs da_row 0) station_address) WrongConstant
    (require (eqb (get_or vs protocol_type_row 0) local_experimental) WrongConstant
    (require (eqb (get_or vs function_row 0) time_sync) WrongConstant
    (require (eqb (get_or vs zero_row 0) 0) WrongConstant
    (require (is_version (get_or vs version_row 0)) WrongVersion granted))))

-- a wrong length, and then what the rows are refused with
unfoldable pub read_refusal : List ℕ → Result ⊤ Refusal
read_refusal s = require (eqb (length s) frame_length) WrongLength (constants_refusal (rows_of s))

-- a refusal, or the fields of the rows
abbrev pub read_as : Result ⊤ Refusal → List ℕ → Result Fields Refusal
read_as refusal vs = and_then refusal (Ok (fields_of vs))

unfoldable pub read_of : List ℕ → Result Fields Refusal
read_of s = read_as (read_refusal s) (rows_of s)
