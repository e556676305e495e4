-- Read by the bytes: the table of document 01, byte for byte, as the number that is given and the fields that are handed back.
use Rattle.std.specs.Prelude.{List, ℕ, eqb, length}
use Rattle.refusals.specs.Refusals.{done, wrong_length, wrong_constant, wrong_version}
use Rattle.refusals.specs.Chain.{unless}
use Rattle.numbers.specs.Bytes.{number_at}
use Rattle.choice.specs.declared.Precedence.{Precedence}
use Rattle.frame.specs.Frame.{frame_length, station_address, local_experimental, time_sync, is_version}
use Rattle.frame.specs.declared.Mac.{Mac}
use Rattle.frame.specs.declared.Fields.{Fields}

-- 4 for a wrong length; 5 for a wrong da (bytes 0-5), protocolType (12-13), function (14) or byte 31; 6 for a version (15) that there is not; or 0
abbrev pub bytes_refusal : List ℕ → ℕ
bytes_refusal s =
    unless (eqb (length s) frame_length) wrong_length
    (unless (eqb (number_at s 0 6) station_address) wrong_constant
    (unless (eqb (number_at s 12 2) local_experimental) wrong_constant
    (unless (eqb (number_at s 14 1) time_sync) wrong_constant
    (unless (eqb (number_at s 31 1) 0) wrong_constant
    (unless (is_version (number_at s 15 1)) wrong_version done)))))

-- sa: bytes 6-11
abbrev pub sa_at : List ℕ → Mac
sa_at s = record {
  0 = number_at s 6 1;
  1 = number_at s 7 1;
  2 = number_at s 8 1;
  3 = number_at s 9 1;
  4 = number_at s 10 1;
  5 = number_at s 11 1;
}

-- precedence: bytes 16-28, as priority1 (1), timeSource (1), variance (2), priority2 (1), clockID (8)
abbrev pub precedence_by : List ℕ → Precedence
precedence_by s = record {
  priority1 = number_at s 16 1;
  source = number_at s 17 1;
  variance = number_at s 18 2;
  priority2 = number_at s 20 1;
  clock = number_at s 21 8;
}

-- hopCount 29, frameCount 30, grandTime 32-41 in seconds and fraction, localTime 42-47, thatTxTime 48-53, thatRxTime 54-59, errorTime 60-63; version 15
abbrev pub fields_at : List ℕ → Fields
fields_at s = record {
  sa = sa_at s;
  precedence = precedence_by s;
  hop = number_at s 29 1;
  count = number_at s 30 1;
  grand = record { 0 = number_at s 32 5; 1 = number_at s 37 5 };
  local = record { 0 = number_at s 42 6 };
  tx = record { 0 = number_at s 48 6 };
  rx = record { 0 = number_at s 54 6 };
  error = record { 0 = number_at s 60 4 };
  version = number_at s 15 1;
}
