-- The frame: a table of widths, what stands in each row, and the fields that are read off the rows.
use Rattle.std.specs.Prelude.{ℕ, ◌+◌, Bool, ◌||◌, List, [], ◌∷◌, eqb, get_or}
use Rattle.choice.specs.declared.Precedence.{Precedence}
use Rattle.frame.specs.declared.Mac.{Mac}
use Rattle.frame.specs.declared.Fields.{Fields}

abbrev pub frame_length : ℕ
frame_length = 64

-- what stands in every frame: da 01-80-C2-00-00-0E, protocolType, function
abbrev pub station_address : ℕ
station_address = 0x0180C200000E

abbrev pub local_experimental : ℕ
local_experimental = 0x88B5

abbrev pub time_sync : ℕ
time_sync = 1

-- the versions that there are, and whether a number is one of them
abbrev pub first_version : ℕ
first_version = 1

abbrev pub second_version : ℕ
second_version = 2

abbrev pub is_version : ℕ → Bool
is_version version = eqb version first_version || eqb version second_version

-- the width in bytes of each row, first to last
abbrev pub widths : List ℕ
widths =
    6  -- 0: da
    ∷ 1 ∷ 1 ∷ 1 ∷ 1 ∷ 1 ∷ 1  -- 1 to 6: sa
    ∷ 2 ∷ 1 ∷ 1  -- 7 to 9: protocolType, function, version
    ∷ 1 ∷ 1 ∷ 2 ∷ 1 ∷ 8  -- 10 to 14: precedence
    ∷ 1 ∷ 1 ∷ 1  -- 15 to 17: hopCount, frameCount, zero
    ∷ 5 ∷ 5  -- 18, 19: grandTime
    ∷ 6 ∷ 6 ∷ 6  -- 20 to 22: localTime, thatTxTime, thatRxTime
    ∷ 4  -- 23: errorTime
    ∷ []

-- the row of each number; sa has six, a byte each
abbrev pub da_row : ℕ
da_row = 0

abbrev pub sa_row : ℕ
sa_row = 1

abbrev pub protocol_type_row : ℕ
protocol_type_row = 7

abbrev pub function_row : ℕ
function_row = 8

abbrev pub version_row : ℕ
version_row = 9

abbrev pub priority1_row : ℕ
priority1_row = 10

abbrev pub source_row : ℕ
source_row = 11

abbrev pub variance_row : ℕ
variance_row = 12

abbrev pub priority2_row : ℕ
priority2_row = 13

abbrev pub clock_row : ℕ
clock_row = 14

abbrev pub hop_row : ℕ
hop_row = 15

abbrev pub count_row : ℕ
count_row = 16

abbrev pub zero_row : ℕ
zero_row = 17

abbrev pub seconds_row : ℕ
seconds_row = 18

abbrev pub fraction_row : ℕ
fraction_row = 19

abbrev pub local_row : ℕ
local_row = 20

abbrev pub tx_row : ℕ
tx_row = 21

abbrev pub rx_row : ℕ
rx_row = 22

abbrev pub error_row : ℕ
error_row = 23

-- what the fields put into each row
abbrev pub values_of : Fields → List ℕ
values_of f =
    station_address
    ∷ f.sa.0 ∷ f.sa.1 ∷ f.sa.2 ∷ f.sa.3 ∷ f.sa.4 ∷ f.sa.5
    ∷ local_experimental ∷ time_sync ∷ f.version
    ∷ f.precedence.priority1 ∷ f.precedence.source ∷ f.precedence.variance ∷ f.precedence.priority2 ∷ f.precedence.clock
    ∷ f.hop ∷ f.count ∷ 0
    ∷ f.grand.0 ∷ f.grand.1
    ∷ f.local.0 ∷ f.tx.0 ∷ f.rx.0
    ∷ f.error.0
    ∷ []

-- the fields that stand in the rows
abbrev pub mac_of : List ℕ → Mac
mac_of vs = record {
  0 = get_or vs sa_row 0;
  1 = get_or vs (sa_row + 1) 0;
  2 = get_or vs (sa_row + 2) 0;
  3 = get_or vs (sa_row + 3) 0;
  4 = get_or vs (sa_row + 4) 0;
  5 = get_or vs (sa_row + 5) 0;
}

abbrev pub precedence_in : List ℕ → Precedence
precedence_in vs = record {
  priority1 = get_or vs priority1_row 0;
  source = get_or vs source_row 0;
  variance = get_or vs variance_row 0;
  priority2 = get_or vs priority2_row 0;
  clock = get_or vs clock_row 0;
}

abbrev pub fields_of : List ℕ → Fields
fields_of vs = record {
  sa = mac_of vs;
  precedence = precedence_in vs;
  hop = get_or vs hop_row 0;
  count = get_or vs count_row 0;
  grand = record { 0 = get_or vs seconds_row 0; 1 = get_or vs fraction_row 0 };
  local = record { 0 = get_or vs local_row 0 };
  tx = record { 0 = get_or vs tx_row 0 };
  rx = record { 0 = get_or vs rx_row 0 };
  error = record { 0 = get_or vs error_row 0 };
  version = get_or vs version_row 0;
}
