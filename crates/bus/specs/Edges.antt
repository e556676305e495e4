-- The bus's cycle time at the edges: tables of cases that we chose, each with what the request's rule gives.
use Rattle.std.specs.Prelude.{List, [], ◌∷◌, ℕ, ◌+◌, ◌-◌, ◌^◌, Result, Ok, Err}
use Rattle.refusals.specs.Edge.{Edge}
use Rattle.refusals.specs.declared.Refusal.{Refusal}
use Rattle.refusals.specs.declared.Refusal.TheVariants.{OutOfRange, BeyondRange}
use Rattle.times.specs.declared.GrandTime.{GrandTime}
use Rattle.bus.specs.Bus.{outward_of, inward_of, register_of, fields_of}
use Rattle.bus.specs.declared.BusTime.{BusTime}
use Rattle.bus.specs.declared.CycleTime.{CycleTime}

abbrev at : ℕ → ℕ → GrandTime
at second fraction = record { 0 = second; 1 = fraction }

abbrev bus : ℕ → ℕ → ℕ → BusTime
bus seconds cycle offset = record { seconds = seconds; cycle = cycle; offset = offset }

-- ---- Outward: a grand time; its fields

abbrev out : GrandTime → BusTime → Edge (Result BusTime Refusal)
out g t = record { got = outward_of g; says = Ok t }

abbrev not_out : GrandTime → Edge (Result BusTime Refusal)
not_out g = record { got = outward_of g; says = Err OutOfRange }

unfoldable pub outwards : List (Edge (Result BusTime Refusal))
outwards =
    out (at 0 0) (bus 0 0 0)
    -- the first tick ends after 44,739.2 U
    ∷ out (at 0 44739) (bus 0 0 0)
    ∷ out (at 0 44740) (bus 0 0 1)
    -- and the first cycle after 3,072 ticks
    ∷ out (at 0 137438953) (bus 0 0 3071)
    ∷ out (at 0 137438954) (bus 0 1 0)
    -- half a second is half of the cycles
    ∷ out (at 0 (2 ^ 39 - 1)) (bus 0 3999 3071)
    ∷ out (at 0 (2 ^ 39)) (bus 0 4000 0)
    -- the last tick of the bus's last second, and the first of its first
    ∷ out (at 127 (2 ^ 40 - 1)) (bus 127 7999 3071)
    ∷ out (at 128 0) (bus 0 0 0)
    ∷ out (at 64 0) (bus 64 0 0)
    ∷ out (at (2 ^ 40 - 1) (2 ^ 40 - 1)) (bus 127 7999 3071)
    ∷ not_out (at (2 ^ 40) 0)
    ∷ not_out (at 0 (2 ^ 40))
    ∷ []

-- ---- Inward: fields and a hint; the grand time

abbrev into : BusTime → GrandTime → GrandTime → Edge (Result GrandTime Refusal)
into t hint g = record { got = inward_of t hint; says = Ok g }

abbrev not_into : BusTime → GrandTime → Refusal → Edge (Result GrandTime Refusal)
not_into t hint refusal = record { got = inward_of t hint; says = Err refusal }

-- second 5, tick 3,074: its first unit and its last
abbrev place : BusTime
place = bus 5 1 2

abbrev first : ℕ
first = 137528432

abbrev last : ℕ
last = 137573171

unfoldable pub inwards : List (Edge (Result GrandTime Refusal))
inwards =
    -- the hint in the tick: at its first unit, within it, at its last
    into place (at 5 first) (at 5 first)
    ∷ into place (at 5 (first + 1000)) (at 5 (first + 1000))
    ∷ into place (at 5 last) (at 5 last)
    -- one before the first unit, and one after the last
    ∷ into place (at 5 (first - 1)) (at 5 first)
    ∷ into place (at 5 (last + 1)) (at 133 first)
    -- a tick before, and in the tick after
    ∷ into place (at 5 0) (at 5 first)
    ∷ into place (at 5 (2 ^ 40 - 1)) (at 133 first)
    -- across the second
    ∷ into place (at 4 (2 ^ 40 - 1)) (at 5 first)
    ∷ into place (at 0 0) (at 5 first)
    -- across 128 s
    ∷ into place (at 6 0) (at 133 first)
    ∷ into place (at 127 (2 ^ 40 - 1)) (at 133 first)
    ∷ into place (at 128 0) (at 133 first)
    ∷ into (bus 0 0 0) (at 127 (2 ^ 40 - 1)) (at 128 0)
    ∷ into (bus 127 7999 3071) (at 128 0) (at 255 1099511583037)
    -- the last that there is, and none after it
    ∷ into place (at (2 ^ 40 - 123) (first - 1)) (at (2 ^ 40 - 123) first)
    ∷ into place (at (2 ^ 40 - 123) last) (at (2 ^ 40 - 123) last)
    ∷ not_into place (at (2 ^ 40 - 123) (last + 1)) BeyondRange
    ∷ not_into place (at (2 ^ 40 - 122) 0) BeyondRange
    ∷ into (bus 127 7999 3071) (at (2 ^ 40 - 1) (2 ^ 40 - 1)) (at (2 ^ 40 - 1) (2 ^ 40 - 1))
    ∷ into (bus 127 7999 3071) (at (2 ^ 40 - 1) 0) (at (2 ^ 40 - 1) 1099511583037)
    ∷ not_into (bus 127 7999 3070) (at (2 ^ 40 - 1) (2 ^ 40 - 1)) BeyondRange
    ∷ not_into (bus 0 0 0) (at (2 ^ 40 - 1) 0) BeyondRange
    -- out of range, also where no grand time would be left
    ∷ not_into (bus 128 0 0) (at 0 0) OutOfRange
    ∷ not_into (bus 0 8000 0) (at 0 0) OutOfRange
    ∷ not_into (bus 0 0 3072) (at 0 0) OutOfRange
    ∷ not_into place (at (2 ^ 40) 0) OutOfRange
    ∷ not_into place (at 0 (2 ^ 40)) OutOfRange
    ∷ not_into (bus 128 0 0) (at (2 ^ 40 - 1) (2 ^ 40 - 1)) OutOfRange
    ∷ []

-- ---- the register: fields, its 32 bits; and its 32 bits, fields

abbrev held : BusTime → ℕ → Edge (Result CycleTime Refusal)
held t bits = record { got = register_of t; says = Ok (record { 0 = bits }) }

abbrev not_held : BusTime → Edge (Result CycleTime Refusal)
not_held t = record { got = register_of t; says = Err OutOfRange }

unfoldable pub registers : List (Edge (Result CycleTime Refusal))
registers =
    held (bus 0 0 0) 0
    ∷ held (bus 0 0 1) 1
    ∷ held (bus 0 1 0) 0x1000
    ∷ held (bus 1 0 0) 0x2000000
    ∷ held place 0xA001002
    ∷ held (bus 127 7999 3071) 0xFFF3FBFF
    ∷ not_held (bus 128 0 0)
    ∷ not_held (bus 0 8000 0)
    ∷ not_held (bus 0 0 3072)
    ∷ []

abbrev read : ℕ → BusTime → Edge BusTime
read bits t = record { got = fields_of (record { 0 = bits }); says = t }

unfoldable pub fields : List (Edge BusTime)
fields =
    read 0 (bus 0 0 0)
    ∷ read 0xFFF (bus 0 0 4095)
    ∷ read 0x1000 (bus 0 1 0)
    ∷ read 0x1FFF000 (bus 0 8191 0)
    ∷ read 0x2000000 (bus 1 0 0)
    ∷ read 0xA001002 place
    ∷ read 0xFFF3FBFF (bus 127 7999 3071)
    ∷ read 0xFFFFFFFF (bus 127 8191 4095)
    ∷ []
