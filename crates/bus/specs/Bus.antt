-- The cycle time of an IEEE 1394 bus: the bus time of a grand time, the grand time of a bus time, and the register.
use Rattle.std.specs.Prelude.{Bool, cond, ◌&&◌, ℕ, ◌+◌, ◌*◌, ◌/◌, ◌%◌, ◌^◌, ltb, eqb, Result, Ok, Err}
use Rattle.refusals.specs.Refusals.{done, out_of_range, beyond_range}
use Rattle.refusals.specs.Chain.{unless}
use Rattle.refusals.specs.declared.Refusal.{Refusal}
use Rattle.refusals.specs.declared.Refusal.TheVariants.{OutOfRange, BeyondRange}
use Rattle.times.specs.Times.{second, around_of, is_in_range}
use Rattle.times.specs.Parts.{part_of, least_of}
use Rattle.times.specs.declared.GrandTime.{GrandTime}
use Rattle.bus.specs.declared.BusTime.{BusTime}
use Rattle.bus.specs.declared.CycleTime.{CycleTime}

-- the bus counts 128 seconds; a second has 8,000 cycles of 3,072 ticks, which are 24,576,000
abbrev pub bus_seconds : ℕ
bus_seconds = 128

abbrev pub second_cycles : ℕ
second_cycles = 8000

abbrev pub cycle_ticks : ℕ
cycle_ticks = 3072

abbrev pub second_ticks : ℕ
second_ticks = 24576000

-- the fields of a bus time are below their ends
abbrev pub is_bus : BusTime → Bool
is_bus t = ltb t.seconds bus_seconds && (ltb t.cycle second_cycles && ltb t.offset cycle_ticks)

-- ---- outward

-- the tick of a fraction: floor(fraction × 24,576,000 / 2^40)
abbrev pub tick_of : ℕ → ℕ
tick_of fraction = part_of second_ticks second fraction

-- seconds modulo 128; cycle and offset are the tick's quotient and rest by 3,072
abbrev pub bus_time_of : GrandTime → BusTime
bus_time_of g = record { seconds = g.0 % bus_seconds; cycle = tick_of g.1 / cycle_ticks; offset = tick_of g.1 % cycle_ticks }

-- 2 for seconds or a fraction out of range
unfoldable pub outward_of : GrandTime → Result BusTime Refusal
outward_of g = cond (is_in_range g) (Ok (bus_time_of g)) (Err OutOfRange)

-- the number of the refusal, by the grand time
abbrev pub outward_refusal : GrandTime → ℕ
outward_refusal g = unless (is_in_range g) out_of_range done

-- ---- inward

-- the tick of its second that a bus time names
abbrev pub tick_at : BusTime → ℕ
tick_at t = t.cycle * cycle_ticks + t.offset

-- where a tick of a second begins: at the least fraction that lies in it
abbrev pub start_of : ℕ → ℕ → GrandTime
start_of seconds tick = record { 0 = seconds; 1 = least_of second_ticks second tick }

-- how many seconds on from the hint's the bus's second is, 0 to 127
abbrev pub ahead_of : BusTime → GrandTime → ℕ
ahead_of t hint = around_of t.seconds hint.0 bus_seconds

-- in the hint's own second: the tick's start where that is to come, that of 128 s on where the tick is over, and in the tick the hint itself
unfoldable pub own_second : ℕ → GrandTime → GrandTime
own_second tick hint =
    cond (ltb (tick_of hint.1) tick) (start_of hint.0 tick)
    (cond (ltb tick (tick_of hint.1)) (start_of (hint.0 + bus_seconds) tick) hint)

-- the least grand time that has the fields and isn't below the hint, though it may be past the end of grand time; `next_is` says that it is that
unfoldable pub next_of : BusTime → GrandTime → GrandTime
next_of t hint = cond (eqb (ahead_of t hint) 0) (own_second (tick_at t) hint) (start_of (hint.0 + ahead_of t hint) (tick_at t))

-- 13 where that is at or past the end
abbrev pub before_end : GrandTime → Result GrandTime Refusal
before_end g = cond (ltb g.0 second) (Ok g) (Err BeyondRange)

-- 2 for a field or a hint out of range first
unfoldable pub inward_of : BusTime → GrandTime → Result GrandTime Refusal
inward_of t hint = cond (is_bus t && is_in_range hint) (before_end (next_of t hint)) (Err OutOfRange)

-- the number of the refusal, by the bus time and the hint
abbrev pub inward_refusal : BusTime → GrandTime → ℕ
inward_refusal t hint = unless (is_bus t && is_in_range hint) out_of_range (unless (ltb (next_of t hint).0 second) beyond_range done)

-- ---- the register: seconds in its upper 7 bits, cycle in the next 13, offset in the lower 12

abbrev pub cycle_time_of : BusTime → CycleTime
cycle_time_of t = record { 0 = t.seconds * 2 ^ 25 + t.cycle * 2 ^ 12 + t.offset }

-- 2 for a field out of range
unfoldable pub register_of : BusTime → Result CycleTime Refusal
register_of t = cond (is_bus t) (Ok (cycle_time_of t)) (Err OutOfRange)

-- the number of the refusal, by the bus time
abbrev pub register_refusal : BusTime → ℕ
register_refusal t = unless (is_bus t) out_of_range done

-- the fields of any register: Inward refuses a cycle or an offset that no bus counts to
abbrev pub fields_of : CycleTime → BusTime
fields_of r = record { seconds = r.0 / 2 ^ 25; cycle = r.0 / 2 ^ 12 % 2 ^ 13; offset = r.0 % 2 ^ 12 }
