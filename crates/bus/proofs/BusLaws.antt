-- Laws of the bus's cycle time: the tests of ranges, ticks and fields, and that Inward's grand time is the next one with the fields.
use mathlib.Core.Path.{◌≡◌, refl, ap}
use mathlib.Core.Bool.{true, ◌&&◌}
use Prim.Native.Nat.{ℕ, ◌+◌, ◌*◌, ◌/◌, ◌%◌, ◌<◌, ◌≤◌}
use native.Mathlib.Nat.{lt_of_not-le}
use native.Mathlib.Omega.{arith}
use borrow.Author.Tests.{lt-ltb, ltb-true, ltb-false, eqb-true, eqb-false}
use lib.Dec.{ltb, eqb}
use Rattle.times.specs.Times.{second, units, InRange, is_in_range}
use Rattle.times.specs.Parts.{least_of, LeastInPart}
use Rattle.times.specs.declared.GrandTime.{GrandTime}
use Rattle.bus.specs.Bus.{bus_seconds, second_cycles, cycle_ticks, second_ticks, is_bus, tick_of, bus_time_of, tick_at, start_of, ahead_of, own_second, next_of}
use Rattle.bus.specs.Demands.{OnBus, Next, NoneLeft}
use Rattle.bus.specs.declared.BusTime.{BusTime}
use Rattle.numbers.proofs.Branches.{if_when}
use Rattle.times.proofs.TestLaws.{both_hold}
use Rattle.times.proofs.PartLaws.{part_reached, least_reached, least_part, part_lt, least_lt}

-- ---- the tests of ranges

pub grand_holds : (g : GrandTime) → InRange g → is_in_range g ≡ true
grand_holds g r = rw (lt-ltb g.0 second r.seconds, lt-ltb g.1 second r.fraction)

pub holds_grand : (g : GrandTime) → is_in_range g ≡ true → InRange g
holds_grand g e =
    let k = both_hold (ltb g.0 second) (ltb g.1 second) e in
    record { seconds = ltb-true _ _ k.0; fraction = ltb-true _ _ k.1 }

pub bus_holds : (t : BusTime) → OnBus t → is_bus t ≡ true
bus_holds t r = rw (lt-ltb t.seconds bus_seconds r.seconds, lt-ltb t.cycle second_cycles r.cycle, lt-ltb t.offset cycle_ticks r.offset)

pub holds_bus : (t : BusTime) → is_bus t ≡ true → OnBus t
holds_bus t e =
    let k = both_hold (ltb t.seconds bus_seconds) (ltb t.cycle second_cycles && ltb t.offset cycle_ticks) e in
    let l = both_hold (ltb t.cycle second_cycles) (ltb t.offset cycle_ticks) k.1 in
    record { seconds = ltb-true _ _ k.0; cycle = ltb-true _ _ l.0; offset = ltb-true _ _ l.1 }

-- ---- ticks

-- the cycles' ticks are the second's
pub cycles_ticks : second_cycles * cycle_ticks ≡ second_ticks
cycles_ticks = refl

-- the laws of parts, for ticks: a fraction has come to a tick exactly if it is no less than the tick's start, which is the least in it
pub tick_reached : (tick fraction : ℕ) → tick ≤ tick_of fraction → least_of second_ticks second tick ≤ fraction
tick_reached = part_reached second_ticks second (omega arith) (omega arith)

start_reached : (tick fraction : ℕ) → least_of second_ticks second tick ≤ fraction → tick ≤ tick_of fraction
start_reached = least_reached second_ticks second (omega arith) (omega arith)

start_least : (tick : ℕ) → LeastInPart second_ticks second tick (least_of second_ticks second tick)
start_least = least_part second_ticks second (omega arith) (omega arith)

-- a second has so many ticks, and each begins within it
pub tick_lt : (fraction : ℕ) → fraction < second → tick_of fraction < second_ticks
tick_lt = part_lt second_ticks second (omega arith) (omega arith)

start_lt : (tick : ℕ) → tick < second_ticks → least_of second_ticks second tick < second
start_lt = least_lt second_ticks second (omega arith) (omega arith)

pub named_lt : (t : BusTime) → OnBus t → tick_at t < second_ticks
named_lt t r = omega arith

-- a later fraction has no earlier tick
tick_order : (f g : ℕ) → f ≤ g → tick_of f ≤ tick_of g
tick_order f g h = start_reached (tick_of f) g (omega (arith, tick_reached (tick_of f) f (omega arith)))

-- ---- a grand time has the fields of a bus time: its second, and the tick that cycle and offset name

pub fields_tick : (g : GrandTime) (t : BusTime) → bus_time_of g ≡ t → (g.0 % bus_seconds ≡ t.seconds) × (tick_of g.1 ≡ tick_at t)
fields_tick g t e =
    let s : g.0 % bus_seconds ≡ t.seconds = ap (λ (x : BusTime). x.seconds) e in
    let c : tick_of g.1 / cycle_ticks ≡ t.cycle = ap (λ (x : BusTime). x.cycle) e in
    let o : tick_of g.1 % cycle_ticks ≡ t.offset = ap (λ (x : BusTime). x.offset) e in
    (s, omega arith)

pub tick_fields : (g : GrandTime) (t : BusTime) → OnBus t → g.0 % bus_seconds ≡ t.seconds → tick_of g.1 ≡ tick_at t → bus_time_of g ≡ t
tick_fields g t r s e =
    let c : tick_of g.1 / cycle_ticks ≡ t.cycle = omega arith in
    let o : tick_of g.1 % cycle_ticks ≡ t.offset = omega arith in
    λ i. record { seconds = s i; cycle = c i; offset = o i }

-- ---- the next grand time with the fields

module _ (t : BusTime) (hint : GrandTime) (on : OnBus t) (within : hint.1 < second) where
  abbrev tick : ℕ
  tick = tick_at t

  -- a tick's start is the next one, where its second is the bus's, it isn't below the hint, and no earlier second has the tick at or after the hint
  start_next : (s : ℕ) → s % bus_seconds ≡ t.seconds → units hint ≤ units (start_of s tick)
      → ((other : GrandTime) → other.1 < second → other.0 % bus_seconds ≡ t.seconds → tick_of other.1 ≡ tick → units hint ≤ units other → s ≤ other.0)
      → Next t hint (start_of s tick)
  start_next s e after first =
      let lies = start_least tick in
      let inside = start_lt tick (named_lt t on) in
      record {
        fraction = inside;
        fields = tick_fields (start_of s tick) t on e lies.within;
        after = omega arith;
        least = λ other h q l.
            let (k, m) = fields_tick other t q in
            omega (arith, first other h k m l, lies.least other.1 m, inside);
      }

  own_next : hint.0 % bus_seconds ≡ t.seconds → Next t hint (own_second tick hint)
  unfolding own_second
  own_next e =
      if_when (Next t hint) (ltb (tick_of hint.1) tick)
      (λ q. start_next hint.0 e (to_come (ltb-true _ _ q)) (λ other h k m l. omega arith))
      (λ p. if_when (Next t hint) (ltb tick (tick_of hint.1))
      (λ q. start_next (hint.0 + bus_seconds) (omega arith) (omega arith) (over (ltb-true _ _ q)))
      (λ q. record {
        fraction = within;
        fields = tick_fields hint t on e (omega (arith, ltb-false (tick_of hint.1) tick p, ltb-false tick (tick_of hint.1) q));
        after = omega arith;
        least = λ other h k l. l;
      }))
    where
      -- the tick begins after the hint
      to_come : tick_of hint.1 < tick → units hint ≤ units (start_of hint.0 tick)
      to_come h =
          let k : hint.1 < (start_of hint.0 tick).1 = lt_of_not-le (λ q. omega (arith, start_reached tick hint.1 q)) in
          omega arith

      -- the tick is over in the hint's second
      over : tick < tick_of hint.1 → (other : GrandTime) → other.1 < second → other.0 % bus_seconds ≡ t.seconds → tick_of other.1 ≡ tick → units hint ≤ units other
          → hint.0 + bus_seconds ≤ other.0
      over h other k s m l =
          let later : hint.0 < other.0 = lt_of_not-le (λ q. omega (arith, tick_order hint.1 other.1 (omega arith))) in
          omega arith

  -- the first second from the hint's on that is the bus's
  ahead_second : (hint.0 + ahead_of t hint) % bus_seconds ≡ t.seconds
  ahead_second = omega arith

  ahead_first : (s : ℕ) → hint.0 ≤ s → s % bus_seconds ≡ t.seconds → hint.0 + ahead_of t hint ≤ s
  ahead_first s h e = omega arith

  pub next_is : Next t hint (next_of t hint)
  unfolding next_of
  next_is =
      if_when (Next t hint) (eqb (ahead_of t hint) 0)
      (λ q. own_next (omega (arith, eqb-true (ahead_of t hint) 0 q, ahead_second)))
      (λ q. start_next (hint.0 + ahead_of t hint) ahead_second (omega (arith, eqb-false (ahead_of t hint) 0 q)) (λ other h k m l. ahead_first other.0 (omega arith) k))

  -- where it is at or past the end of grand time, none is left
  pub none_left : second ≤ (next_of t hint).0 → NoneLeft t hint
  none_left h g range q after = omega (arith, next_is.least g range.fraction q after)
