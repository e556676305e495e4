-- What the theorems on the bus's cycle time say.
use Rattle.std.specs.Prelude.{◌≡◌, ◌⊎◌, ℕ, ◌+◌, ◌*◌, ◌<◌, ◌≤◌, Result}
use Rattle.std.proofs.Math.Option.{none, some}
use Rattle.refusals.specs.Answer.{answer_number, answer_value}
use Rattle.refusals.specs.declared.Refusal.{Refusal}
use Rattle.times.specs.Times.{second, units, InRange}
use Rattle.times.specs.declared.GrandTime.{GrandTime}
use Rattle.bus.specs.Bus.{bus_seconds, second_cycles, cycle_ticks, second_ticks, tick_of, bus_time_of, tick_at, cycle_time_of}
use Rattle.bus.specs.declared.BusTime.{BusTime}
use Rattle.bus.specs.declared.CycleTime.{CycleTime}

-- a bus time that a bus can have: every field below its end
pub record OnBus (t : BusTime) : Type 0 where
  pub seconds : t.seconds < bus_seconds
  pub cycle : t.cycle < second_cycles
  pub offset : t.offset < cycle_ticks

-- ---- the next grand time with those fields

-- g has the fields and isn't below the hint, and no earlier one is so; of any number of seconds, at or past the end of grand time too
pub record Next (t : BusTime) (hint g : GrandTime) : Type 0 where
  pub fraction : g.1 < second
  pub fields : bus_time_of g ≡ t
  pub after : units hint ≤ units g
  pub least : (other : GrandTime) → other.1 < second → bus_time_of other ≡ t → units hint ≤ units other → units g ≤ units other

-- no grand time has the fields and isn't below the hint
abbrev pub NoneLeft : BusTime → GrandTime → Type 0
NoneLeft t hint = (g : GrandTime) → InRange g → bus_time_of g ≡ t → units hint ≤ units g → ⊥

-- ---- each answer, with what holds just where it is given

abbrev pub OutwardAnswers : GrandTime → Result BusTime Refusal → Type 0
OutwardAnswers g a =
    ((answer_number a ≡ 2) × (answer_value a ≡ none) × (InRange g → ⊥))
    ⊎ ((answer_number a ≡ 0) × (answer_value a ≡ some (bus_time_of g)) × InRange g)

abbrev pub Taken : BusTime → GrandTime → Type 0
Taken t hint = OnBus t × InRange hint

abbrev pub InwardAnswers : BusTime → GrandTime → Result GrandTime Refusal → Type 0
InwardAnswers t hint a =
    ((answer_number a ≡ 2) × (answer_value a ≡ none) × (Taken t hint → ⊥))
    ⊎ (((answer_number a ≡ 13) × (answer_value a ≡ none) × Taken t hint × NoneLeft t hint)
    ⊎ ((answer_number a ≡ 0) × Taken t hint × ((g : GrandTime) × (answer_value a ≡ some g) × InRange g × Next t hint g)))

abbrev pub RegisterAnswers : BusTime → Result CycleTime Refusal → Type 0
RegisterAnswers t a =
    ((answer_number a ≡ 2) × (answer_value a ≡ none) × (OnBus t → ⊥))
    ⊎ ((answer_number a ≡ 0) × (answer_value a ≡ some (cycle_time_of t)) × OnBus t)

-- ---- a hint that is good enough

-- two grand times in the same tick of the same second
pub record SameTick (a b : GrandTime) : Type 0 where
  pub seconds : a.0 ≡ b.0
  pub tick : tick_of a.1 ≡ tick_of b.1

-- the hint isn't after g, and the same tick of 128 s before is over at the hint
pub record InReach (hint g : GrandTime) : Type 0 where
  pub before : units hint ≤ units g
  pub past : (e : GrandTime) → e.1 < second → e.0 + bus_seconds ≡ g.0 → tick_of e.1 ≡ tick_of g.1 → units e < units hint

-- the units of a tick, rounded up: 2^40 / 24,576,000 is 44,739.2
abbrev pub tick_units : ℕ
tick_units = 44740

-- a grand time in the tick of a later one, or of the same, and less than a tick before it
pub record JustBefore (earlier later : GrandTime) : Type 0 where
  pub same : SameTick earlier later
  pub before : units earlier ≤ units later
  pub near : units later < units earlier + tick_units

-- ---- a bus time as one number of ticks

abbrev pub ticks : BusTime → ℕ
ticks t = t.seconds * second_ticks + tick_at t
