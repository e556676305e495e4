-- When Outward, Inward and the register refuse: each condition by itself, with its number.
use Rattle.std.specs.Prelude.{List, [], ◌∷◌, ◌++◌, ◌^◌, ◌≤◌}
use Rattle.refusals.specs.Order.{Condition, given}
use Rattle.times.specs.declared.GrandTime.{GrandTime}
use Rattle.bus.specs.Demands.{NoneLeft}
use Rattle.bus.specs.declared.BusTime.{BusTime}

-- a grand time: seconds or fraction at or above 2^40
abbrev pub grand_conditions : GrandTime → List Condition
grand_conditions g = given 2 (2 ^ 40 ≤ g.0) ∷ given 2 (2 ^ 40 ≤ g.1) ∷ []

-- a bus time: seconds of 128 or more, a cycle of 8,000 or more, an offset of 3,072 or more
abbrev pub bus_conditions : BusTime → List Condition
bus_conditions t = given 2 (128 ≤ t.seconds) ∷ given 2 (8000 ≤ t.cycle) ∷ given 2 (3072 ≤ t.offset) ∷ []

-- Inward: those of both, and that the answer would reach 2^80
abbrev pub inward_conditions : BusTime → GrandTime → List Condition
inward_conditions t hint = bus_conditions t ++ (grand_conditions hint ++ (given 13 (NoneLeft t hint) ∷ []))
