-- The bus's cycle time at the edges: what the definitions give is what the request's rule does, one claim for each table.
use mathlib.Core.Path.{refl}
use Rattle.refusals.specs.Edge.{Holds}
use Rattle.times.specs.Parts.{part_of, least_of}
use Rattle.bus.specs.Bus.{outward_of, own_second, next_of, inward_of, register_of}
use Rattle.bus.specs.Edges.{outwards, inwards, registers, fields}

pub outwards_hold : Holds outwards
unfolding outwards outward_of part_of least_of
outwards_hold = refl

pub inwards_hold : Holds inwards
unfolding inwards inward_of next_of own_second part_of least_of
inwards_hold = refl

pub registers_hold : Holds registers
unfolding registers register_of
registers_hold = refl

pub fields_hold : Holds fields
unfolding fields
fields_hold = refl
