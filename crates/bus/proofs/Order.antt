-- The order of refusals of Outward, Inward and the register: the number given is the lowest that applies.
use mathlib.Core.Path.{refl}
use native.Mathlib.Omega.{arith}
use Prim.Native.Nat.{◌^◌}
use borrow.Author.Tests.{ltb-true, ltb-false}
use lib.Dec.{ltb}
use Rattle.std.proofs.Common.{Ok, Err}
use Rattle.refusals.specs.Answer.{answer_number}
use Rattle.refusals.specs.declared.Refusal.TheVariants.{OutOfRange}
use Rattle.refusals.specs.Order.{Lowest, nowhere}
use Rattle.times.specs.Times.{second, InRange, is_in_range}
use Rattle.times.specs.declared.GrandTime.{GrandTime}
use Rattle.bus.specs.Bus.{is_bus, bus_time_of, outward_of, next_of, inward_of, cycle_time_of, register_of}
use Rattle.bus.specs.Demands.{OnBus, NoneLeft}
use Rattle.bus.specs.Order.{grand_conditions, bus_conditions, inward_conditions}
use Rattle.bus.specs.declared.BusTime.{BusTime}
use Rattle.bus.proofs.BusLaws.{holds_grand, holds_bus, next_is, none_left}
use Rattle.times.proofs.TestLaws.{both_hold}
use Rattle.refusals.proofs.Order.{first_lowest, less_fails, first_else, Fails, Checks, check, check_both, check_all, checked, checked_then}

-- the tests of a grand time, and of a bus time
grand_check : (g : GrandTime) → Checks 2 (is_in_range g) (grand_conditions g)
grand_check g = check_both (less_fails g.0 (2 ^ 40)) (check (less_fails g.1 (2 ^ 40)))

bus_check : (t : BusTime) → Checks 2 (is_bus t) (bus_conditions t)
bus_check t = check_both (less_fails t.seconds 128) (check_both (less_fails t.cycle 8000) (check (less_fails t.offset 3072)))

pub outward_lowest : (g : GrandTime) → Lowest (grand_conditions g) (answer_number (outward_of g))
unfolding outward_of
outward_lowest g = first_lowest 1 refl (checked answer_number (Ok (bus_time_of g)) (Err OutOfRange) refl refl (grand_check g))

pub register_lowest : (t : BusTime) → Lowest (bus_conditions t) (answer_number (register_of t))
unfolding register_of
register_lowest t = first_lowest 1 refl (checked answer_number (Ok (cycle_time_of t)) (Err OutOfRange) refl refl (bus_check t))

-- 13 by the next grand time with the fields
next_fails : (t : BusTime) (hint : GrandTime) → OnBus t → InRange hint → Fails (ltb (next_of t hint).0 second) (NoneLeft t hint)
next_fails t hint on range =
    let n = next_is t hint on range.fraction in
    record {
      is = λ e. none_left t hint on range.fraction (ltb-false (next_of t hint).0 second e);
      not = λ e none. none (next_of t hint) (record { seconds = ltb-true (next_of t hint).0 second e; fraction = n.fraction }) n.fields n.after;
    }

pub inward_lowest : (t : BusTime) (hint : GrandTime) → Lowest (inward_conditions t hint) (answer_number (inward_of t hint))
unfolding inward_of
inward_lowest t hint =
    first_lowest 1 refl
    (checked_then answer_number (omega arith) refl refl (check_all (omega arith) refl (bus_check t) (grand_check hint))
    (λ e.
    let (b, g) = both_hold (is_bus t) (is_in_range hint) e in
    first_else answer_number (next_fails t hint (holds_bus t b) (holds_grand hint g)) (λ _. nowhere refl)))
