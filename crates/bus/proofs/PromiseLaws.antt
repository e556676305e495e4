-- What each call hands back: its promise from its equation; and ticks by the ratio in smaller numbers.
use mathlib.Core.Path.{◌≡◌, refl}
use mathlib.Core.Bool.{◌&&◌}
use Prim.Native.Nat.{ℕ, ◌^◌}
use native.Mathlib.Omega.{arith}
use lib.Dec.{ltb}
use Rattle.std.proofs.Common.{Result, Ok, Err}
use Rattle.refusals.specs.declared.Refusal.{Refusal}
use Rattle.refusals.specs.declared.Refusal.TheVariants.{OutOfRange, BeyondRange}
use Rattle.refusals.specs.Promises.{AnswerPromise}
use Rattle.times.specs.Times.{second, is_in_range}
use Rattle.times.specs.Parts.{part_of, least_of}
use Rattle.times.specs.declared.GrandTime.{GrandTime}
use Rattle.bus.specs.Bus.{second_ticks, is_bus, tick_of, bus_time_of, outward_of, outward_refusal, next_of, before_end, inward_of, inward_refusal, cycle_time_of, register_of, register_refusal}
use Rattle.bus.specs.declared.BusTime.{BusTime}
use Rattle.bus.specs.declared.CycleTime.{CycleTime}
use Rattle.times.proofs.PartLaws.{part_common, least_common}
use Rattle.refusals.proofs.PromiseLaws.{as_told, test_told}

-- ---- 24,576,000 = 375 × 2^16 and 2^40 = 2^24 × 2^16: with 2^16 taken out of both, the products have at most 49 bits

pub tick_is : (fraction : ℕ) → part_of 375 (2 ^ 24) fraction ≡ tick_of fraction
tick_is = part_common 375 (2 ^ 24) (2 ^ 16) (omega arith)

pub least_is : (tick : ℕ) → least_of 375 (2 ^ 24) tick ≡ least_of second_ticks second tick
least_is = least_common 375 (2 ^ 24) (2 ^ 16) (omega arith) (omega arith) (omega arith)

-- ---- as promised

pub outward_out : (g : GrandTime) {r : Result BusTime Refusal} → r ≡ outward_of g → AnswerPromise (outward_of g) (outward_refusal g) (bus_time_of g) r
unfolding outward_of
outward_out g =
    let t = bus_time_of g in
    as_told t (test_told t (Ok t) (Err OutOfRange) (refl, refl) (refl, refl) (is_in_range g))

pub inward_out : (t : BusTime) (hint : GrandTime) {r : Result GrandTime Refusal} → r ≡ inward_of t hint
    → AnswerPromise (inward_of t hint) (inward_refusal t hint) (next_of t hint) r
unfolding inward_of
inward_out t hint =
    let g = next_of t hint in
    as_told g
    (test_told g (before_end g) (Err OutOfRange) (test_told g (Ok g) (Err BeyondRange) (refl, refl) (refl, refl) (ltb g.0 second)) (refl, refl) (is_bus t && is_in_range hint))

pub register_out : (t : BusTime) {r : Result CycleTime Refusal} → r ≡ register_of t
    → AnswerPromise (register_of t) (register_refusal t) (cycle_time_of t) r
unfolding register_of
register_out t =
    let r = cycle_time_of t in
    as_told r (test_told r (Ok r) (Err OutOfRange) (refl, refl) (refl, refl) (is_bus t))
