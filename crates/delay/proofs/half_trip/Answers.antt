-- What each call gives, as the next one reads it, and that it fits.
use mathlib.Core.Path.{◌≡◌, ap, ◌∙◌}
use native.Mathlib.Omega.{arith}
use lib.IntN.{ℤ, pos, ◌-ℤ◌}
use mir.Syntax.{w64}
use mir.Val.{to_z, of_z}
use Rattle.numbers.specs.Whole.{floor_div, at_least_zero}
use Rattle.samples.specs.Rate.{advance_of}
use Rattle.delay.specs.Delay.{delay_of}
use Rattle.numbers.proofs.Machine.{back, got}
use Rattle.samples.proofs.RateLaws.{advance_small}
use Rattle.delay.proofs.half_trip.Goals as goal
use Rattle.delay.proofs.half_trip.Goals.{After-advance-here, After-from_unsigned, After-from_unsigned-2, After-sub-both, Start}

-- the neighbour's turn in units of the local clock
abbrev here : Start → ℤ
here s = advance_of s.args.rate (pos s.args.turn)

rate-is : (s : Start) → to_z w64 (of_z w64 s.args.rate) ≡ s.args.rate
rate-is s = back s.args.rate s.ranges.rate

turn_is : (c : After-from_unsigned) → to_z w64 (of_z w64 c.from_unsigned.result) ≡ pos c.before.args.turn
turn_is c = got c.from_unsigned.type_inv c.from_unsigned.ensures

here-is : (c : After-advance-here) → to_z w64 (of_z w64 c.advance-here.result) ≡ here c.before.before
here-is c = got c.advance-here.type_inv (c.advance-here.ensures ∙ rw (rate-is c.before.before, turn_is c.before))

trip-is : (c : After-from_unsigned-2) → to_z w64 (of_z w64 c.from_unsigned-2.result) ≡ pos c.before.before.before.args.trip
trip-is c = got c.from_unsigned-2.type_inv c.from_unsigned-2.ensures

both_is : (c : After-sub-both) → let s = c.before.before.before.before in to_z w64 (of_z w64 c.sub-both.result) ≡ pos s.args.trip -ℤ here s
both_is c = got c.sub-both.type_inv (c.sub-both.ensures ∙ rw (trip-is c.before, here-is c.before.before))

pub advance-here-requires : goal.advance-here-requires
advance-here-requires c = rw (rate-is c.before, turn_is c) (c.before.requires.0, c.before.requires.2)

pub sub-both-requires : goal.sub-both-requires
sub-both-requires c =
    let s = c.before.before.before in
    rw (trip-is c, here-is c.before) (omega (arith, s.requires.1, advance_small s.args.rate (pos s.args.turn) s.requires.0 s.requires.2))

pub returns : goal.returns
unfolding delay_of
returns c =
    let h = c.before in
    c.at_least_zero.ensures
    ∙ ap at_least_zero (got h.floor_div.type_inv (h.floor_div.ensures ∙ ap (λ (z : ℤ). floor_div z 2) (both_is h.before)))
