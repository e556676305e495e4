-- A reading: what each call gives, as the next one reads it, and that it is small.
use mathlib.Core.Path.{◌≡◌, sym, ap, ◌∙◌}
use native.Mathlib.Omega.{arith}
use lib.IntN.{ℤ, pos, ◌+ℤ◌, +ℤ_assoc}
use mir.Syntax.{w64}
use mir.Val.{to_z, of_z}
use Rattle.times.specs.Times.{units, moment_of}
use Rattle.samples.specs.Rate.{advance_of}
use Rattle.numbers.proofs.Machine.{back, got}
use Rattle.samples.proofs.RateLaws.{advance_small}
use Rattle.timeline.proofs.Bound.{step_small}
use Rattle.timeline.proofs.reading.Goals as goal
use Rattle.timeline.proofs.reading.Goals.{After-add, After-advance-advance, After-from_unsigned, Start}

abbrev advance : Start → ℤ
advance s = advance_of s.args.rate s.args.x

-- the signed numbers that are passed on
rate-is : (s : Start) → to_z w64 (of_z w64 s.args.rate) ≡ s.args.rate
rate-is s = back s.args.rate s.ranges.rate

distance_is : (s : Start) → to_z w64 (of_z w64 s.args.x) ≡ s.args.x
distance_is s = back s.args.x s.ranges.x

advance-is : (c : After-advance-advance) → to_z w64 (of_z w64 c.advance-advance.result) ≡ advance c.before
advance-is c = got c.advance-advance.type_inv (c.advance-advance.ensures ∙ rw (rate-is c.before, distance_is c.before))

more-is : (c : After-from_unsigned) → to_z w64 (of_z w64 c.from_unsigned.result) ≡ pos c.before.before.args.more
more-is c = got c.from_unsigned.type_inv c.from_unsigned.ensures

step_is : (c : After-add) → to_z w64 (of_z w64 c.add.result) ≡ advance_of c.args.rate c.args.x +ℤ pos c.args.more
step_is c = got c.add.type_inv (c.add.ensures ∙ rw (advance-is c.before.before.before, more-is c.before))

pub advance-advance-requires : goal.advance-advance-requires
advance-advance-requires c = rw (rate-is c, distance_is c) (c.requires.rate_bound, c.requires.in_reach.read)

pub add-requires : goal.add-requires
add-requires c =
    rw (advance-is c.before.before, more-is c)
    (omega (arith, c.requires.in_reach.added, advance_small c.args.rate c.args.x c.requires.rate_bound c.requires.in_reach.read))

pub moved-requires : goal.moved-requires
moved-requires c =
    record {
      in_range = c.requires.in_range;
      x_bound = rw (step_is c) (step_small c.args.rate c.args.x c.args.more c.requires.rate_bound c.requires.in_reach);
    }

pub returns : goal.returns
returns c =
    c.moved.ensures
    ∙ rw (step_is c.before)
    (ap moment_of (sym (+ℤ_assoc (pos (units c.args.newest.grand)) (advance_of c.args.rate c.args.x) (pos c.args.more))))
