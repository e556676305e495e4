-- The sample's own errorTime over no stretch, and else the sum of two signed numbers that are small.
use mathlib.Core.Path.{◌≡◌, sym, ap, ◌∙◌}
use Prim.Native.Nat.{ℕ}
use native.Mathlib.Omega.{arith}
use lib.IntN.{pos, ◌+ℤ◌}
use mir.Syntax.{w64}
use mir.Val.{to_z, of_z}
use Rattle.times.specs.Times.{error_of, error_time_of}
use Rattle.samples.specs.Rate.{scaled_of}
use Rattle.timeline.specs.Sent.{error_by}
use Rattle.numbers.proofs.Machine.{back, got}
use Rattle.times.proofs.ErrorLaws.{error_back}
use Rattle.timeline.proofs.SentLaws.{no_stretch, error_small}
use Rattle.timeline.proofs.departure.error_after.Goals as goal
use Rattle.timeline.proofs.departure.error_after.Goals.{After-from_unsigned, After-scaled-gain, After-signed}

pub returns-then-stretch-eq0 : goal.returns-then-stretch-eq0
returns-then-stretch-eq0 c =
    error_back c.args.newest.error c.requires.error_bound
    ∙ ap error_time_of (sym (no_stretch c.args.rate c.args.newest))
    ∙ ap (λ (n : ℕ). error_time_of (error_by c.args.rate c.args.newest n)) (sym c.if-stretch-eq0.true)

-- the signed numbers that are passed on
stretch-is : (c : After-from_unsigned) → to_z w64 (of_z w64 c.from_unsigned.result) ≡ pos c.args.stretch
stretch-is c = got c.from_unsigned.type_inv c.from_unsigned.ensures

gain-is : (c : After-scaled-gain) → to_z w64 (of_z w64 c.scaled-gain.result) ≡ scaled_of c.args.rate (pos c.args.stretch)
gain-is c = got c.scaled-gain.type_inv (c.scaled-gain.ensures ∙ rw (back c.args.rate c.ranges.rate, stretch-is c.before))

heard-is : (c : After-signed) → to_z w64 (of_z w64 c.signed.result) ≡ error_of c.args.newest.error
heard-is c = got c.signed.type_inv c.signed.ensures

pub scaled-gain-requires : goal.scaled-gain-requires
scaled-gain-requires c =
    rw (back c.args.rate c.ranges.rate, stretch-is c) (c.requires.rate_bound, omega (arith, c.requires.stretch_lt_longest_elapsed))

pub add-requires : goal.add-requires
add-requires c =
    rw (heard-is c, gain-is (goal.at.add-requires c).After-scaled-gain) (error_small c.args.rate c.args.newest c.args.stretch c.requires.rate_bound c.requires.stretch_lt_longest_elapsed)

pub returns : goal.returns
returns c =
    let at = goal.at.returns c in
    let sum = got c.add.type_inv (c.add.ensures ∙ (λ i. heard-is at.After-signed i +ℤ gain-is at.After-scaled-gain i)) in
    c.of_signed.ensures ∙ ap error_time_of sum
