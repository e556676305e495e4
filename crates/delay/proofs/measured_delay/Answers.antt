-- Each limit is tested in turn, and each arm is a case of the measured delay.
use Rattle.std.proofs.Common.{rules, ◌≡◌, ◌∙◌, arith}
use Rattle.delay.specs.Delay.{delay_of}
use Rattle.numbers.proofs.Machine.{back}
use Rattle.delay.proofs.DelayLaws.{measured_is, measured_long}
use Rattle.delay.proofs.measured_delay.Goals as goal
use Rattle.delay.proofs.measured_delay.Goals.{After-half_trip-delay}

delay-is : (c : After-half_trip-delay) → c.half_trip-delay.result ≡ delay_of c.args.rate c.args.trip c.args.turn
delay-is c = c.half_trip-delay.ensures ∙ rw (back c.args.rate c.ranges.rate)

pub returns-then-trip-gt-LONGEST_TRIP : goal.returns-then-trip-gt-LONGEST_TRIP
returns-then-trip-gt-LONGEST_TRIP c = measured_long _ _ _ (λ h k l. omega (arith, c.then-trip-gt-LONGEST_TRIP.either))

pub returns-then-delay-gt-LONGEST_DELAY : goal.returns-then-delay-gt-LONGEST_DELAY
returns-then-delay-gt-LONGEST_DELAY c = measured_long _ _ _ (λ h k l. omega (arith, delay-is c.before))

pub returns-else-delay-gt-LONGEST_DELAY : goal.returns-else-delay-gt-LONGEST_DELAY
returns-else-delay-gt-LONGEST_DELAY c = rw (delay-is c.before) (measured_is _ _ _ (search rules) (search rules) (omega (arith, delay-is c.before)))
