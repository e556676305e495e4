-- Step 2, the link delay.
use Rattle.std.specs.Prelude.{cond, ◌&&◌, ℕ, ◌^◌, leb, eqb, Result, Ok, Err, ℤ, pos, ◌-ℤ◌}
use Rattle.refusals.specs.declared.Refusal.{Refusal}
use Rattle.refusals.specs.declared.Refusal.TheVariants.{DelayTooLong}
use Rattle.numbers.specs.Whole.{floor_div, at_least_zero}
use Rattle.times.specs.Times.{since_of}
use Rattle.times.specs.declared.LocalTime.{LocalTime}
use Rattle.samples.specs.Rate.{advance_of}
use Rattle.delay.specs.declared.DelaySetting.{DelaySetting}
use Rattle.delay.specs.declared.DelaySetting.TheVariants.{Measured, Fixed}

-- the longest round trip and turn, and the longest delay
abbrev pub longest_trip : ℕ
longest_trip = 2 ^ 39

abbrev pub longest_delay : ℕ
longest_delay = 2 ^ 30

-- half of what the round trip has beyond the neighbour's turn, in units of the local clock, and no less than 0
unfoldable pub delay_of : ℤ → ℕ → ℕ → ℕ
delay_of rate trip turn = at_least_zero (floor_div (pos trip -ℤ advance_of rate (pos turn)) 2)

-- the delay, unless a part of it is too long
unfoldable pub measured_of : ℤ → ℕ → ℕ → Result ℕ Refusal
measured_of rate trip turn =
    cond (leb trip longest_trip && leb turn longest_trip && leb (delay_of rate trip turn) longest_delay) (Ok (delay_of rate trip turn)) (Err DelayTooLong)

-- by the port's setting: fixed; or measured, and 0 where the neighbour has heard nothing yet
unfoldable pub link_delay_of : DelaySetting → ℤ → LocalTime → LocalTime → LocalTime → LocalTime → Result ℕ Refusal
link_delay_of (Fixed n) rate local p tx rx = Ok n
link_delay_of Measured rate local p tx rx =
    cond (eqb tx.0 0 && eqb rx.0 0) (Ok 0) (measured_of rate (since_of p tx) (since_of local rx))
