-- The default backTime is 15 ms, and what jitter it allows with frames that come each 10 ms: in a station whose departures are in step with them, and at every phase.
use mathlib.Core.Path.{◌≡◌, refl}
use Prim.Native.Nat.{ℕ, ◌+◌, ◌*◌, ◌/◌, ◌≤◌}
use native.Mathlib.Omega.{arith}
use lib.Dec.{lit≤}
use lib.IntN.{ℤ, pos}
use Rattle.numbers.specs.Whole.{nearest_div}
use Rattle.times.specs.Times.{second}
use Rattle.timeline.specs.Jitter.{AlwaysBetween, CallBetween, EveryAge, EveryCall}
use Rattle.bridge.specs.Setup.{default_back}
use Rattle.timeline.proofs.Jitter.{jitter_between, jitter_most, good_age, call_between, call_most, ages_between, ages_most, ages_room, calls_between, calls_room}

-- so many milliseconds in units, to the nearest one
abbrev pub milliseconds : ℕ → ℤ
milliseconds n = nearest_div (pos (n * second)) 1000

pub default_is : pos default_back ≡ milliseconds 15
default_is = refl

-- the usual interval of frames, 10 ms
abbrev pub interval : ℕ
interval = 10995116278

pub interval_is : pos interval ≡ milliseconds 10
interval_is = refl

-- the largest jitter, 5 ms
abbrev pub jitter : ℕ
jitter = 5497558139

pub jitter_is : pos jitter ≡ milliseconds 5
jitter_is = refl

-- in step: the newest sample is due an interval before the departure, and the oldest one or two before that, as two samples are kept or three
pub default_between : (apart : ℕ) → interval ≤ apart → AlwaysBetween interval apart jitter default_back
default_between apart spaced = jitter_between interval apart jitter default_back (lit≤ tt) (omega (arith, spaced))

-- and no more, however far apart they are
pub default_most : (apart j : ℕ) → AlwaysBetween interval apart j default_back → j ≤ jitter
default_most apart j between = omega (arith, (jitter_most interval apart j default_back between).0)

-- a backTime of one interval allows no jitter, and one of two intervals a whole one where three samples are kept
pub interval_most : (apart j : ℕ) → AlwaysBetween interval apart j interval → j ≤ 0
interval_most apart j between = omega (arith, (jitter_most interval apart j interval between).0)

pub two_intervals : AlwaysBetween interval (interval * 2) interval (interval * 2)
two_intervals = jitter_between interval (interval * 2) interval (interval * 2) (lit≤ tt) (lit≤ tt)

-- whenever the call comes, the default allows 2.5 ms, at a good age of the last frame heard
abbrev pub quarter : ℕ
quarter = interval / 4

pub default_calls : (apart wait : ℕ) (spaced : interval ≤ apart) (soon : wait ≤ interval)
    → CallBetween interval apart quarter default_back wait (good_age interval apart quarter default_back wait soon spaced)
default_calls apart wait spaced soon =
    call_between interval apart quarter default_back wait soon spaced (record { low = omega arith; high = omega (arith, spaced, soon); half = lit≤ tt })

-- a backTime of one interval allows none at any age where the call comes as soon as the preceding frame has left
pub interval_calls : (apart j age : ℕ) (spaced : interval ≤ apart) → CallBetween interval apart j interval 0 age → j ≤ 0
interval_calls apart j age spaced c = omega (arith, (call_most interval apart j interval 0 (lit≤ tt) spaced age c).low)

-- ---- with three samples, calls at every phase: a backTime of two and a half intervals less the wait

-- half an interval of jitter at every age of the last frame heard; the default is that backTime where the call comes just before the next frame leaves
pub default_ages : EveryAge interval (interval * 2) jitter default_back interval
default_ages = ages_between interval (interval * 2) jitter default_back interval (lit≤ tt) (lit≤ tt) (lit≤ tt) (lit≤ tt)

pub ages_half : (j back wait : ℕ) → wait ≤ interval → EveryAge interval (interval * 2) j back wait → j ≤ jitter
ages_half j back wait soon every = omega (arith, ages_room interval (interval * 2) j back wait soon (lit≤ tt) every)

-- a quarter where the jitter also decides which frame was the last one heard
pub default_every_call : EveryCall interval (interval * 2) quarter default_back interval
default_every_call = calls_between interval (interval * 2) quarter default_back interval (lit≤ tt) (lit≤ tt) (lit≤ tt) (lit≤ tt)

pub calls_quarter : (j back wait : ℕ) → wait ≤ interval → EveryCall interval (interval * 2) j back wait → j ≤ quarter
calls_quarter j back wait soon every = omega (arith, calls_room interval (interval * 2) j back wait soon (lit≤ tt) every)

-- two samples have no jitter to spare at every age: wait + back is two intervals, and the arrivals are exact
pub two_ages : (j back wait : ℕ) → wait ≤ interval → EveryAge interval interval j back wait → (j ≤ 0) × (wait + back ≡ interval * 2)
two_ages j back wait soon every =
    let most = ages_most interval interval j back wait soon (omega arith) every in
    (omega (arith, most.0, most.1), omega (arith, most.0, most.1))
