-- Stamps at the edges: a table of cases that we chose, each with what the request's rule gives.
use Rattle.std.specs.Prelude.{List, [], ◌∷◌, ℕ, ◌+◌, ◌-◌, ◌*◌, ◌^◌, Option, Some, Result}
use Rattle.std.proofs.Math.Option.{Option as Carried, some, none}
use Rattle.refusals.specs.Answer.{answer_number, answer_value}
use Rattle.refusals.specs.Edge.{Edge}
use Rattle.refusals.specs.declared.Refusal.{Refusal}
use Rattle.times.specs.Times.{circle, second, grand_end, grand_of}
use Rattle.times.specs.declared.GrandTime.{GrandTime}
use Rattle.samples.specs.declared.Sample.{Sample}
use Rattle.samples.specs.declared.Ends.{Ends}
use Rattle.recorder.specs.Stamp.{latched, stamp_through}

-- the number of a stamp, and the grand time that it carries
abbrev pub Said : Type 0
Said = ℕ × Carried GrandTime

abbrev said : Result GrandTime Refusal → Said
said s = (answer_number s, answer_value s)

-- a sample of so many units of grand time and of local time
abbrev sample : ℕ → ℕ → Sample
sample grand local = record { grand = grand_of grand; local = latched local; error = record { 0 = 0 } }

-- two samples that lie 2^34 apart, the older one at the local time 0: grand time from `start` on, and what it gained between them
abbrev spread : ℕ
spread = 2 ^ 34

abbrev samples : ℕ → ℕ → Option Ends
samples start gained = Some (record { oldest = sample start 0; newest = sample (start + spread + gained) spread })

-- a gain of 2: the rate is 4, and floor(4 × distance / 2^35) is floor(distance / 2^33)
abbrev steady : Option Ends
steady = samples (100 * second) 2

-- the grand time of its newer sample
abbrev newer : ℕ
newer = 100 * second + spread + 2

-- samples at the first grand times, and at the last ones
abbrev first : Option Ends
first = samples 0 2

abbrev last : Option Ends
last = samples (grand_end - spread - spread) 0

-- a latch so far after the newer sample, or so far before it, round the circle
abbrev after : Option Ends → ℕ → Result GrandTime Refusal
after ends n = stamp_through ends (latched (spread + n))

abbrev before : Option Ends → ℕ → Result GrandTime Refusal
before ends n = stamp_through ends (latched (spread + circle - n))

abbrev stamped : Result GrandTime Refusal → ℕ → Edge Said
stamped s n = record { got = said s; says = (0, some (grand_of n)) }

abbrev refused : Result GrandTime Refusal → ℕ → Edge Said
refused s k = record { got = said s; says = (k, none) }

unfoldable pub edges : List (Edge Said)
edges =
    -- distance 0, 1, -1
    stamped (after steady 0) newer
    ∷ stamped (after steady 1) (newer + 1)
    ∷ stamped (before steady 1) (newer - 1 - 1)
    -- 2^39, -2^39, and one farther
    ∷ stamped (after steady (2 ^ 39)) (newer + 2 ^ 39 + 2 ^ 6)
    ∷ stamped (before steady (2 ^ 39)) (newer - 2 ^ 39 - 2 ^ 6)
    ∷ refused (after steady (2 ^ 39 + 1)) 12
    ∷ refused (before steady (2 ^ 39 + 1)) 12
    -- half way round the circle, where both ways are as long
    ∷ refused (after steady (2 ^ 47)) 12
    -- at zero, and below it
    ∷ stamped (before first spread) 0
    ∷ refused (before first (spread + 1)) 13
    -- at the last grand time, and beyond it
    ∷ stamped (after last (spread - 1)) (2 ^ 80 - 1)
    ∷ refused (after last spread) 13
    ∷ []
