-- C-20's cases: how many samples are kept, how far apart their ends are, and the rate, at the limits of the newest and of the oldest that stays, with clocks that
-- bend; and what is sent off three.
use Rattle.std.specs.Prelude.{true, false, List, [], ◌∷◌, ℕ, ◌+◌, ◌-◌, ◌*◌, ◌^◌, ℤ, pos, Option, Some, None}
use Rattle.times.specs.Times.{second}
use Rattle.samples.specs.Keep.{spread_of, rate_between, kept_of, how_many, ends_of}
use Rattle.samples.specs.declared.Sample.{Sample}
use Rattle.samples.specs.declared.Samples.{Samples}
use Rattle.samples.specs.declared.Samples.TheVariants.{Empty}
use Rattle.samples.specs.declared.Ends.{Ends}
use Rattle.timeline.specs.Sent.{sent_of}
use Rattle.port.specs.Edges.{Row, row, minus, local, sample, sent}

-- what is kept of samples of one clock that come one after the other
abbrev kept_after : Samples → List Sample → Samples
kept_after old [] = old
kept_after old (new ∷ more) = kept_after (kept_of old true new) more

abbrev kept : List Sample → Samples
kept samples = kept_after Empty samples

-- a sample at this local time of a clock that has gained, or lost, so much by then
abbrev gained : ℕ → ℕ → Sample
gained r d = sample (100 * second + r + d) r

abbrev lost : ℕ → ℕ → Sample
lost r d = sample (100 * second + r - d) r

-- a sample of a clock that goes at our rate
abbrev even : ℕ → Sample
even r = gained r 0

-- how many are kept; how far their ends are apart, and the rate between them, 0 where there is no line
abbrev many : List Sample → ℤ
many samples = pos (how_many (kept samples))

abbrev spread : Option Ends → ℤ
spread None = pos 0
spread (Some ends) = pos (spread_of ends.oldest ends.newest)

abbrev rate : Option Ends → ℤ
rate None = pos 0
rate (Some ends) = rate_between ends.oldest ends.newest

abbrev apart : List Sample → ℤ
apart samples = spread (ends_of (kept samples))

abbrev rated : List Sample → ℤ
rated samples = rate (ends_of (kept samples))

-- a stretch of 4,000,000,000 U, over which a clock may gain or lose 1,000,000
abbrev stretch : ℕ
stretch = 4000000000

abbrev most : ℕ
most = 1000000

unfoldable pub three_cases_of : List Row
three_cases_of =
    -- one, two, three, and no more: the oldest goes
    row (many (even 0 ∷ [])) (pos 1)
    ∷ row (many (even 0 ∷ even (2 ^ 34) ∷ [])) (pos 2)
    ∷ row (many (even 0 ∷ even (2 ^ 34) ∷ even (2 * 2 ^ 34) ∷ [])) (pos 3)
    ∷ row (many (even 0 ∷ even (2 ^ 34) ∷ even (2 * 2 ^ 34) ∷ even (3 * 2 ^ 34) ∷ [])) (pos 3)
    ∷ row (apart (even 0 ∷ even (2 ^ 34) ∷ [])) (pos (2 ^ 34))
    ∷ row (apart (even 0 ∷ even (2 ^ 34) ∷ even (2 * 2 ^ 34) ∷ [])) (pos (2 * 2 ^ 34))
    ∷ row (apart (even 0 ∷ even (2 ^ 34) ∷ even (2 * 2 ^ 34) ∷ even (3 * 2 ^ 34) ∷ [])) (pos (2 * 2 ^ 34))
    -- S from the oldest that stays, 2^39 and 2^39 + 1, where the newest takes both
    ∷ row (many (even 0 ∷ even (2 ^ 38) ∷ even (2 ^ 39) ∷ [])) (pos 3)
    ∷ row (many (even 0 ∷ even (2 ^ 38) ∷ even (2 ^ 39 + 1) ∷ [])) (pos 1)
    ∷ row (many (even (2 ^ 38) ∷ even (2 ^ 39 + 1) ∷ [])) (pos 2)
    -- the oldest that goes is not asked
    ∷ row (many (even 0 ∷ even (2 ^ 38) ∷ even (2 ^ 39) ∷ even (3 * 2 ^ 38) ∷ [])) (pos 3)
    ∷ row (many (even 0 ∷ even (2 ^ 38) ∷ even (2 ^ 39) ∷ even (3 * 2 ^ 38 + 1) ∷ [])) (pos 1)
    -- S from the newest, 2^30 and 2^30 - 1, where the oldest that stays would take both
    ∷ row (many (even 0 ∷ even (2 ^ 34) ∷ even (2 ^ 34 + 2 ^ 30) ∷ [])) (pos 3)
    ∷ row (many (even 0 ∷ even (2 ^ 34) ∷ even (2 ^ 34 + 2 ^ 30 - 1) ∷ [])) (pos 1)
    -- a clock that bends: gains all that it may, then loses it again
    ∷ row (many (even 0 ∷ gained stretch most ∷ even (2 * stretch) ∷ [])) (pos 3)
    ∷ row (rated (even 0 ∷ gained stretch most ∷ [])) (pos 8589935)
    ∷ row (rated (even 0 ∷ gained stretch most ∷ even (2 * stretch) ∷ [])) (pos 0)
    ∷ row (rated (gained stretch most ∷ even (2 * stretch) ∷ [])) (minus 8589935)
    -- one unit more is too much for the newest, and as much for the oldest that stays
    ∷ row (many (even 0 ∷ gained stretch most ∷ lost (2 * stretch) 1 ∷ [])) (pos 1)
    ∷ row (many (even 0 ∷ gained stretch most ∷ gained (2 * stretch) (2 * most) ∷ [])) (pos 3)
    ∷ row (many (even 0 ∷ gained stretch most ∷ gained (2 * stretch) (2 * most + 1) ∷ [])) (pos 1)
    -- a clock that bends, of which the newest takes what the oldest that stays does not
    ∷ row (many (even 0 ∷ gained (2 ^ 38) most ∷ lost (2 ^ 39 + 1) most ∷ [])) (pos 1)
    ∷ row (many (gained (2 ^ 38) most ∷ lost (2 ^ 39 + 1) most ∷ [])) (pos 2)
    -- across the circle's start
    ∷ row (apart (sample (100 * second) (2 ^ 48 - 2 ^ 34) ∷ sample (100 * second + 2 ^ 34) 0 ∷ sample (100 * second + 2 * 2 ^ 34) (2 ^ 34) ∷ [])) (pos (2 * 2 ^ 34))
    -- another clock's sample, where three are kept
    ∷ row (pos (how_many (kept_of (kept (even 0 ∷ even (2 ^ 34) ∷ even (2 * 2 ^ 34) ∷ [])) false (even (3 * 2 ^ 34))))) (pos 1)
    -- sent 2^34 after the newest sample: of one sample 11, of two, and of the clock that bent, off the line from end to end
    ∷ row (sent (sent_of (kept (even 0 ∷ [])) (local (2 ^ 34)) 0 0)) (minus 11)
    ∷ row (sent (sent_of (kept (even 0 ∷ gained stretch most ∷ [])) (local (stretch + 2 ^ 34)) 0 0)) (pos (100 * second + stretch + most + 2 ^ 34 + 4294967))
    ∷ row (sent (sent_of (kept (even 0 ∷ gained stretch most ∷ even (2 * stretch) ∷ [])) (local (2 * stretch + 2 ^ 34)) 0 0)) (pos (100 * second + 2 * stretch + 2 ^ 34))
    ∷ []
