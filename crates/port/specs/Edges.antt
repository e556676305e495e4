-- The paper's numbers at the edges: every marked line in the paper's order, one table.
use Rattle.std.specs.Prelude.{true, List, [], ◌∷◌, ℕ, ◌+◌, ◌-◌, ◌*◌, ◌^◌, ℤ, pos, neg_ℤ, None, Result, Ok, Err}
use Rattle.refusals.specs.Refusals.{number_of}
use Rattle.refusals.specs.declared.Refusal.{Refusal}
use Rattle.times.specs.Times.{second, since_of, units, grand_of}
use Rattle.choice.specs.Hop.{hop_of}
use Rattle.choice.specs.Choose.{chosen_hop}
use Rattle.times.specs.declared.LocalTime.{LocalTime}
use Rattle.samples.specs.Rate.{rate_of, scaled_of}
use Rattle.samples.specs.Keep.{kept_of, how_many}
use Rattle.samples.specs.declared.Sample.{Sample}
use Rattle.samples.specs.declared.Samples.{Samples}
use Rattle.samples.specs.declared.Samples.TheVariants.{One}
use Rattle.delay.specs.Delay.{delay_of}
use Rattle.timeline.specs.Sent.{sent_of}
use Rattle.timeline.specs.declared.Sent.{Sent}

-- what the definitions give, and what the paper says
pub record Row : Type 0 where
  pub got : ℤ
  pub says : ℤ

abbrev pub row : ℤ → ℤ → Row
row g s = record { got = g; says = s }

abbrev pub minus : ℕ → ℤ
minus n = neg_ℤ (pos n)

abbrev pub local : ℕ → LocalTime
local n = record { 0 = n }

-- a sample of so many units of grand time and of local time
abbrev pub sample : ℕ → ℕ → Sample
sample g r = record { grand = grand_of g; local = local r; error = record { 0 = 0 } }

-- what step 4 keeps of a sample, and of the next one of the same clock
abbrev kept : Sample → Sample → Samples
kept a b = kept_of (One a) true b

-- what it keeps where grand time gained d over a spread S, both whole numbers of units
abbrev gaining : ℕ → ℕ → Samples
gaining d s = kept (sample 0 0) (sample (s + d) s)

-- how many samples are kept: two, or the new one alone
abbrev many : Samples → ℤ
many samples = pos (how_many samples)

-- the units of a sent time, or a refusal's number below zero
abbrev pub sent : Result Sent Refusal → ℤ
sent (Ok times) = pos (units times.grand)
sent (Err refusal) = minus (number_of refusal)

-- g1 = 100 s + 2^34 + 2, d 2, S 2^34, and r1 = 2^34
abbrev line : Samples
line = kept (sample (100 * second) 0) (sample (100 * second + 2 ^ 34 + 2) (2 ^ 34))

unfoldable pub table : List Row
table =
    -- d 1, S 2^34, and u 2^30, -2^30
    row (rate_of (pos 1) (2 ^ 34)) (pos 2)
    ∷ row (scaled_of (rate_of (pos 1) (2 ^ 34)) (pos (2 ^ 30))) (pos 0)
    ∷ row (scaled_of (rate_of (pos 1) (2 ^ 34)) (minus (2 ^ 30))) (minus 1)
    -- d 1, -1, S 2^36: halves
    ∷ row (rate_of (pos 1) (2 ^ 36)) (pos 1)
    ∷ row (rate_of (minus 1) (2 ^ 36)) (pos 0)
    -- S 4,000,000,000: d 1,000,000 is kept, and what the rates are
    ∷ row (many (gaining 1000000 4000000000)) (pos 2)
    ∷ row (rate_of (pos 1000000) 4000000000) (pos 8589935)
    ∷ row (rate_of (minus 1000000) 4000000000) (minus 8589935)
    -- the same S, d 1,000,001: alone
    ∷ row (many (gaining 1000001 4000000000)) (pos 1)
    -- r0 = 2^48 - 2^33, r1 = 2^33
    ∷ row (pos (since_of (local (2 ^ 33)) (local (2 ^ 48 - 2 ^ 33)))) (pos (2 ^ 34))
    -- delays: rate, round trip, turn
    ∷ row (pos (delay_of (pos 0) 7 2)) (pos 2)
    ∷ row (pos (delay_of (pos 0) 5 9)) (pos 0)
    ∷ row (pos (delay_of (minus 1) 2 1)) (pos 1)
    -- hops: h, H
    ∷ row (pos (hop_of 2 3)) (pos 3)
    ∷ row (pos (hop_of 3 2)) (pos 129)
    ∷ row (pos (hop_of 3 (chosen_hop None))) (pos 4)
    ∷ row (pos (hop_of 253 10)) (pos 254)
    ∷ row (pos (hop_of 254 10)) (pos 255)
    -- backTime 2^33, t = r1 + 2^34
    ∷ row (sent (sent_of line (local (2 ^ 34 + 2 ^ 34)) (2 ^ 33) 0)) (pos (100 * second + 34359738371))
    ∷ []
