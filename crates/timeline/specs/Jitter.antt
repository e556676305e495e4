-- Samples of frames that are due at a steady interval and come earlier or later, and what it is that a reading lies between the oldest kept and the newest.
-- These two are one interval apart where two samples are kept, and two where three are.
use Rattle.std.specs.Prelude.{ℕ, ◌+◌, ◌-◌, ◌*◌, ◌≤◌}

-- a and b lie at most j from each other
abbrev pub Within : ℕ → ℕ → ℕ → Type 0
Within j a b = (a ≤ b + j) × (b ≤ a + j)

-- the newest sample was due so long before a departure, the oldest one so far apart before that; neither lies farther than the jitter from where it was due.
-- elapsed is from the newest sample to the departure, spread from the oldest to the newest one
pub record Jittered (due apart jitter elapsed spread : ℕ) : Type 0 where
  pub newest : Within jitter elapsed due
  pub oldest : Within jitter (elapsed + spread) (due + apart)

-- backTime before the departure lies between the two, or at one of them
abbrev pub Between : ℕ → ℕ → ℕ → Type 0
Between elapsed spread back = (elapsed ≤ back) × (back ≤ elapsed + spread)

-- wherever the jitter puts the samples, the reading lies between them
abbrev pub AlwaysBetween : ℕ → ℕ → ℕ → ℕ → Type 0
AlwaysBetween due apart jitter back = (elapsed spread : ℕ) → Jittered due apart jitter elapsed spread → Between elapsed spread back

-- where the newest sample was due, before the departure: Send is called wait after the departure, the last frame heard was due age before the call,
-- and the newest sample is that of the frame before it
abbrev pub due_of : ℕ → ℕ → ℕ → ℕ
due_of interval wait age = interval + age - wait

-- whatever the jitter, that last frame has come by the call, the next one comes no earlier than the call, and the reading lies between the samples
pub record CallBetween (interval apart jitter back wait age : ℕ) : Type 0 where
  pub came : jitter ≤ age
  pub next : age + jitter ≤ interval
  pub between : AlwaysBetween (due_of interval wait age) apart jitter back

-- calls at every phase, the jitter of a sample's frame aside: whatever the age of the last frame heard, the reading lies between the samples
abbrev pub EveryAge : ℕ → ℕ → ℕ → ℕ → ℕ → Type 0
EveryAge interval apart jitter back wait = (age : ℕ) → age ≤ interval → AlwaysBetween (due_of interval wait age) apart jitter back

-- a call as it comes about, by one clock: the oldest kept sample's frame was due at `first`, the newest's so far apart after it, the last frame heard an
-- interval later, and the next one an interval after that. Each came within the jitter, the last one by the call and the next one no earlier
pub record Course (interval apart jitter first oldest newest last next call : ℕ) : Type 0 where
  pub oldest_came : Within jitter oldest first
  pub newest_came : Within jitter newest (first + apart)
  pub last_came : Within jitter last (first + apart + interval)
  pub next_comes : Within jitter next (first + apart + interval * 2)
  pub heard : last ≤ call
  pub unheard : call ≤ next

-- the jitter may also decide which frame was the last one heard: whenever the call comes, wait and backTime before it lie between the samples
abbrev pub EveryCall : ℕ → ℕ → ℕ → ℕ → ℕ → Type 0
EveryCall interval apart jitter back wait =
    (first oldest newest last next call : ℕ) → Course interval apart jitter first oldest newest last next call
    → (oldest + (wait + back) ≤ call) × (call ≤ newest + (wait + back))
