-- By how much arrivals may jitter for every reading of Send to lie between its samples: that much, and no more. Between them the line is off by no more than its samples are.
use mathlib.Core.Path.{◌≡◌, sym, ◌∙◌}
use Prim.Native.Nat.{ℕ, ◌+◌, ◌-◌, ◌*◌, ◌≤◌}
use native.Mathlib.Omega.{arith}
use lib.IntN.{pos, neg_ℤ, nat_abs, ◌-ℤ◌}
use Rattle.samples.specs.Keep.{spread_of}
use Rattle.samples.specs.declared.Sample.{Sample}
use Rattle.timeline.specs.Line.{line_at, off_of}
use Rattle.timeline.specs.Sent.{reach_of}
use Rattle.timeline.specs.Jitter.{Between, AlwaysBetween, due_of, CallBetween, EveryAge, EveryCall}
use Rattle.numbers.proofs.Ring.{same, neg_pos, minus_is}
use Rattle.timeline.proofs.Chain.{between_samples}

module _ (due apart jitter back : ℕ) where
  pub jitter_between : due + jitter ≤ back → back + jitter ≤ due + apart → AlwaysBetween due apart jitter back
  jitter_between after before elapsed spread j = (omega (arith, j.newest.0), omega (arith, j.oldest.1))

  -- by a newest sample that is early by the jitter, and by an oldest one that is late by it
  pub jitter_most : AlwaysBetween due apart jitter back → (due + jitter ≤ back) × (back + jitter ≤ due + apart)
  jitter_most between = (early.0, omega (arith, early.0, late.1))
    where
      nearer : (elapsed : ℕ) → due ≤ elapsed → elapsed ≤ due + jitter → Between elapsed (apart - jitter) back
      nearer elapsed l h = between elapsed (apart - jitter) (record { newest = (h, omega arith); oldest = (omega arith, omega arith) })

      early : Between (due + jitter) (apart - jitter) back
      early = nearer (due + jitter) (omega arith) (omega arith)

      late : Between due (apart - jitter) back
      late = nearer due (omega arith) (omega arith)

  -- no backTime is always read between the samples at a jitter of more than half of what they are apart
  pub jitter_half : AlwaysBetween due apart jitter back → jitter * 2 ≤ apart
  jitter_half between = omega (arith, (jitter_most between).0, (jitter_most between).1)

-- calls that come wait after a departure, and no later than the next one; the oldest and the newest sample are at least an interval apart
module _ (interval apart jitter back wait : ℕ) (soon : wait ≤ interval) (spaced : interval ≤ apart) where
  -- ---- some age of the last frame heard will do

  -- exactly if twice the jitter is at most interval, and wait + back keeps as far from interval and from 2 × interval + apart
  pub record Room : Type 0 where
    pub low : interval + jitter * 2 ≤ wait + back
    pub high : wait + back + jitter * 2 ≤ interval * 2 + apart
    pub half : jitter * 2 ≤ interval

  abbrev pub good_age : ℕ
  good_age = jitter + (wait + back - (interval + apart))

  pub call_between : Room → CallBetween interval apart jitter back wait good_age
  call_between room = record {
    came = omega arith;
    next = omega (arith, room.high, room.half);
    between =
        jitter_between (due_of interval wait good_age) apart jitter back (omega (arith, room.low, room.half, soon, spaced)) (omega (arith, room.low, soon));
  }

  pub call_most : (age : ℕ) → CallBetween interval apart jitter back wait age → Room
  call_most age c =
      let most = jitter_most (due_of interval wait age) apart jitter back c.between in
      record {
        low = omega (arith, soon, c.came, most.0);
        high = omega (arith, soon, c.next, most.1);
        half = omega (arith, c.came, c.next);
      }

  -- ---- every age will do

  -- exactly if wait + back lies the jitter inside 2 × interval and interval + apart
  pub ages_between : interval * 2 + jitter ≤ wait + back → wait + back + jitter ≤ interval + apart → EveryAge interval apart jitter back wait
  ages_between low high age young =
      jitter_between (due_of interval wait age) apart jitter back (omega (arith, low, young, soon)) (omega (arith, high, soon))

  pub ages_most : EveryAge interval apart jitter back wait → (interval * 2 + jitter ≤ wait + back) × (wait + back + jitter ≤ interval + apart)
  ages_most every =
      let oldest = jitter_most (due_of interval wait interval) apart jitter back (every interval (omega arith)) in
      let youngest = jitter_most (due_of interval wait 0) apart jitter back (every 0 (omega arith)) in
      (omega (arith, oldest.0, soon), omega (arith, youngest.1, soon))

  -- no backTime allows more than half of what the ends are apart beyond an interval
  pub ages_room : EveryAge interval apart jitter back wait → interval + jitter * 2 ≤ apart
  ages_room every = omega (arith, (ages_most every).0, (ages_most every).1)

  -- ---- and where the jitter also decides which frame was the last one heard, every call

  -- exactly if it lies twice the jitter inside them
  pub calls_between : interval * 2 + jitter * 2 ≤ wait + back → wait + back + jitter * 2 ≤ interval + apart → EveryCall interval apart jitter back wait
  calls_between low high first oldest newest last next call c =
      (omega (arith, high, c.oldest_came.0, c.last_came.1, c.heard), omega (arith, low, c.newest_came.1, c.next_comes.0, c.unheard))

  -- by a call as the last frame heard comes early, after an oldest sample that came late, and by one as the next frame comes late, after a newest that came early;
  -- the oldest sample's frame is due at the jitter, so that no time lies below zero
  pub calls_most : EveryCall interval apart jitter back wait → (interval * 2 + jitter * 2 ≤ wait + back) × (wait + back + jitter * 2 ≤ interval + apart)
  calls_most every = (omega (arith, late.1), omega (arith, early.0))
    where
      early : (jitter * 2 + (wait + back) ≤ apart + interval) × (apart + interval ≤ jitter + apart + (wait + back))
      early =
          every jitter (jitter * 2) (jitter + apart) (apart + interval) (jitter + apart + interval * 2) (apart + interval)
          (record {
            oldest_came = (omega arith, omega arith);
            newest_came = (omega arith, omega arith);
            last_came = (omega arith, omega arith);
            next_comes = (omega arith, omega arith);
            heard = omega arith;
            unheard = omega arith;
          })

      late : (jitter + (wait + back) ≤ jitter * 2 + apart + interval * 2) × (jitter * 2 + apart + interval * 2 ≤ apart + (wait + back))
      late =
          every jitter jitter apart (jitter + apart + interval) (jitter * 2 + apart + interval * 2) (jitter * 2 + apart + interval * 2)
          (record {
            oldest_came = (omega arith, omega arith);
            newest_came = (omega arith, omega arith);
            last_came = (omega arith, omega arith);
            next_comes = (omega arith, omega arith);
            heard = omega arith;
            unheard = omega arith;
          })

  -- and no backTime allows more than a quarter of what they are apart beyond an interval
  pub calls_room : EveryCall interval apart jitter back wait → interval + jitter * 4 ≤ apart
  calls_room every = omega (arith, (calls_most every).0, (calls_most every).1)

-- three samples, whose ends are two intervals apart: a backTime of two and a half intervals less the wait allows half an interval at every age, and a quarter at every call
module _ (quarter back wait : ℕ) (soon : wait ≤ quarter * 4) (middle : wait + back ≡ quarter * 10) where
  pub half_at_every_age : EveryAge (quarter * 4) (quarter * 8) (quarter * 2) back wait
  half_at_every_age = ages_between (quarter * 4) (quarter * 8) (quarter * 2) back wait soon (omega arith) (omega (arith, middle)) (omega (arith, middle))

  pub quarter_at_every_call : EveryCall (quarter * 4) (quarter * 8) quarter back wait
  quarter_at_every_call = calls_between (quarter * 4) (quarter * 8) quarter back wait soon (omega arith) (omega (arith, middle)) (omega (arith, middle))

-- what lying between the samples is good for: where each of them is off by at most m, so is the line that Send reads, both sides times S
pub sent_between : (a b a' b' : Sample) (m elapsed back : ℕ) → a'.local ≡ a.local → b'.local ≡ b.local
    → nat_abs (off_of a a') ≤ m → nat_abs (off_of b b') ≤ m → Between elapsed (spread_of a b) back
    → nat_abs (line_at a' b' (reach_of elapsed back) -ℤ line_at a b (reach_of elapsed back)) ≤ spread_of a b * m
sent_between a b a' b' m elapsed back older newer h0 h1 between =
    rw before (between_samples a b a' b' older newer m (back - elapsed) h0 h1 (omega (arith, between.1)))
  where
    before : reach_of elapsed back ≡ neg_ℤ (pos (back - elapsed))
    before = minus_is elapsed back ∙ same elapsed back 0 (back - elapsed) (omega (arith, between.0)) ∙ sym (neg_pos (back - elapsed))
