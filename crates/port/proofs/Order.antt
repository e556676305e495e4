-- The order of refusals of a record: 7, 8, 9 for a frame, 8 for a reading of the own clock, 10 to 13 for a departure.
use mathlib.Core.Path.{◌≡◌, refl, sym, ap, ◌∙◌}
use Rattle.std.proofs.Common.{Option, Some, None, Result, Ok, Err}
use mathlib.Core.Bool.{Bool, true, false, cond, ◌&&◌}
use mathlib.Core.List.{List, [], ◌∷◌}
use mathlib.Core.Logic.{inl, inr, ⊎_elim}
use Prim.Native.Nat.{ℕ, ◌+◌, ◌-◌, ◌%◌, ◌^◌, ◌<◌, ◌≤◌}
use native.Mathlib.Omega.{arith}
use lib.Dec.{ltb, leb, eqb, lt→ltb, ltb→lt}
use lib.IntN.{ℤ, pos, negsuc, nat_abs}
use lib.Signed.{mag, lt_z_yes}
use borrow.Author.Tests.{eqb-true, eqb-false, ltb-true, ltb-false}
use Rattle.refusals.specs.Answer.{answer_number}
use Rattle.refusals.specs.declared.Refusal.{Refusal}
use Rattle.refusals.specs.declared.Refusal.TheVariants as Refusals
use Rattle.refusals.specs.Order.{Condition, First, nowhere, here, later, given}
use Rattle.numbers.specs.Whole.{at_least_zero}
use Rattle.times.specs.Times.{since_of, grand_of, moment_of, error_time_of}
use Rattle.times.specs.declared.LocalTime.{LocalTime}
use Rattle.times.specs.declared.GrandTime.{GrandTime}
use Rattle.times.specs.declared.ErrorTime.{ErrorTime}
use Rattle.samples.specs.Rate.{neighbour_rate_of}
use Rattle.samples.specs.Keep.{rate_between, how_many, ends_of, LawfulSamples}
use Rattle.samples.specs.declared.Samples.{Samples}
use Rattle.samples.specs.declared.Ends.{Ends}
use Rattle.delay.specs.Delay.{longest_trip, longest_delay, delay_of, measured_of, link_delay_of}
use Rattle.delay.specs.declared.DelaySetting.{DelaySetting}
use Rattle.delay.specs.declared.DelaySetting.TheVariants.{Measured, Fixed}
use Rattle.timeline.specs.Sent.{longest_elapsed, sent_time, error_by, sent_error, sent_as_of, sent_through_of, sent_of}
use Rattle.timeline.specs.declared.Sent.{Sent}
use Rattle.choice.specs.declared.Precedence.{Precedence}
use Rattle.choice.specs.declared.Candidate.{Candidate}
use Rattle.frame.specs.declared.Fields.{Fields}
use Rattle.port.specs.Own.{own_reading_by, own_reading_of}
use Rattle.port.specs.Receive.{delayed_by, followed_by_of, counted_by, received_as, received_of}
use Rattle.port.specs.Send.{stretch_of, sending_by, clock_sending, profile_sending, sending_of}
use Rattle.port.specs.Order.{NotNext, TooLong, MeasuredTooLong, DelayTooLong, frame_conditions, reading_conditions, TooLate, BeyondEnd, BeyondBits, ErrorBeyond, departure_conditions}
use Rattle.port.specs.declared.Setting.{Setting}
use Rattle.port.specs.declared.Profile.{Profile}
use Rattle.port.specs.declared.Profile.TheVariants.{Full, Listener}
use Rattle.port.specs.declared.Sender.{Sender}
use Rattle.port.specs.declared.Preceding.{Preceding}
use Rattle.port.specs.declared.Preceding.TheVariants.{Never, Was}
use Rattle.port.specs.declared.Port.{Port}
use Rattle.port.specs.declared.OwnClock.{OwnClock}
use Rattle.port.specs.declared.Outcome.{Outcome}
use Rattle.refusals.proofs.Order.{same_number, Tells, Fails, less_fails, most_fails, same_tells, same_fails, both_tell, either_fails, fails_same, first_if, first_else}
use Rattle.samples.proofs.KeepLaws.{few_ends, both_ends, ends_lawful}
use Rattle.times.proofs.ErrorLaws.{error_back}
use Rattle.timeline.proofs.SentLaws.{no_stretch, sent_units}

-- ---- a frame

-- 9 by the delay
delay_order : (setting : DelaySetting) (rate : ℤ) (local p tx rx : LocalTime)
    → First (answer_number (link_delay_of setting rate local p tx rx)) (given 9 (MeasuredTooLong setting rate local p tx rx) ∷ [])
unfolding link_delay_of measured_of
delay_order (Fixed delay) rate local p tx rx = later _ _ (λ h. h) (nowhere refl)
delay_order Measured rate local p tx rx = by (eqb tx.0 0 && eqb rx.0 0) (leb trip longest_trip && leb turn longest_trip && leb delay longest_delay) refl refl
  where
    trip : ℕ
    trip = since_of p tx

    turn : ℕ
    turn = since_of local rx

    delay : ℕ
    delay = delay_of rate trip turn

    unheard : Tells (eqb tx.0 0 && eqb rx.0 0) ((tx.0 ≡ 0) × (rx.0 ≡ 0))
    unheard = both_tell (same_tells tx.0 0) (same_tells rx.0 0)

    long : Fails (leb trip longest_trip && leb turn longest_trip && leb delay longest_delay) (TooLong rate trip turn)
    long = either_fails (either_fails (most_fails trip longest_trip) (most_fails turn longest_trip)) (most_fails delay longest_delay)

    by : (z s : Bool) → (eqb tx.0 0 && eqb rx.0 0) ≡ z → (leb trip longest_trip && leb turn longest_trip && leb delay longest_delay) ≡ s
        → First (answer_number (cond z (Ok 0) (cond s (Ok delay) (Err Refusals.DelayTooLong)))) (given 9 (MeasuredTooLong Measured rate local p tx rx) ∷ [])
    by true s d e = later _ _ (λ (h : MeasuredTooLong Measured rate local p tx rx). h.0 (unheard.is d)) (nowhere refl)
    by false true d e = later _ _ (λ (h : MeasuredTooLong Measured rate local p tx rx). long.not e h.1) (nowhere refl)
    by false false d e = let h : MeasuredTooLong Measured rate local p tx rx = (unheard.not d, long.is e) in here _ _ h refl

-- the number of a frame that is taken by its delay is that of its delay
delayed_number : (d : Result ℕ Refusal) (chosen : ℕ) (f : Fields) (p at : LocalTime) (port : Port)
    → answer_number d ≡ answer_number (received_as (delayed_by d chosen f p at port) f.count at port).answer
delayed_number (Ok n) chosen f p at port = refl
delayed_number (Err refusal) chosen f p at port = refl

-- 7, then 8, then 9
pub frame_order : (setting : Setting) (chosen : ℕ) (f : Fields) (at : LocalTime) (port : Port)
    → First (answer_number (received_of setting chosen f at port).answer) (frame_conditions setting.delay port.preceding port.pair f.hop f.count f.local f.tx f.rx)
unfolding received_of followed_by_of
frame_order setting chosen f at port = first_if number (same_tells f.hop 255) (λ _. counted port.preceding)
  where
    number : Result Port Refusal → ℕ
    number r = answer_number (received_as r f.count at port).answer

    counted : (l : Preceding) → First (number (counted_by l setting chosen f at port))
        (given 8 (NotNext l f.count) ∷ given 9 (DelayTooLong l setting.delay port.pair f.local f.tx f.rx) ∷ [])
    counted Never = here _ _ tt refl
    counted (Was last p) =
        first_else number (same_fails f.count ((last + 1) % 256))
        (λ _. same_number (delayed_number (link_delay_of setting.delay (neighbour_rate_of port.pair f.local p) f.local p f.tx f.rx) chosen f p at port)
        (delay_order setting.delay (neighbour_rate_of port.pair f.local p) f.local p f.tx f.rx))

-- ---- a reading of the own clock

-- 8 by the frameCount
pub reading_order : (count : ℕ) (grand : GrandTime) (now : LocalTime) (clock : OwnClock)
    → First (answer_number (own_reading_of count grand now clock).answer) (reading_conditions clock.preceding count)
unfolding own_reading_of
reading_order count grand now clock = by clock.preceding
  where
    by : (l : Preceding) → First (answer_number (own_reading_by l count grand now clock.samples).answer) (reading_conditions l count)
    by Never = here _ _ tt refl
    by (Was last when) = first_else (λ (d : Outcome OwnClock). answer_number d.answer) (same_fails count ((last + 1) % 256)) (λ _. nowhere refl)

-- ---- a departure

-- 32 signed bits hold a number just where its size fits 31
bits_fail : (z : ℤ) → Fails (ltb (mag z) (2 ^ 31)) (BeyondBits z)
bits_fail (pos n) = record {
  is = λ e. inr (lt_z_yes (lt→ltb (2 ^ 31 - 1) n (omega (arith, ltb-false n (2 ^ 31) e))));
  not = λ e. ⊎_elim (λ under. absurd under.lt) (λ over. omega (arith, ltb-true n (2 ^ 31) e, ltb→lt (2 ^ 31 - 1) n over.lt));
}
bits_fail (negsuc n) = record {
  is = λ e. inl (lt_z_yes (lt→ltb (2 ^ 31 - 1) n (omega (arith, ltb-false n (2 ^ 31) e))));
  not = λ e. ⊎_elim (λ under. omega (arith, ltb-true n (2 ^ 31) e, ltb→lt (2 ^ 31 - 1) n under.lt)) (λ over. absurd over.lt);
}

-- 13 by errorTime, in version 2 alone
error_order : (version : ℕ) (g : GrandTime) (ends : Ends) (back : ℕ) → ends.newest.error.0 < 2 ^ 32
    → First (answer_number (sent_as_of (Some g) (error_time_of (sent_error ends.oldest ends.newest (stretch_of version back))))) (given 13 (ErrorBeyond version (Some ends) back) ∷ [])
unfolding sent_error error_time_of
error_order version g ends back h = by (eqb version 2) refl
  where
    rate : ℤ
    rate = rate_between ends.oldest ends.newest

    number : Option ErrorTime → ℕ
    number x = answer_number (sent_as_of (Some g) x)

    by : (s : Bool) → eqb version 2 ≡ s
        → First (number (error_time_of (error_by rate ends.newest (cond s back 0)))) (given 13 (ErrorBeyond version (Some ends) back) ∷ [])
    by true e =
        first_else number
        (fails_same (λ out. (eqb-true version 2 e, out)) (λ (both : ErrorBeyond version (Some ends) back). both.1) (bits_fail (error_by rate ends.newest back)))
        (λ _. nowhere refl)
    by false e =
        same_number (ap number (error_back ends.newest.error h ∙ ap error_time_of (sym (no_stretch rate ends.newest))))
        (later _ _ (λ (both : ErrorBeyond version (Some ends) back). eqb-false version 2 e both.0) (nowhere refl))

-- 13 by the sent time, which is never below zero, and then by errorTime
moment_order : (z : ℤ) (x : Option ErrorTime) {cs : List Condition} → pos (at_least_zero z) ≡ z → ((g : GrandTime) → First (answer_number (sent_as_of (Some g) x)) cs)
    → First (answer_number (sent_as_of (moment_of z) x)) (given 13 (2 ^ 80 ≤ at_least_zero z) ∷ cs)
unfolding moment_of
moment_order (pos n) x s rest = first_else (λ (m : Option GrandTime). answer_number (sent_as_of m x)) (less_fails n (2 ^ 80)) (λ _. rest (grand_of n))
moment_order (negsuc n) x s rest = absurd (omega (arith, ap nat_abs s))

-- 11, then 12, then 13
sent_order : (samples : Samples) (version : ℕ) (t : LocalTime) (back : ℕ) → LawfulSamples samples → back < longest_elapsed
    → First (answer_number (sent_of samples t back (stretch_of version back)))
    (given 11 (how_many samples < 2) ∷ given 12 (TooLate (ends_of samples) t) ∷ given 13 (BeyondEnd (ends_of samples) t back) ∷ given 13 (ErrorBeyond version (ends_of samples) back) ∷ [])
unfolding sent_of
sent_order samples version t back w l = by (ends_of samples) refl
  where
    by : (ends : Option Ends) → ends_of samples ≡ ends
        → First (answer_number (sent_through_of ends t back (stretch_of version back)))
        (given 11 (how_many samples < 2) ∷ given 12 (TooLate ends t) ∷ given 13 (BeyondEnd ends t back) ∷ given 13 (ErrorBeyond version ends back) ∷ [])
    by None q = here _ _ (few_ends samples q) refl
    by (Some ends) q =
        let lawful = ends_lawful samples ends w q in
        let elapsed = since_of t ends.newest.local in
        later _ _ (both_ends samples ends q)
        (first_else answer_number (less_fails elapsed (2 ^ 39))
        (λ e. moment_order (sent_time ends.oldest ends.newest elapsed back) (error_time_of (sent_error ends.oldest ends.newest (stretch_of version back)))
        (sent_units ends.oldest ends.newest elapsed back (ltb-true _ _ e) l lawful)
        (λ g. error_order version g ends back lawful.newest.error)))

-- the number of a departure for a chosen clock is that of its sent time
sending_number : (s : Result Sent Refusal) (sender : Sender) (version : ℕ) (p : Precedence) (h : ℕ) (t : LocalTime) (port : Port)
    → answer_number s ≡ answer_number (sending_by s sender version p h t port)
sending_number (Ok times) sender version p h t port = refl
sending_number (Err refusal) sender version p h t port = refl

-- from a full bridge 10, then these
clock_order : (choice : Option Candidate) (samples : Samples) (sender : Sender) (version : ℕ) (t : LocalTime) (port : Port) → LawfulSamples samples → sender.back < longest_elapsed
    → First (answer_number (clock_sending choice samples sender version t port)) (departure_conditions Full choice samples version t sender.back)
clock_order None samples sender version t port w l = here _ _ refl refl
clock_order (Some clock) samples sender version t port w l =
    later _ _ (λ (e : Some clock ≡ None). absurd cc)
    (same_number (sending_number (sent_of samples t sender.back (stretch_of version sender.back)) sender version clock.precedence clock.hop t port) (sent_order samples version t sender.back w l))

-- from a listener none of them
pub departure_order : (choice : Option Candidate) (samples : Samples) (sender : Sender) (version : ℕ) (t : LocalTime) (port : Port) → LawfulSamples samples → sender.back < longest_elapsed
    → First (answer_number (sending_of choice samples sender version t port)) (departure_conditions sender.profile choice samples version t sender.back)
unfolding sending_of
departure_order choice samples sender version t port w l = by sender.profile
  where
    by : (profile : Profile) → First (answer_number (profile_sending profile choice samples sender version t port)) (departure_conditions profile choice samples version t sender.back)
    by Full = clock_order choice samples sender version t port w l
    by Listener = nowhere refl
