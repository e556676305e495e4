-- Laws of the stamp: the request's formula, each case of the rule, the answers, and what a stamp tells of the samples that it is read off.
use Rattle.std.proofs.Common.{◌≡◌, ℕ, ◌<◌, ◌≤◌, ◌⊎◌, inl, inr, refl, sym, ap, ◌∙◌, subst, arith, ltb, leb, ℤ, pos, nat_abs, ◌+ℤ◌, Option, Some, None, Ok, Err}
use Rattle.std.specs.Option.{ok_or}
use borrow.Author.Tests.{le-leb, lt-leb, leb-true, leb-false, lt-ltb, le-ltb, ltb-true, ltb-false}
use lib.IntN.{+ℤ_assoc, +ℤ_idr}
use Rattle.refusals.specs.Answer.{answer_number}
use Rattle.refusals.specs.declared.Refusal.TheVariants.{OutOfRange, TooLate, BeyondRange}
use Rattle.times.specs.Times.{circle, units, moment_of}
use Rattle.times.specs.declared.LocalTime.{LocalTime}
use Rattle.times.specs.declared.GrandTime.{GrandTime}
use Rattle.samples.specs.Rate.{scaled_of}
use Rattle.samples.specs.Keep.{rate_between, ends_of}
use Rattle.samples.specs.declared.Sample.{Sample}
use Rattle.samples.specs.declared.Ends.{Ends}
use Rattle.timeline.specs.Line.{longest_reach, InReach, reading_at}
use Rattle.choice.specs.Compare.{Comparison}
use Rattle.choice.specs.declared.Candidate.{Candidate}
use Rattle.bridge.specs.Table.{samples_of_choice}
use Rattle.bridge.specs.State.{Lawful}
use Rattle.bridge.specs.Chosen.{chosen_of}
use Rattle.bridge.specs.Send.{chosen_samples}
use Rattle.bridge.specs.Board.{GoesThrough, chosen_on}
use Rattle.bridge.specs.declared.Bridge.{Bridge}
use Rattle.recorder.specs.Stamp.{latched, distance_of, stamp_as, stamp_through, stamp_by_of, stamp_for_of, stamp_of}
use Rattle.recorder.specs.Demands.{InReachAnswers, ReachAnswers, ClockAnswers, StampAnswers}
use Rattle.bridge.proofs.Boards.{chosen_same}
use Rattle.numbers.proofs.Branches.{if_true, if_false, if_when}
use Rattle.times.proofs.TimeLaws.{moment_is}

-- ---- the request's formula: newer grand time + distance + floor(rate × distance / 2^35)

pub stamp_formula : (a b : Sample) (x : ℤ) → reading_at a b x ≡ pos (units b.grand) +ℤ x +ℤ scaled_of (rate_between a b) x
unfolding reading_at
stamp_formula a b x = sym (+ℤ_assoc (pos (units b.grand)) x (scaled_of (rate_between a b) x))

-- a distance at which the line is read with nothing added
pub reach_alone : (x : ℤ) → nat_abs x ≤ longest_reach → InReach x 0
reach_alone x h = record { read = h; added = omega arith; reached = rw (+ℤ_idr x) h }

-- ---- the stamp, case by case

-- a moment, or 13
pub or_beyond : (m : Option GrandTime) → ok_or m BeyondRange ≡ stamp_as m
or_beyond (Some g) = refl
or_beyond None = refl

module _ (latch : LocalTime) {ends : Option Ends} where
  pub through_ends : {d : Option Ends} → d ≡ ends → stamp_through d latch ≡ stamp_through ends latch
  through_ends q = ap (λ (x : Option Ends). stamp_through x latch) q

  pub through_far : {e : Ends} → Some e ≡ ends → longest_reach < nat_abs (distance_of latch e.newest.local) → Err TooLate ≡ stamp_through ends latch
  through_far q h = if_false _ _ _ (lt-leb _ _ h) ∙ through_ends q

  pub through_as : {e : Ends} {m : Option GrandTime} → Some e ≡ ends → nat_abs (distance_of latch e.newest.local) ≤ longest_reach
      → m ≡ moment_of (reading_at e.oldest e.newest (distance_of latch e.newest.local)) → stamp_as m ≡ stamp_through ends latch
  through_as q h k = ap stamp_as k ∙ if_true _ _ _ (le-leb _ _ h) ∙ through_ends q

module _ (b : Bridge) (latch : ℕ) where
  pub stamp_off : circle ≤ latch → Err OutOfRange ≡ stamp_of b latch
  unfolding stamp_of
  stamp_off h = if_false _ _ _ (le-ltb _ _ h)

  -- a stamp is by the choice that it is given, and by its samples
  pub stamp-for : (choice : Option Candidate) → latch < circle → stamp_by_of choice (samples_of_choice choice b.clock b.ports) (latched latch) ≡ stamp_for_of choice b latch
  stamp-for choice h = if_true _ _ _ (lt-ltb _ _ h)

  pub stamp-by : {c : Option Candidate} → latch < circle → c ≡ chosen_of b → stamp_by_of c (chosen_samples b) (latched latch) ≡ stamp_of b latch
  unfolding stamp_of
  stamp-by h q = ap (λ (x : Option Candidate). stamp_by_of x (chosen_samples b) (latched latch)) q ∙ stamp-for (chosen_of b) h

  -- it is the same on every board, in whatever order and grouping that compares
  pub stamp_same : Lawful b → (board : Comparison ℕ) → GoesThrough board b → stamp_for_of (chosen_on board b) b latch ≡ stamp_of b latch
  unfolding stamp_of
  stamp_same lawful board goes = ap (λ (c : Option Candidate). stamp_for_of c b latch) (chosen_same b lawful board goes)

  -- each answer, with what holds where it is given
  pub stamp_answers : StampAnswers b latch (stamp_of b latch)
  unfolding stamp_of
  stamp_answers =
      if_when (StampAnswers b latch) (ltb latch circle) (λ e. inr (ltb-true _ _ e, by (chosen_of b) refl)) (λ e. inl (refl, ltb-false _ _ e))
    where
      at : Sample → ℤ
      at newer = distance_of (latched latch) newer.local

      through : (ends : Option Ends) → ends_of (chosen_samples b) ≡ ends → ClockAnswers (chosen_samples b) latch (stamp_through ends (latched latch))
      through None q = inl (refl, q)
      through (Some ends) q =
          inr (
            ends,
            q,
            if_when (ReachAnswers ends (at ends.newest)) (leb (nat_abs (at ends.newest)) longest_reach)
                (λ e.
                inr (
                  leb-true _ _ e,
                  moment_is (λ (m : Option GrandTime). InReachAnswers ends (at ends.newest) (stamp_as m)) (reading_at ends.oldest ends.newest (at ends.newest))
                      (λ g _ z. inr (refl, (g, refl, z))) (λ end. inl (refl, end)),
                ))
                (λ e. inl (refl, leb-false _ _ e)),
          )

      by : (c : Option Candidate) → chosen_of b ≡ c
          → ((answer_number (stamp_by_of c (chosen_samples b) (latched latch)) ≡ 10) × (chosen_of b ≡ None))
          ⊎ ((chosen_of b ≡ None → ⊥) × ClockAnswers (chosen_samples b) latch (stamp_by_of c (chosen_samples b) (latched latch)))
      by None q = inl (refl, q)
      by (Some c) q = inr (some_clock c q, through (ends_of (chosen_samples b)) refl)
        where
          some_clock : (c : Candidate) → chosen_of b ≡ Some c → chosen_of b ≡ None → ⊥
          some_clock c q e = let z : ◌≡◌ {A = ℕ} 0 1 = cc in omega arith

-- ---- what a stamp tells: the ends of the chosen clock's samples, and that it is the reading at the latch of the line through them

pub record ReadOff (b : Bridge) (latch : ℕ) (g : GrandTime) : Type 0 where
  pub ends : Ends
  pub kept : ends_of (chosen_samples b) ≡ Some ends
  pub reach : nat_abs (distance_of (latched latch) ends.newest.local) ≤ longest_reach
  pub time : pos (units g) ≡ reading_at ends.oldest ends.newest (distance_of (latched latch) ends.newest.local)

pub read_off : (b : Bridge) (latch : ℕ) (g : GrandTime) → stamp_of b latch ≡ Ok g → ReadOff b latch g
read_off b latch g e = go (subst (StampAnswers b latch) e (stamp_answers b latch))
  where
    go : StampAnswers b latch (Ok g) → ReadOff b latch g
    go (inl a) = absurd (omega (arith, a.0))
    go (inr (h, inl a)) = absurd (omega (arith, a.0))
    go (inr (h, inr (c, inl a))) = absurd (omega (arith, a.0))
    go (inr (h, inr (c, inr (ends, k, inl a)))) = absurd (omega (arith, a.0))
    go (inr (h, inr (c, inr (ends, k, inr (l, inl a))))) = absurd (omega (arith, a.0))
    go (inr (h, inr (c, inr (ends, k, inr (l, inr (done, (f, q, z))))))) =
        let p : f ≡ g = cc in
        record { ends = ends; kept = k; reach = l; time = ap (λ (x : GrandTime). pos (units x)) (sym p) ∙ z }

-- the same, of ends that are known
pub read_at : (b : Bridge) (latch : ℕ) (g : GrandTime) (ends : Ends) → ends_of (chosen_samples b) ≡ Some ends → stamp_of b latch ≡ Ok g
    → (nat_abs (distance_of (latched latch) ends.newest.local) ≤ longest_reach) × (pos (units g) ≡ reading_at ends.oldest ends.newest (distance_of (latched latch) ends.newest.local))
read_at b latch g ends k e =
    let r = read_off b latch g e in
    let both : Some r.ends ≡ Some ends = sym r.kept ∙ k in
    let same : r.ends ≡ ends = cc in (
      subst (λ (x : Ends). nat_abs (distance_of (latched latch) x.newest.local) ≤ longest_reach) same r.reach,
      r.time ∙ ap (λ (x : Ends). reading_at x.oldest x.newest (distance_of (latched latch) x.newest.local)) same,
    )
