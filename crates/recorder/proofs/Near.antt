-- A stamp lies less than `bound` units from the exact line through the oldest and the newest kept sample of the chosen clock, read at the
-- latch, before and after the newer sample and across the wrap. At the newer sample's own local time it is that sample's grand time, at
-- the older one's it lies less than `bound` units from that one's.
use mathlib.Core.Path.{◌≡◌, sym, ap, ◌∙◌, subst}
use Rattle.std.proofs.Common.{Option, Some, None, Ok}
use Prim.Native.Nat.{ℕ, ◌*◌, ◌<◌}
use native.Mathlib.Nat.{lt_of_mul-lt-mul_left}
use native.Mathlib.Omega.{arith}
use lib.IntN.{ℤ, pos, neg_ℤ, nat_abs, ◌-ℤ◌, ◌*ℤ◌, *ℤ-zero, +ℤ_idr}
use Rattle.times.specs.Times.{since_of, units}
use Rattle.times.specs.declared.LocalTime.{LocalTime}
use Rattle.times.specs.declared.GrandTime.{GrandTime}
use Rattle.samples.specs.Rate.{scaled_of}
use Rattle.samples.specs.Keep.{spread_of, rate_between, ends_of, LawfulEnds}
use Rattle.samples.specs.declared.Sample.{Sample}
use Rattle.samples.specs.declared.Ends.{Ends}
use Rattle.timeline.specs.Line.{reading_at, bound, line_at, NearLine}
use Rattle.choice.specs.declared.Candidate.{Candidate}
use Rattle.bridge.specs.Table.{samples_of_choice}
use Rattle.bridge.specs.State.{Lawful}
use Rattle.bridge.specs.Chosen.{chosen_of}
use Rattle.bridge.specs.Send.{chosen_samples}
use Rattle.bridge.specs.declared.Bridge.{Bridge}
use Rattle.recorder.specs.Stamp.{latched, distance_of, stamp_through, stamp_by_of, stamp_of}
use Rattle.recorder.specs.Demands.{StampOnLine}
use Rattle.numbers.proofs.Ring.{nat_abs_neg, nat_abs_mul, same, split, sub_add, sub_mul, sub_neg_is}
use Rattle.times.proofs.TimeLaws.{moment_at}
use Rattle.samples.proofs.KeepLaws.{ends_lawful}
use Rattle.timeline.proofs.Bound.{reading_near, line_older}
use Rattle.bridge.proofs.TableLaws.{chosen_lawful}
use Rattle.recorder.proofs.DistanceLaws.{there_and_back, onward, backward}
use Rattle.recorder.proofs.StampLaws.{through_as, stamp-by, read_off, read_at}

-- the ends of the chosen clock's samples are lawful
pub chosen-ends : (b : Bridge) (ends : Ends) → Lawful b → ends_of (chosen_samples b) ≡ Some ends → LawfulEnds ends.oldest ends.newest
chosen-ends b ends h =
    ends_lawful (chosen_samples b) ends (chosen_lawful (chosen_of b) b.clock b.ports h.clock_lawful h.ports_lawful)

-- near the line, with nothing added to the reading
near_alone : (k : ℕ) (a b : Sample) (z x : ℤ) → nat_abs (pos (spread_of a b) *ℤ z -ℤ line_at a b x) < k * spread_of a b → NearLine k a b z x 0
near_alone k a b z x h = rw (*ℤ-zero (pos (spread_of a b)), +ℤ_idr (line_at a b x)) h

pub stamp_near : (b : Bridge) (latch : ℕ) (g : GrandTime) → Lawful b → stamp_of b latch ≡ Ok g → StampOnLine b latch g
stamp_near b latch g h e =
    let r = read_off b latch g e in
    let x = distance_of (latched latch) r.ends.newest.local in
    record {
      ends = r.ends;
      kept = r.kept;
      near =
          near_alone bound r.ends.oldest r.ends.newest (pos (units g)) x
          (subst (λ (z : ℤ). nat_abs (pos (spread_of r.ends.oldest r.ends.newest) *ℤ z -ℤ line_at r.ends.oldest r.ends.newest x) < bound * spread_of r.ends.oldest r.ends.newest) (sym r.time)
          (reading_near r.ends.oldest r.ends.newest x (chosen-ends b r.ends h r.kept) r.reach));
    }

-- ---- at the samples themselves

-- where the chosen clock's samples have two ends, a clock is chosen, and the stamp is read off them
chosen_through : (b : Bridge) (ends : Ends) (latch : LocalTime) → ends_of (chosen_samples b) ≡ Some ends
    → stamp_through (Some ends) latch ≡ stamp_by_of (chosen_of b) (chosen_samples b) latch
unfolding samples_of_choice ends_of
chosen_through b ends latch = by (chosen_of b)
  where
    by : (c : Option Candidate) → ends_of (samples_of_choice c b.clock b.ports) ≡ Some ends
        → stamp_through (Some ends) latch ≡ stamp_by_of c (samples_of_choice c b.clock b.ports) latch
    by None e = let z : ◌≡◌ {A = ℕ} 0 1 = cc in absurd (omega arith)
    by (Some c) e = ap (λ (x : Option Ends). stamp_through x latch) (sym e)

-- at no distance the line is read at the newer sample
reading_newer : (a b : Sample) → reading_at a b (pos 0) ≡ pos (units b.grand)
unfolding reading_at scaled_of
reading_newer a b = rw (*ℤ-zero (rate_between a b)) (+ℤ_idr (pos (units b.grand)))

since_itself : (a : LocalTime) → since_of a a ≡ 0
unfolding since_of
since_itself a = omega arith

no_distance : (a : LocalTime) → distance_of a a ≡ pos 0
no_distance a = onward a a (omega (arith, since_itself a)) ∙ ap pos (since_itself a)

pub stamp_at_newer : (b : Bridge) (ends : Ends) → Lawful b → ends_of (chosen_samples b) ≡ Some ends → stamp_of b ends.newest.local.0 ≡ Ok ends.newest.grand
stamp_at_newer b ends h e =
    let w = (chosen-ends b ends h e).newest in
    let newer = ends.newest in
    sym
    (through_as newer.local {ends = Some ends} (λ i. Some ends) (rw (no_distance newer.local) (omega arith))
    (moment_at newer.grand _ w.grand (sym (ap (reading_at ends.oldest newer) (no_distance newer.local) ∙ reading_newer ends.oldest newer)))
    ∙ chosen_through b ends newer.local e
    ∙ stamp-by b newer.local.0 w.local (λ i. chosen_of b))

-- the older sample lies a spread before the newer one
distance_older : (a b : Sample) → LawfulEnds a b → distance_of a.local b.local ≡ neg_ℤ (pos (spread_of a b))
distance_older a b w = backward a.local b.local (omega (arith, there_and_back b.local a.local (omega (arith, w.limits.low)), w.limits.high))

pub stamp_at_older : (b : Bridge) (ends : Ends) (g : GrandTime) → Lawful b → ends_of (chosen_samples b) ≡ Some ends
    → stamp_of b ends.oldest.local.0 ≡ Ok g → nat_abs (pos (units g) -ℤ pos (units ends.oldest.grand)) < bound
stamp_at_older b ends g h k e =
    let older = ends.oldest in
    let newer = ends.newest in
    let w = chosen-ends b ends h k in
    let s = spread_of older newer in
    let time = (read_at b older.local.0 g ends k e).1 ∙ ap (reading_at older newer) (distance_older older newer w) in
    lt_of_mul-lt-mul_left s
    (omega (
      arith,
      nat_abs_mul (pos s) (pos (units g) -ℤ pos (units older.grand)),
      ap nat_abs (ring (pos s) (pos (units g)) (pos (units older.grand))),
      near_older older newer (pos (units g)) w time,
    ))
  where
    ring : (s z g : ℤ) → s *ℤ (z -ℤ g) ≡ s *ℤ z -ℤ s *ℤ g
    ring s z g = rw (split s, split z, split g) (simp (sub_add, sub_mul, sub_neg_is) (omega (arith, same)))

    near_older : (a b : Sample) (z : ℤ) → LawfulEnds a b → z ≡ reading_at a b (neg_ℤ (pos (spread_of a b)))
        → nat_abs (pos (spread_of a b) *ℤ z -ℤ pos (spread_of a b) *ℤ pos (units a.grand)) < bound * spread_of a b
    near_older a b z w t =
        rw (← line_older a b, t) (reading_near a b (neg_ℤ (pos (spread_of a b))) w (rw (nat_abs_neg (pos (spread_of a b))) w.limits.high))
