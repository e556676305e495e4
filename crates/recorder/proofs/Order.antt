-- Stamps come in the order of their latches: a later wave never has an earlier stamp. Both are read off the same two samples, and the
-- later latch is the one to which the way on is no longer than two stamped latches can lie apart; of any two, one is.
use mathlib.Core.Path.{◌≡◌, refl, sym, ap, ◌∙◌}
use Rattle.std.proofs.Common.{Ok}
use mathlib.Core.Logic.{◌⊎◌, inl, inr}
use Prim.Native.Nat.{ℕ, suc, ◌+◌, ◌-◌, ◌*◌, ◌/◌, ◌%◌, ◌<◌, ◌≤◌}
use native.Mathlib.Nat.{div-add-mod, mod-lt, lt_of_not-le}
use native.Mathlib.Decide.{dec_le}
use native.Mathlib.Omega.{arith}
use lib.IntN.{ℤ, pos, negsuc, nat_abs, sub_ℕ, ◌+ℤ◌, ◌-ℤ◌, ◌*ℤ◌, +ℤ_assoc}
use Rattle.numbers.specs.Whole.{floor_div}
use Rattle.times.specs.Times.{circle, since_of, units}
use Rattle.times.specs.declared.LocalTime.{LocalTime}
use Rattle.times.specs.declared.GrandTime.{GrandTime}
use Rattle.samples.specs.Rate.{parts, steepest, scaled_of, advance_of}
use Rattle.samples.specs.Keep.{rate_between, ends_of, LawfulEnds}
use Rattle.samples.specs.declared.Sample.{Sample}
use Rattle.timeline.specs.Line.{longest_reach, reading_at}
use Rattle.bridge.specs.State.{Lawful}
use Rattle.bridge.specs.Send.{chosen_samples}
use Rattle.bridge.specs.declared.Bridge.{Bridge}
use Rattle.recorder.specs.Stamp.{half_way, latched, distance_of, stamp_of}
use Rattle.recorder.specs.Demands.{NoEarlier}
use Rattle.numbers.proofs.Ring.{same, split, of_pos, of_neg, neg_pos, minus_is, sub_lt, sub_ge, sub_ge2, sub_add, sub_mul, sub_neg_is}
use Rattle.samples.proofs.KeepLaws.{between_small}
use Rattle.times.proofs.TimeLaws.{on_and_on}
use Rattle.recorder.proofs.DistanceLaws.{way_on, way_back, there_and_back}
use Rattle.recorder.proofs.StampLaws.{read_off, read_at}
use Rattle.recorder.proofs.Near.{chosen-ends}

-- ---- a reading farther on is no earlier

-- z is m times its floor, and a rest below m
divided : (z : ℤ) (m : ℕ) → 0 < m → (rest : ℕ) × (rest < m) × (z ≡ pos m *ℤ floor_div z m +ℤ pos rest)
divided (pos n) m h = (n % m, mod-lt n h, ap pos (sym (div-add-mod n m)))
divided (negsuc n) m h =
    let k = m * suc (n / m) in
    let rest = m - suc (n % m) in
    (rest, omega arith, rw (of_neg n, neg_pos k, of_pos rest, sub_add 0 k rest 0) (same 0 (suc n) (0 + rest) (k + 0) (omega (arith, div-add-mod n m, mod-lt n h))))

-- so a stretch is scaled downwards
scaled_down : (rate x : ℤ) → (rest : ℕ) × (rest < parts) × (rate *ℤ x ≡ pos parts *ℤ scaled_of rate x +ℤ pos rest)
unfolding scaled_of
scaled_down rate x = divided (rate *ℤ x) parts (omega arith)

-- k times t is a less c, and c is less than k: t is not below zero
not_below : (t : ℤ) (k a c : ℕ) → c < k → pos k *ℤ t ≡ sub_ℕ a c → (m : ℕ) × (t ≡ pos m)
not_below (pos m) k a c h e = (m, refl)
not_below (negsuc j) k a c h e =
    let n = k * suc j in
    let back : sub_ℕ a c +ℤ sub_ℕ n 0 ≡ sub_ℕ 0 n +ℤ sub_ℕ n 0 = ap (λ (z : ℤ). z +ℤ sub_ℕ n 0) (sym e ∙ neg_pos n) in
    let size = ap nat_abs (sym (sub_add a c n 0) ∙ back ∙ sub_add 0 n n 0) in
    absurd (omega (arith, size, sub_ge2 (a + n) (c + 0), sub_lt (0 + n) (n + 0) 1 (omega arith) (omega arith)))

-- a rate within the limits and one whole: together above zero
forward : (rate : ℤ) → nat_abs rate ≤ steepest → (w : ℕ) × (pos w ≡ pos parts +ℤ rate)
forward (pos k) h = (parts + k, refl)
forward (negsuc k) h = (parts - suc k, of_pos (parts - suc k) ∙ same (parts - suc k) 0 parts (suc k) (omega arith))

-- n farther on, a clock's grand time moves on by a natural number
advance_on : (rate x : ℤ) (n : ℕ) → nat_abs rate ≤ steepest → (m : ℕ) × (advance_of rate (x +ℤ pos n) ≡ advance_of rate x +ℤ pos m)
advance_on rate x n h =
    let y = x +ℤ pos n in
    let q = scaled_of rate x in
    let r = scaled_of rate y in
    let d = scaled_down rate x in
    let e = scaled_down rate y in
    let f = forward rate h in
    let off = pos d.0 -ℤ pos e.0 in
    let t = pos n +ℤ (r -ℤ q) in
    let moved : pos parts *ℤ t ≡ sub_ℕ (f.0 * n + d.0) e.0 =
    rounded (pos parts) (pos n) q r (pos d.0) (pos e.0)
    ∙ sym (λ i. pos parts *ℤ pos n +ℤ (e.2 i -ℤ d.2 i) +ℤ off)
    ∙ exact (pos parts) rate x (pos n) off
    ∙ ap (λ (z : ℤ). z *ℤ pos n +ℤ off) (sym f.1)
    ∙ gathered (f.0 * n) d.0 e.0 in
    let m = not_below t parts (f.0 * n + d.0) e.0 e.1 moved in
    (m.0, regrouped x (pos n) q r ∙ ap (λ (z : ℤ). x +ℤ q +ℤ z) m.1)
  where
    -- both floors are off by their rests
    rounded : (p n q r d e : ℤ) → p *ℤ (n +ℤ (r -ℤ q)) ≡ p *ℤ n +ℤ (p *ℤ r +ℤ e -ℤ (p *ℤ q +ℤ d)) +ℤ (d -ℤ e)
    rounded p n q r d e =
        rw (split p, split n, split q, split r, split d, split e) (simp (sub_add, sub_mul, sub_neg_is) (omega (arith, same)))

    -- one whole and the rate, n times
    exact : (p rate x n off : ℤ) → p *ℤ n +ℤ (rate *ℤ (x +ℤ n) -ℤ rate *ℤ x) +ℤ off ≡ (p +ℤ rate) *ℤ n +ℤ off
    exact p rate x n off =
        rw (split p, split rate, split x, split n, split off) (simp (sub_add, sub_mul, sub_neg_is) (omega (arith, same)))

    gathered : (a d e : ℕ) → pos a +ℤ (pos d -ℤ pos e) ≡ sub_ℕ (a + d) e
    gathered a d e = rw (minus_is d e, of_pos a, sub_add a 0 d e) (same (a + d) (0 + e) (a + d) e (omega arith))

    regrouped : (x n q r : ℤ) → x +ℤ n +ℤ r ≡ x +ℤ q +ℤ (n +ℤ (r -ℤ q))
    regrouped x n q r = rw (split x, split n, split q, split r) (simp (sub_add, sub_neg_is) (omega (arith, same)))

reading_on : (a b : Sample) (x : ℤ) (n : ℕ) → LawfulEnds a b → (m : ℕ) × (reading_at a b (x +ℤ pos n) ≡ reading_at a b x +ℤ pos m)
unfolding reading_at
reading_on a b x n w =
    let g = pos (units b.grand) in
    let m = advance_on (rate_between a b) x n (between_small a b w) in
    (m.0, ap (λ (z : ℤ). g +ℤ z) m.1 ∙ sym (+ℤ_assoc g (advance_of (rate_between a b) x) (pos m.0)))

-- ---- the distances of two latches differ by the way from one to the other

-- a distance is the way on, less some turns round the circle: one, or none
record Way (latch newer : LocalTime) : Type 0 where
  pub turns : ℕ
  pub is : distance_of latch newer ≡ sub_ℕ (since_of latch newer) (turns * circle)

way : (latch newer : LocalTime) → Way latch newer
unfolding distance_of
way latch newer = go (dec_le half_way (since_of latch newer))
  where
    go : Dec (half_way ≤ since_of latch newer) → Way latch newer
    go (yes h) = record { turns = 1; is = sym (way_back _ h) ∙ minus_is (since_of latch newer) circle }
    go (no h) = record { turns = 0; is = sym (way_on _ (lt_of_not-le h)) ∙ of_pos (since_of latch newer) }

-- within reach, the way on is within reach of its turns
within : {latch newer : LocalTime} (w : Way latch newer) → nat_abs (distance_of latch newer) ≤ longest_reach
    → (since_of latch newer ≤ w.turns * circle + longest_reach) × (w.turns * circle ≤ since_of latch newer + longest_reach)
within {latch} {newer} w h =
    let n = w.turns * circle in
    (omega (arith, ap nat_abs w.is, sub_ge2 (since_of latch newer) n), omega (arith, ap nat_abs w.is, sub_ge (since_of latch newer) n))

distance_on : (newer latch later : LocalTime) → nat_abs (distance_of latch newer) ≤ longest_reach → nat_abs (distance_of later newer) ≤ longest_reach
    → since_of later latch ≤ 2 * longest_reach → distance_of later newer ≡ distance_of latch newer +ℤ pos (since_of later latch)
distance_on newer latch later h k l =
    let v = way latch newer in
    let w = way later newer in
    let s = since_of later latch in
    let a = since_of latch newer in
    w.is
    ∙ same (since_of later newer) (w.turns * circle) (a + s) (v.turns * circle + 0) (omega (arith, (on_and_on newer latch later).1, within v h, within w k))
    ∙ sym (ap (λ (z : ℤ). z +ℤ pos s) v.is ∙ ap (λ (z : ℤ). sub_ℕ a (v.turns * circle) +ℤ z) (of_pos s) ∙ sub_add a (v.turns * circle) s 0)

-- ---- the stamps of two latches

-- read off the same samples, whatever else changed in the state between them
pub stamps_in_order : (b later-b : Bridge) (latch later : ℕ) (g h : GrandTime) → Lawful b → ends_of (chosen_samples later-b) ≡ ends_of (chosen_samples b)
    → stamp_of b latch ≡ Ok g → stamp_of later-b later ≡ Ok h → NoEarlier later latch → units g ≤ units h
stamps_in_order b later-b latch later g h w same_ends e f l =
    let r = read_off b latch g e in
    let s = read_at later-b later h r.ends (same_ends ∙ r.kept) f in
    let n = since_of (latched later) (latched latch) in
    let on = reading_on r.ends.oldest r.ends.newest (distance_of (latched latch) r.ends.newest.local) n (chosen-ends b r.ends w r.kept) in
    let time : pos (units h) ≡ pos (units g) +ℤ pos on.0 =
    s.1
    ∙ ap (reading_at r.ends.oldest r.ends.newest) (distance_on r.ends.newest.local (latched latch) (latched later) r.reach s.0 l)
    ∙ on.1
    ∙ ap (λ (z : ℤ). z +ℤ pos on.0) (sym r.time) in
    omega (arith, ap nat_abs time)

-- of two such latches one is no earlier than the other, so that the premise says no more than which of them is meant
pub either_order : (b later-b : Bridge) (latch later : ℕ) (g h : GrandTime) → ends_of (chosen_samples later-b) ≡ ends_of (chosen_samples b)
    → stamp_of b latch ≡ Ok g → stamp_of later-b later ≡ Ok h → NoEarlier later latch ⊎ NoEarlier latch later
either_order b later-b latch later g h same_ends e f =
    let r = read_off b latch g e in
    apart r.ends.newest.local (latched latch) (latched later) r.reach (read_at later-b later h r.ends (same_ends ∙ r.kept) f).0
  where
    apart : (newer x y : LocalTime) → nat_abs (distance_of x newer) ≤ longest_reach → nat_abs (distance_of y newer) ≤ longest_reach
        → (since_of y x ≤ 2 * longest_reach) ⊎ (since_of x y ≤ 2 * longest_reach)
    apart newer x y h k = go (dec_le (since_of y x) (2 * longest_reach))
      where
        go : Dec (since_of y x ≤ 2 * longest_reach) → (since_of y x ≤ 2 * longest_reach) ⊎ (since_of x y ≤ 2 * longest_reach)
        go (yes l) = inl l
        go (no l) =
            let far = lt_of_not-le l in
            inr (omega (arith, there_and_back y x (omega arith), (on_and_on newer x y).1, within (way x newer) h, within (way y newer) k))
