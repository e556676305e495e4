-- Laws of times: the difference round a circle, the count that follows, and a grand time and the moment of its units.
use Rattle.std.proofs.Common.{◌≡◌, ℕ, zero, suc, ◌+◌, ◌-◌, ◌*◌, ◌/◌, ◌%◌, ◌^◌, ◌<◌, ◌≤◌, ltb, ℤ, pos, negsuc, ◌-ℤ◌, Option, Some, None, nat_abs, sym, refl, ap, ◌∙◌, mod-lt, mod-eq_of_lt, lt_of_not-le, arith, ltb-false, ltb-true, le-ltb, lt-ltb}
use native.Mathlib.Nat.{add-mod, add-mod_right, mod-eq-sub-mod, mod-mod_of_dvd, dvd_of_mod-eq-zero}
use native.Mathlib.Decide.{dec_le}
use lib.IntN.{pos-ne-negsuc}
use Rattle.times.specs.Times.{circle, second, grand_end, around_of, since_of, units, grand_of, InRange, moment_of, counts, next_count}
use Rattle.times.specs.declared.LocalTime.{LocalTime}
use Rattle.times.specs.declared.GrandTime.{GrandTime}
use Rattle.numbers.proofs.Branches.{if_when}

-- a difference is less than the circle
pub since_lt : (a b : LocalTime) → since_of a b < circle
unfolding since_of
since_lt a b = omega arith

-- the way from a to b leads from a's place on the circle to b's, past the circle's start at most once
past_start : (a b : LocalTime) → (k : ℕ) × (since_of b a + a.0 % circle ≡ b.0 % circle + k * circle)
unfolding since_of
past_start a b = go (dec_le (a.0 % circle) (b.0 % circle))
  where
    go : Dec (a.0 % circle ≤ b.0 % circle) → (k : ℕ) × (since_of b a + a.0 % circle ≡ b.0 % circle + k * circle)
    go (yes h) = (0, omega arith)
    go (no h) = (1, omega (arith, lt_of_not-le h))

-- from a to b and on to c, less whole turns, is from a to c
pub on_and_on : (a b c : LocalTime) → (t : ℕ) × (since_of b a + since_of c b ≡ since_of c a + t * circle)
on_and_on a b c =
    let x = past_start a b in
    let y = past_start b c in
    let z = past_start a c in
    (x.0 + y.0 - z.0, omega (arith, x.1, y.1, z.1, since_lt c a))

-- the machine's wrapped difference, reduced to a circle that divides the machine's, is the difference round that circle
pub around_is : (a b n w : ℕ) → 0 < n → 2 ^ 64 % n ≡ 0 → (w + b) % 2 ^ 64 ≡ a → w % n ≡ around_of a b n
around_is a b n w h d e = round (w % n) (b % n) (mod-lt w h) (mod-lt b h) ∙ ap (λ (x : ℕ). (x + n - b % n) % n) (sym on_circle)
  where
    -- x, y further round the circle and back by y
    round : (x y : ℕ) → x < n → y < n → x ≡ ((x + y) % n + n - y) % n
    round x y k l = go (dec_le n (x + y))
      where
        go : Dec (n ≤ x + y) → x ≡ ((x + y) % n + n - y) % n
        go (yes o) =
            let s : x + y - n < n = omega arith in
            let t : x + y - n + n - y ≡ x = omega arith in
            rw (mod-eq-sub-mod o, mod-eq_of_lt s, t, mod-eq_of_lt k)
        go (no o) =
            let t : x + y + n - y ≡ x + n = omega arith in
            rw (mod-eq_of_lt (lt_of_not-le o), t, add-mod_right x n, mod-eq_of_lt k)

    on_circle : a % n ≡ (w % n + b % n) % n
    on_circle = ap (λ (x : ℕ). x % n) (sym e) ∙ mod-mod_of_dvd n (w + b) (dvd_of_mod-eq-zero n d) ∙ add-mod w b n

-- the frameCount that follows c is c less the last one, round their circle
pub count_is : (c : ℕ) → around_of c (counts - 1) counts ≡ next_count c
count_is c = omega arith

-- the grand time of so many units
pub grand_is : (g : GrandTime) (n : ℕ) → g.1 < second → units g ≡ n → g ≡ grand_of n
grand_is g n h e =
    let s : g.0 ≡ n / second = omega arith in
    let f : g.1 ≡ n % second = omega arith in
    λ i. record { 0 = s i; 1 = f i }

-- a grand time within its range is below the end of grand time
pub units_lt : (g : GrandTime) → InRange g → units g < grand_end
units_lt g r = omega arith

-- ---- the moment of a whole number of units

pub moment_at : (g : GrandTime) (z : ℤ) → InRange g → pos (units g) ≡ z → Some g ≡ moment_of z
unfolding moment_of
moment_at g z r e =
    rw (← e, lt-ltb (units g) grand_end (units_lt g r)) (ap Some (grand_is g (units g) r.fraction refl))

-- too late, and too early
pub moment_end : (n : ℕ) → grand_end ≤ n → None ≡ moment_of (pos n)
unfolding moment_of
moment_end n h = rw (le-ltb n grand_end h)

pub moment_under : (a b : ℕ) → a < b → None ≡ moment_of (pos a -ℤ pos b)
unfolding moment_of
moment_under a zero h = absurd (omega arith)
moment_under a (suc b) h = rw (lt-ltb a (suc b) h)

-- what holds of a grand time in range, of so many units, and of None where the units reach the end or are below zero, holds of the moment
pub moment_is : (P : Option GrandTime → Type 0) (z : ℤ) → ((g : GrandTime) → InRange g → pos (units g) ≡ z → P (Some g))
    → (((n : ℕ) → z ≡ pos n → grand_end ≤ n) → P None) → P (moment_of z)
unfolding moment_of
moment_is P (pos n) at beyond =
    if_when P (ltb n grand_end)
    (λ e. let h = ltb-true n grand_end e in at (grand_of n) (record { seconds = omega arith; fraction = omega arith }) (ap pos (omega arith)))
    (λ e. beyond (λ m q. omega (arith, ltb-false n grand_end e, ap nat_abs q)))
moment_is P (negsuc n) at beyond = beyond (λ m q. absurd (pos-ne-negsuc m n (sym q)))
