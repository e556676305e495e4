-- Round trips by computation: over a kilometre of fibre, where both clocks wrap; and one that is off by nearly all that the shares allow.
use mathlib.Core.Path.{◌≡◌, refl, sym}
use Prim.Native.Nat.{ℕ, ◌+◌, ◌-◌, ◌*◌, ◌^◌, ◌<◌}
use native.Mathlib.Omega.{arith}
use lib.Dec.{lit<, lit≤}
use lib.IntN.{pos, nat_abs, ◌-ℤ◌}
use Rattle.std.proofs.Common.{None, Ok}
use Rattle.times.specs.Times.{circle, since_of}
use Rattle.samples.specs.Rate.{gain_of, rate_of, scaled_of, neighbour_rate_of}
use Rattle.delay.specs.Delay.{delay_of, measured_of, link_delay_of}
use Rattle.delay.specs.Cable.{Cable, Instant, Later, RoundTrip, local_time_of, arrival_of, pair_of, local_spread, Rated, that_tx_time_of, that_rx_time_of, Told, turn_of, delay_by, twice_off, whole, latch_share, open_share, rounding_share, floor_share}
use Rattle.delay.proofs.CableFigures.{usual-turn, alike_near}

-- ---- a kilometre

-- 4.9 µs each way, 5,387,607.4 U, in tenths of a unit; the neighbour's clock loses 20 ppm
abbrev kilometre : Cable
kilometre = record { fine = 10; ours = 50001; theirs = 50000; out = 53876074; back = 53876074; divided = lit< tt; running = (lit< tt, lit< tt) }

-- the neighbour's frames leave 10 ms apart, and both clocks wrap between them
abbrev early : Instant
early = record { here = circle * 10 - 59946173930; there = circle * 10 - 30000050007 }

abbrev late : Instant
late = record { here = circle * 10 + 50007225094; there = circle * 10 + 79951149993 }

abbrev wrapped : RoundTrip kilometre
wrapped = record {
  left = circle * 10 - 60000000003;
  heard = record { here = circle * 10 - 59946123929; there = circle * 10 - 30000000007 };
  answered = late;
  outward = refl;
  turned = omega arith;
  homeward = omega arith;
}

-- the frames' times as the latches have them
pub kilometre_times : ((that_tx_time_of kilometre wrapped).0 ≡ circle - 6000000001) × ((that_rx_time_of kilometre wrapped).0 ≡ circle - 3000000001)
    × ((local_time_of kilometre late).0 ≡ 7995114999) × ((arrival_of kilometre late).0 ≡ 5006110116)
kilometre_times = (refl, refl, refl, refl)

-- the rules give two fifths of a unit less than the cable has; with no stored pair 109,950.6 more, which is the neighbour's 20 ppm over the turn
pub a_kilometre : (delay_by kilometre wrapped (pair_of kilometre early) ≡ Ok 5387607) × (delay_by kilometre wrapped None ≡ Ok 5497558)
unfolding since_of gain_of rate_of scaled_of neighbour_rate_of delay_of measured_of link_delay_of
a_kilometre = (refl, refl)

-- the theorem holds of it: less than two units
pub kilometre_near : nat_abs (pos (5387607 * 10) -ℤ pos 53876074) < 2 * 10
unfolding since_of
kilometre_near =
    let later : Later kilometre early late = omega arith in
    let rated : Rated kilometre early late = record { low = lit≤ tt; high = lit≤ tt; near = lit≤ tt } in
    let told : Told kilometre wrapped = λ e f. omega (arith, e) in
    alike_near kilometre 5387607 2 refl (usual-turn kilometre wrapped early later rated told 5387607 (sym a_kilometre.0) (lit≤ tt) (lit≤ tt))

-- ---- at the edge: nearly all that the shares allow

-- a round trip and a stored pair of which the theorem speaks, whose delay of n units is off by more than so many thousandths of the shares' sum
pub record Reached (c : Cable) (r : RoundTrip c) (e : Instant) (n thousandths : ℕ) : Type 0 where
  pub later : Later c e r.answered
  pub rated : Rated c e r.answered
  pub told : Told c r
  pub is : delay_by c r (pair_of c e) ≡ Ok n
  pub off : let s = local_spread c e r.answered in let t = turn_of c r in
      thousandths * (latch_share c s t + open_share c s t + rounding_share c s t + floor_share c s t) * c.fine < 1000 * (twice_off c n * whole c s t)

-- the spread is half a second, in which our clock gains 1,016 units, 63 parts and a half; the turn is a little shorter
abbrev even : Cable
even = record { fine = 1024; ours = 2 ^ 39 + 1015; theirs = 2 ^ 39 - 1; out = 5516915195; back = 5516915195; divided = lit< tt; running = (lit< tt, lit< tt) }

abbrev even_pair : Instant
even_pair = record { here = circle * 1024 - 307744238899708; there = circle * 1024 - 550307978225664 }

abbrev even_trip : RoundTrip even
even_trip = record {
  left = circle * 1024 - 307200000000000;
  heard = record { here = circle * 1024 - 307194483084805; there = circle * 1024 - 549758222411777 };
  answered = record { here = circle * 1024 + 255205715560964; there = circle * 1024 + 12641975194624 };
  outward = refl;
  turned = omega arith;
  homeward = omega arith;
}

-- latches, rate and floors lead down together: 5.495 U too short, of 5.496
pub even_reached : Reached even even_trip even_pair 5387607 999
unfolding since_of gain_of rate_of scaled_of neighbour_rate_of delay_of measured_of link_delay_of
even_reached = record { later = omega arith; rated = record { low = lit≤ tt; high = lit≤ tt; near = lit≤ tt }; told = λ e f. omega (arith, e); is = refl; off = lit< tt }

-- the spread is a millisecond and the turn half a second, so that what is open in the rate weighs most
abbrev long : Cable
long = record { fine = 1024; ours = 9217; theirs = 9215; out = 5517436928; back = 5517436928; divided = lit< tt; running = (lit< tt, lit< tt) }

abbrev long_pair : Instant
long_pair = record { here = circle * 1024 + 254623333576703; there = circle * 1024 + 11541898217472 }

abbrev long_trip : RoundTrip long
long_trip = record {
  left = circle * 1024 - 307200000000000;
  heard = record { here = circle * 1024 - 307194482563072; there = circle * 1024 - 550154008881153 };
  answered = record { here = circle * 1024 + 255723649312768; there = circle * 1024 + 12641975195647 };
  outward = refl;
  turned = omega arith;
  homeward = omega arith;
}

-- 515 U too short, of 516.2
pub long_reached : Reached long long_trip long_pair 5387607 997
unfolding since_of gain_of rate_of scaled_of neighbour_rate_of delay_of measured_of link_delay_of
long_reached = record { later = omega arith; rated = record { low = lit≤ tt; high = lit≤ tt; near = lit≤ tt }; told = λ e f. omega (arith, e); is = refl; off = lit< tt }
