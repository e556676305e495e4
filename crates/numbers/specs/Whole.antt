-- Signed numbers: what is left of a number below zero, and how a fraction is made a whole number.
use Rattle.std.specs.Prelude.{◌≡◌, ℕ, ◌*◌, ◌/◌, ◌≤◌, ℤ, pos, negsuc, nat_abs, ◌+ℤ◌, ◌-ℤ◌, ◌*ℤ◌, ◌<ℤ◌}

-- the greater of 0 and z
abbrev pub at_least_zero : ℤ → ℕ
at_least_zero (pos n) = n
at_least_zero (negsuc n) = 0

-- the floor of z / m, for an m above 0. `negsuc n` is -(n + 1), and -(n + 1) / m lies in the unit above -(n / m + 1)
abbrev pub floor_div : ℤ → ℕ → ℤ
floor_div (pos n) m = pos (n / m)
floor_div (negsuc n) m = negsuc (n / m)

-- the nearest whole number to z / m, for an m above 0, a half going up: the floor of z / m + 1/2
abbrev pub nearest_div : ℤ → ℕ → ℤ
nearest_div z m = floor_div (z +ℤ pos (m / 2)) m

-- what that means, said without division: m × r lies at most half of m from z, and above z where it lies just half of m from it
pub record Nearest (z : ℤ) (m : ℕ) (r : ℤ) : Type 0 where
  pub near : nat_abs (pos m *ℤ r -ℤ z) * 2 ≤ m
  pub upper : nat_abs (pos m *ℤ r -ℤ z) * 2 ≡ m → pos 0 <ℤ (pos m *ℤ r -ℤ z)
