-- A second in equal parts, p of which are just u units: the part that a fraction lies in, and the least fraction of a part.
use Rattle.std.specs.Prelude.{◌≡◌, ℕ, ◌+◌, ◌-◌, ◌*◌, ◌/◌, ◌≤◌}

-- the part of a fraction: floor(fraction × p / u)
unfoldable pub part_of : ℕ → ℕ → ℕ → ℕ
part_of p u fraction = fraction * p / u

-- the least fraction that lies in a part: part × u / p, rounded up; `least_part` says that it is the least
unfoldable pub least_of : ℕ → ℕ → ℕ → ℕ
least_of p u part = (part * u + (p - 1)) / p

-- what that means: it lies in the part, and no smaller one does
pub record LeastInPart (p u part fraction : ℕ) : Type 0 where
  pub within : part_of p u fraction ≡ part
  pub least : (other : ℕ) → part_of p u other ≡ part → fraction ≤ other
