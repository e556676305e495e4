-- Laws of the held hop: one for each arm, that it lies above the frame's hop and is at most the last, that a jump is the half without division, and what it is where no clock is chosen.
use mathlib.Core.Path.{◌≡◌, sym}
use Prim.Native.Nat.{ℕ, ◌+◌, ◌-◌, ◌*◌, ◌<◌, ◌≤◌}
use native.Mathlib.Omega.{arith}
use borrow.Author.Tests.{lt-ltb, le-ltb}
use lib.Dec.{ltb}
use Rattle.std.proofs.Common.{None}
use Rattle.choice.specs.Hop.{last_hop, jump_of, hop_step_of, hop_of}
use Rattle.choice.specs.Choose.{chosen_hop}
use Rattle.numbers.proofs.Branches.{if_when}

-- ---- the jump

-- a jump is a step or more, and does not pass the last hop
pub jump_rises : (h : ℕ) → 1 ≤ jump_of h
unfolding jump_of
jump_rises h = omega arith

pub jump_within : (h : ℕ) → h < last_hop → h + jump_of h ≤ last_hop
unfolding jump_of
jump_within h l = omega arith

-- twice a jump is no more than what is left, unless it is a single step, and a longer one would be more
pub jump_half : (h : ℕ) → (1 < jump_of h → 2 * jump_of h ≤ last_hop - h) × (last_hop - h < 2 * (jump_of h + 1))
unfolding jump_of
jump_half h = (λ l. omega arith, omega arith)

-- ---- the held hop

-- past the chosen clock's hop: the jump
pub hop_jump : (h chosen : ℕ) → chosen < h → h + jump_of h ≡ hop_of h chosen
unfolding hop_of hop_step_of
hop_jump h chosen k = rw (lt-ltb chosen h k)

-- up to it: a single step
pub hop-step : (h chosen : ℕ) → h ≤ chosen → h + 1 ≡ hop_of h chosen
unfolding hop_of hop_step_of
hop-step h chosen k = rw (le-ltb chosen h k)

-- a held hop is above the frame's
pub hop_rises : (h chosen : ℕ) → h < hop_of h chosen
unfolding hop_of hop_step_of
hop_rises h chosen = if_when (λ (n : ℕ). h < h + n) (ltb chosen h) (λ _. omega (arith, jump_rises h)) (λ _. omega arith)

-- and at most the last, for every frame that can be taken
pub hop_within : (h chosen : ℕ) → h < last_hop → hop_of h chosen ≤ last_hop
unfolding hop_of hop_step_of
hop_within h chosen l = if_when (λ (n : ℕ). h + n ≤ last_hop) (ltb chosen h) (λ _. jump_within h l) (λ _. omega arith)

-- where no clock is chosen, every frame that can be taken is held one hop on: H of no choice is no less than any hop below 255
pub hop_unchosen : (h : ℕ) → h < 255 → hop_of h (chosen_hop None) ≡ h + 1
unfolding chosen_hop
hop_unchosen h l = sym (hop-step h last_hop (omega (arith, l)))
