-- Step 3, the held hop.
use Rattle.std.specs.Prelude.{cond, ℕ, ◌+◌, ◌-◌, ◌/◌, max, ltb}

-- the last hop: no frame with it is taken, and it stands for the chosen clock's where there is none
abbrev pub last_hop : ℕ
last_hop = 255

-- the jump of a frame with hop h from beyond the chosen clock: half of what is left to the last hop, and 1 at the least
unfoldable pub jump_of : ℕ → ℕ
jump_of h = max 1 ((last_hop - h) / 2)

-- n, by the frame's hop h and the chosen clock's held hop: the jump, or a single step
unfoldable pub hop_step_of : ℕ → ℕ → ℕ
hop_step_of h chosen = cond (ltb chosen h) (jump_of h) 1

-- the held hop
unfoldable pub hop_of : ℕ → ℕ → ℕ
hop_of h chosen = h + hop_step_of h chosen
