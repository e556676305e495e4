-- C-18, the passes left at a hop: how often a frame is passed on that jumps at every station. The rule, the formula, and a table of the answers.
use Rattle.std.specs.Prelude.{◌≡◌, Bool, true, cond, ◌&&◌, List, [], ◌∷◌, ◌++◌, ℕ, zero, suc, ◌+◌, ◌-◌, ◌^◌, ◌<◌, ◌≤◌, eqb, length, get_or, replicate}
use Rattle.choice.specs.Hop.{last_hop, jump_of}

-- ---- the rule

-- 0 at the last hop; at any other, one more than at the hop that the jump leads to
pub record PassesRule (passes : ℕ → ℕ) : Type 0 where
  pub at_last : passes last_hop ≡ 0
  pub below_last : (h : ℕ) → h < last_hop → passes h ≡ 1 + passes (h + jump_of h)

-- the same, worked out in n steps at the most
unfoldable pub passes_within : ℕ → ℕ → ℕ
passes_within zero h = 0
passes_within (suc n) h = let more = 1 + passes_within n (h + jump_of h) in cond (eqb h last_hop) 0 more

-- a jump is a hop or more, so there are no more steps than hops up to the last
unfoldable pub passes_of : ℕ → ℕ
passes_of h = passes_within (last_hop - h) h

-- ---- the formula

-- k is the least number with 2^k ≥ g: it is one, and no smaller one is
pub record LeastPower (g k : ℕ) : Type 0 where
  pub reaches : g ≤ 2 ^ k
  pub least : (j : ℕ) → g ≤ 2 ^ j → k ≤ j

-- the passes left where g hops are left up to the last: 0 where there are none, else 1 + the least k with 2^k ≥ g
pub record ByFormula (g passes : ℕ) : Type 0 where
  pub none_left : g ≡ 0 → passes ≡ 0
  pub some_left : 0 < g → (k : ℕ) × LeastPower g k × (passes ≡ 1 + k)

-- ---- a table of all answers

-- how many hops a byte has
abbrev pub hops : ℕ
hops = 256

-- a table of the passes left, an entry for each hop
pub record PassesTable (table : List ℕ) : Type 0 where
  pub every_hop : length table ≡ hops
  pub entry : (h : ℕ) → h < hops → get_or table h 0 ≡ passes_of h

-- that table, a staircase: a step of 127 hops, one of 64, then each half as long as the one before it, and three of a single hop at the end
unfoldable pub staircase : List ℕ
staircase =
    replicate 127 9
    ++ (replicate 64 8
    ++ (replicate 32 7 ++ (replicate 16 6 ++ (replicate 8 5 ++ (replicate 4 4 ++ (replicate 2 3 ++ (2 ∷ 1 ∷ 0 ∷ [])))))))

-- the test over the whole of a table: that it has an entry for each hop, and that each entry, from hop h on, is the passes left there
unfoldable pub agrees_from : ℕ → List ℕ → Bool
agrees_from h [] = true
agrees_from h (x ∷ table) = eqb x (passes_of h) && agrees_from (suc h) table

unfoldable pub agrees_of : List ℕ → Bool
agrees_of table = eqb (length table) hops && agrees_from 0 table
