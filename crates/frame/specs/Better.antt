-- Better: which of two frames, and which part of it.
use Rattle.std.specs.Prelude.{ℕ, ◌+◌, cond, List, take, drop, ltb, eqb, Option, Some, None, Result, Ok, Err}
use Rattle.std.specs.Borrow.{Bor}
use Rattle.refusals.specs.declared.Refusal.{Refusal}
use Rattle.choice.specs.Hop.{last_hop}
use Rattle.choice.specs.Precedence.{key_of}
use Rattle.frame.specs.Read.{read_of}
use Rattle.frame.specs.declared.Fields.{Fields}
use Rattle.frame.specs.declared.Standing.{Standing}
use Rattle.frame.specs.declared.Winner.{Winner}
use Rattle.frame.specs.declared.Winner.TheVariants.{Neither, First, Second}

-- where the precedence bytes start, and how many they are
abbrev pub precedence_start : ℕ
precedence_start = 16

abbrev pub precedence_bytes : ℕ
precedence_bytes = 13

-- what meets 4, 5, 6 or 7 loses
abbrev pub standing_by : Result Fields Refusal → Option Standing
standing_by (Err refusal) = None
standing_by (Ok f) = cond (eqb f.hop last_hop) None (Some (record { precedence = f.precedence; hop = f.hop }))

unfoldable pub standing_of : List ℕ → Option Standing
standing_of s = standing_by (read_of s)

-- the lesser key, the first on a tie
unfoldable pub winner_of : Option Standing → Option Standing → Winner
winner_of None None = Neither
winner_of None (Some y) = Second
winner_of (Some x) None = First
winner_of (Some x) (Some y) = cond (ltb (key_of y.precedence y.hop) (key_of x.precedence x.hop)) Second First

-- where a slice lies, and its bytes
abbrev pub lies : Bor (List ℕ) → (ℕ × ℕ) × List ℕ
lies r = (r.ref_ptr, r.now)

-- where the n bytes of r from a on lie, and those bytes
abbrev pub piece : Bor (List ℕ) → ℕ → ℕ → (ℕ × ℕ) × List ℕ
piece r a n = ((r.ref_ptr.0, a + r.ref_ptr.1), take n (drop a r.now))

-- the winner's precedence bytes, or the empty part at the start of the first
abbrev pub piece_by : Winner → Bor (List ℕ) → Bor (List ℕ) → (ℕ × ℕ) × List ℕ
piece_by Neither a b = piece a 0 0
piece_by First a b = piece a precedence_start precedence_bytes
piece_by Second a b = piece b precedence_start precedence_bytes

abbrev pub better_part_of : Bor (List ℕ) → Bor (List ℕ) → (ℕ × ℕ) × List ℕ
better_part_of a b = piece_by (winner_of (standing_of a.now) (standing_of b.now)) a b
