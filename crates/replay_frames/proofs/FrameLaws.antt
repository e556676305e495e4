-- Laws of the lines over frames: the better frame's bytes.
use mathlib.Core.Path.{◌≡◌, refl, ap, ◌∙◌}
use mathlib.Core.List.{List}
use Prim.Native.Nat.{ℕ, ◌≤◌}
use native.Mathlib.Omega.{arith}
use lib.ListN.{length, length-take}
use denote.Ref.{Bor}
use Rattle.frame.specs.Better.{standing_of, winner_of, precedence_bytes, lies, piece_by, better_part_of}
use Rattle.frame.specs.declared.Winner.{Winner}
use Rattle.frame.specs.declared.Winner.TheVariants.{Neither, First, Second}
use Rattle.columns.specs.Columns.{bytes_line}
use Rattle.replay_frames.specs.Frames.{piece_of, better_text_of}

piece_bytes : (w : Winner) (a b : Bor (List ℕ)) → (piece_by w a b).1 ≡ piece_of w a.now b.now
piece_bytes Neither a b = refl
piece_bytes First a b = refl
piece_bytes Second a b = refl

piece_small : (w : Winner) (a b : List ℕ) → length (piece_of w a b) ≤ precedence_bytes
piece_small Neither a b = omega arith
piece_small First a b = rw length-take (omega arith)
piece_small Second a b = rw length-take (omega arith)

module _ (r a b : Bor (List ℕ)) (e : lies r ≡ better_part_of a b) where
  same : r.now ≡ piece_of (winner_of (standing_of a.now) (standing_of b.now)) a.now b.now
  same = ap (λ (x : (ℕ × ℕ) × List ℕ). x.1) e ∙ piece_bytes (winner_of (standing_of a.now) (standing_of b.now)) a b

  pub better-text : bytes_line r.now ≡ better_text_of a.now b.now
  unfolding better_text_of
  better-text = ap bytes_line same

  pub better_short : length r.now ≤ precedence_bytes
  better_short = rw same (piece_small (winner_of (standing_of a.now) (standing_of b.now)) a.now b.now)
