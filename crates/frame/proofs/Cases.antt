-- Where Better's part lies and what it holds, by each winner; and that on a tie it is the first one's.
use mathlib.Core.Path.{◌≡◌, refl, sym, ap, ◌∙◌}
use mathlib.Core.List.{List, []}
use Prim.Native.Nat.{ℕ, ◌+◌, ◌*◌}
use native.Mathlib.Nat.{le_of_eq}
use lib.ListN.{take, drop}
use borrow.Author.Tests.{le-ltb}
use denote.Ref.{Bor}
use Rattle.std.proofs.Common.{Some, Ok}
use Rattle.choice.specs.Precedence.{precedence_of, key_of}
use Rattle.frame.specs.Read.{read_of}
use Rattle.frame.specs.Better.{winner_of, piece_by, better_part_of}
use Rattle.frame.specs.declared.Fields.{Fields}
use Rattle.frame.specs.declared.Standing.{Standing}
use Rattle.frame.specs.declared.Winner.TheVariants.{Neither, First, Second}
use Rattle.numbers.proofs.Branches.{if_false}
use Rattle.frame.proofs.FrameLaws.{other_stands}

-- both lose: the empty part at the start of the first
pub neither_part : (a b : Bor (List ℕ)) → piece_by Neither a b ≡ ((a.ref_ptr.0, 0 + a.ref_ptr.1), [])
neither_part a b = refl

-- one wins: 13 bytes of it from its byte 16 on
pub first_part : (a b : Bor (List ℕ)) → piece_by First a b ≡ ((a.ref_ptr.0, 16 + a.ref_ptr.1), take 13 (drop 16 a.now))
first_part a b = refl

pub second_part : (a b : Bor (List ℕ)) → piece_by Second a b ≡ ((b.ref_ptr.0, 16 + b.ref_ptr.1), take 13 (drop 16 b.now))
second_part a b = refl

-- ---- a tie

-- equal keys: the first wins
tie_winner : (x y : Standing) → key_of x.precedence x.hop ≡ key_of y.precedence y.hop → winner_of (Some x) (Some y) ≡ First
unfolding winner_of
tie_winner x y e = sym (if_false _ _ _ (le-ltb _ _ (le_of_eq e)))

-- two good frames with the same precedence and hop: the first one's 13 bytes, as they stand in it
pub tie_first : (a b : Bor (List ℕ)) (f g : Fields) → read_of a.now ≡ Ok f → read_of b.now ≡ Ok g
    → precedence_of f.precedence ≡ precedence_of g.precedence → f.hop ≡ g.hop → (f.hop ≡ 255 → ⊥)
    → better_part_of a b ≡ ((a.ref_ptr.0, 16 + a.ref_ptr.1), take 13 (drop 16 a.now))
unfolding key_of
tie_first a b f g d e same hops low =
    let x = other_stands a.now f (sym d) low in
    let y = other_stands b.now g (sym e) (λ last. low (hops ∙ last)) in
    let key : key_of f.precedence f.hop ≡ key_of g.precedence g.hop = λ i. same i * 256 + hops i in
    (λ i. piece_by (winner_of (sym x i) (sym y i)) a b)
    ∙ ap (λ w. piece_by w a b) (tie_winner (record { precedence = f.precedence; hop = f.hop }) (record { precedence = g.precedence; hop = g.hop }) key)
