-- A table's entries, each with its hop: the test of them all is the test from a hop on.
use Rattle.std.proofs.Common.{◌≡◌, ◌+◌, ℕ, suc, Bool, ◌&&◌, List, [], ◌∷◌, nat_eq, refl, ap, ◌∙◌, arith}
use Rattle.std.specs.List.{list_all, enumerate_from}
use Rattle.choice.specs.Passes.{passes_of, agrees_from}

-- whether the entry of a hop is the passes left there
abbrev pub entry_fits : ℕ × ℕ → Bool
entry_fits e = nat_eq e.1 (passes_of e.0)

pub entries_agree : (h : ℕ) (table : List ℕ) → list_all entry_fits (enumerate_from h table) ≡ agrees_from h table
unfolding agrees_from
entries_agree h [] = refl
entries_agree h (x ∷ table) =
    let next : h + 1 ≡ suc h = omega arith in
    ap (λ (t : Bool). nat_eq x (passes_of h) && t) (entries_agree (h + 1) table ∙ ap (λ n. agrees_from n table) next)
