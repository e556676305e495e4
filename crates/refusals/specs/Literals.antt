-- Document 01's literals: what a table of them is, and the table of the refusals' numbers.
use Rattle.std.specs.Prelude.{◌≡◌, Bool, true, false, List, [], ◌∷◌, map, ℕ}
use Rattle.refusals.specs.Refusals.{done, bad_setup, out_of_range, no_link, wrong_length, wrong_constant, wrong_version, last_hop_heard, not_next, delay_too_long, no_clock, few_samples, too_late, beyond_range, bad_line}

-- what the definitions give, and what the document says
pub record Literal : Type 0 where
  pub got : ℕ
  pub says : ℕ

abbrev pub literal : ℕ → ℕ → Literal
literal g s = record { got = g; says = s }

-- a test as a number: 1 where it holds
abbrev pub tested : Bool → ℕ
tested true = 1
tested false = 0

-- in every row the definitions give what the document says
abbrev pub AsWritten : List Literal → Type 0
AsWritten table = map (λ (l : Literal). l.got) table ≡ map (λ (l : Literal). l.says) table

-- the refusals' numbers, in the document's order; 0 means done
unfoldable pub numbers : List Literal
numbers =
    literal done 0
    ∷ literal bad_setup 1
    ∷ literal out_of_range 2
    ∷ literal no_link 3
    ∷ literal wrong_length 4
    ∷ literal wrong_constant 5
    ∷ literal wrong_version 6
    ∷ literal last_hop_heard 7
    ∷ literal not_next 8
    ∷ literal delay_too_long 9
    ∷ literal no_clock 10
    ∷ literal few_samples 11
    ∷ literal too_late 12
    ∷ literal beyond_range 13
    ∷ literal bad_line 14
    ∷ []
