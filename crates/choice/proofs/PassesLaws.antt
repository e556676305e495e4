-- Laws of the passes left: they are the one function of the rule; they are those of the formula; and a table that passes the test has them, and no other does.
use mathlib.Core.Path.{◌≡◌, refl, sym, ap, ◌∙◌, subst}
use mathlib.Core.Bool.{true, false}
use mathlib.Core.List.{List, [], ◌∷◌}
use mathlib.Core.Logic.{⊎_elim}
use Prim.Native.Nat.{ℕ, zero, suc, ◌+◌, ◌-◌, ◌*◌, ◌^◌, ◌<◌, ◌≤◌, zero-le}
use native.Mathlib.Nat.{le_antisymm, eq-or-lt_of_le, pow-suc}
use native.Mathlib.Numerals.{add-one}
use native.Mathlib.Omega.{arith}
use borrow.Author.Tests.{eq-eqb, ne_eqb, eqb-true}
use lib.Dec.{eqb}
use lib.ListN.{length, drop, get_or, drop_of_length-le}
use lib.Seq.{drop-cons}
use Rattle.numbers.proofs.Branches.{if_true, if_false}
use Rattle.times.proofs.TestLaws.{both_hold}
use Rattle.choice.specs.Hop.{last_hop, jump_of}
use Rattle.choice.specs.Passes.{PassesRule, passes_within, passes_of, LeastPower, ByFormula, hops, PassesTable, staircase, agrees_from, agrees_of}
use Rattle.choice.proofs.HopLaws.{jump_rises, jump_within}

-- ---- the rule

-- at the last hop there are none, whatever steps there are
within_last : (n h : ℕ) → h ≡ last_hop → passes_within n h ≡ 0
unfolding passes_within
within_last zero h e = refl
within_last (suc n) h e = sym (if_true (eqb h last_hop) 0 (1 + passes_within n (h + jump_of h)) (eq-eqb h last_hop e))

-- and below it a step is taken
within_step : (n h : ℕ) → h < last_hop → passes_within (suc n) h ≡ 1 + passes_within n (h + jump_of h)
unfolding passes_within
within_step n h l = sym (if_false (eqb h last_hop) 0 (1 + passes_within n (h + jump_of h)) (ne_eqb h last_hop (λ e. omega (arith, e, l))))

-- where the steps are enough, it makes no difference how many there are
within_enough : (n m h : ℕ) → h ≤ last_hop → last_hop ≤ n + h → last_hop ≤ m + h → passes_within n h ≡ passes_within m h
within_enough zero m h l p q = within_last 0 h (omega (arith, l, p)) ∙ sym (within_last m h (omega (arith, l, p)))
within_enough (suc n) zero h l p q = within_last (suc n) h (omega (arith, l, q)) ∙ sym (within_last 0 h (omega (arith, l, q)))
within_enough (suc n) (suc m) h l p q =
    ⊎_elim
    (λ last. within_last (suc n) h last ∙ sym (within_last (suc m) h last))
    (λ below.
    let rises = jump_rises h in
    within_step n h below
    ∙ ap (λ (k : ℕ). 1 + k) (within_enough n m (h + jump_of h) (jump_within h below) (omega (arith, p, rises)) (omega (arith, q, rises)))
    ∙ sym (within_step m h below))
    (eq-or-lt_of_le l)

-- the passes left are by the rule
pub passes_last : passes_of last_hop ≡ 0
unfolding passes_of
passes_last = within_last (last_hop - last_hop) last_hop refl

pub passes_step : (h : ℕ) → h < last_hop → passes_of h ≡ 1 + passes_of (h + jump_of h)
unfolding passes_of
passes_step h l =
    let to = h + jump_of h in
    let rises = jump_rises h in
    let one : last_hop - h ≡ suc (last_hop - suc h) = omega (arith, l) in
    ap (λ (n : ℕ). passes_within n h) one
    ∙ within_step (last_hop - suc h) h l
    ∙ ap (λ (k : ℕ). 1 + k) (within_enough (last_hop - suc h) (last_hop - to) to (jump_within h l) (omega (arith, rises)) (omega arith))

pub passes_rule : PassesRule passes_of
passes_rule = record { at_last = passes_last; below_last = passes_step }

-- and no other number is: what the rule says of a function, it says of every hop
rule_within : (passes : ℕ → ℕ) → PassesRule passes → (n h : ℕ) → h ≤ last_hop → last_hop ≤ n + h → passes h ≡ passes_of h
rule_within passes rule zero h l p = let last : h ≡ last_hop = omega (arith, l, p) in ap passes last ∙ rule.at_last ∙ sym passes_last ∙ ap passes_of (sym last)
rule_within passes rule (suc n) h l p =
    ⊎_elim
    (λ last. ap passes last ∙ rule.at_last ∙ sym passes_last ∙ ap passes_of (sym last))
    (λ below.
    rule.below_last h below
    ∙ ap (λ (k : ℕ). 1 + k) (rule_within passes rule n (h + jump_of h) (jump_within h below) (omega (arith, p, jump_rises h)))
    ∙ sym (passes_step h below))
    (eq-or-lt_of_le l)

pub passes_only : (passes : ℕ → ℕ) → PassesRule passes → (h : ℕ) → h ≤ last_hop → passes h ≡ passes_of h
passes_only passes rule h l = rule_within passes rule last_hop h l (omega arith)

-- ---- the formula

-- two least numbers are one
pub least_power_one : (g k j : ℕ) → LeastPower g k → LeastPower g j → k ≡ j
least_power_one g k j a b = le_antisymm (a.least j b.reaches) (b.least k a.reaches)

-- so the formula gives one number
pub formula_one : (g p q : ℕ) → ByFormula g p → ByFormula g q → p ≡ q
formula_one g p q a b = ⊎_elim (λ none. a.none_left (sym none) ∙ sym (b.none_left (sym none))) some (eq-or-lt_of_le zero-le)
  where
    some : 0 < g → p ≡ q
    some l =
        let left = a.some_left l in
        let right = b.some_left l in
        omega (arith, left.2, right.2, least_power_one g left.0 right.0 left.1 right.1)

-- where one hop is left, 2^0 reaches it
one_left : LeastPower 1 0
one_left = record { reaches = omega arith; least = λ j _. omega arith }

-- where twice as many are left, or one fewer than that, the power is one more
doubled : (g half k : ℕ) → 1 < g → g ≤ 2 * half → 2 * half ≤ g + 1 → LeastPower half k → LeastPower g (suc k)
doubled g half k some low high p = record { reaches = omega (arith, low, p.reaches, pow-suc 2 k); least = least }
  where
    least : (j : ℕ) → g ≤ 2 ^ j → suc k ≤ j
    least zero r = absurd (omega (arith, some, r))
    least (suc j) r = let here = p.least j (omega (arith, high, r, pow-suc 2 j)) in omega (arith, here)

-- a jump leaves half of the hops, rounded up
jump_leaves : (h : ℕ) → 1 < last_hop - h → (last_hop - h ≤ 2 * (last_hop - (h + jump_of h))) × (2 * (last_hop - (h + jump_of h)) ≤ last_hop - h + 1)
unfolding jump_of
jump_leaves h l = (omega (arith, l), omega (arith, l))

-- and the last one where it is the last
jump_last : (h : ℕ) → last_hop - h ≡ 1 → h + jump_of h ≡ last_hop
unfolding jump_of
jump_last h e = omega (arith, e)

-- at the last hop
last_formula : (h : ℕ) → h ≡ last_hop → ByFormula (last_hop - h) (passes_of h)
last_formula h e = record { none_left = λ _. ap passes_of e ∙ passes_last; some_left = λ l. absurd (omega (arith, l, e)) }

-- below it, where the formula holds at the hop that the jump leads to
jumped_formula : (h : ℕ) → h < last_hop → ByFormula (last_hop - (h + jump_of h)) (passes_of (h + jump_of h)) → ByFormula (last_hop - h) (passes_of h)
jumped_formula h below f = record { none_left = λ e. absurd (omega (arith, e, below)); some_left = λ some. ⊎_elim one many (eq-or-lt_of_le some) }
  where
    Given : Type 0
    Given = (k : ℕ) × LeastPower (last_hop - h) k × (passes_of h ≡ 1 + k)

    one : 1 ≡ last_hop - h → Given
    one e =
        let last = jump_last h (sym e) in
        (0, subst (λ (g : ℕ). LeastPower g 0) e one_left, passes_step h below ∙ ap (λ (k : ℕ). 1 + k) (ap passes_of last ∙ passes_last))

    many : 1 < last_hop - h → Given
    many l =
        let half = jump_leaves h l in
        let to = f.some_left (omega (arith, half.0, l)) in
        (suc to.0, doubled (last_hop - h) (last_hop - (h + jump_of h)) to.0 l half.0 half.1 to.1, omega (arith, passes_step h below, to.2))

formula_within : (n h : ℕ) → h ≤ last_hop → last_hop ≤ n + h → ByFormula (last_hop - h) (passes_of h)
formula_within zero h l p = last_formula h (omega (arith, l, p))
formula_within (suc n) h l p =
    ⊎_elim (last_formula h)
    (λ below. jumped_formula h below (formula_within n (h + jump_of h) (jump_within h below) (omega (arith, p, jump_rises h))))
    (eq-or-lt_of_le l)

-- THE FORMULA, for every hop
pub passes_formula : (h : ℕ) → h ≤ last_hop → ByFormula (last_hop - h) (passes_of h)
passes_formula h l = formula_within last_hop h l (omega arith)

-- at a greater hop there are no more passes left: fewer hops want no greater power
pub passes_order : (h k : ℕ) → h ≤ k → k ≤ last_hop → passes_of k ≤ passes_of h
passes_order h k l top = ⊎_elim (λ last. omega (arith, ap passes_of last ∙ passes_last)) some (eq-or-lt_of_le top)
  where
    some : k < last_hop → passes_of k ≤ passes_of h
    some below =
        let there = (passes_formula k top).some_left (omega (arith, below)) in
        let here = (passes_formula h (omega (arith, l, top))).some_left (omega (arith, l, below)) in
        omega (arith, there.2, here.2, there.1.least here.0 (omega (arith, here.1.reaches, l)))

-- ---- where the passes end

-- no hop has more than nine: 255 hops are fewer than 2^8
pub passes_most : (h : ℕ) → h ≤ last_hop → passes_of h ≤ 9
passes_most h l = ⊎_elim (λ last. omega (arith, ap passes_of last ∙ passes_last)) some (eq-or-lt_of_le l)
  where
    some : h < last_hop → passes_of h ≤ 9
    some below =
        let f = (passes_formula h l).some_left (omega (arith, below)) in
        omega (arith, f.2, f.1.least 8 (omega arith))

-- ---- the table

-- a table of another length fails the test
pub test_length : (table : List ℕ) → (length table ≡ hops → ⊥) → agrees_of table ≡ false
unfolding agrees_of
test_length table n = rw (ne_eqb (length table) hops n)

-- the loop over one of this length: what is left of the test is the test from a hop on
pub test_start : (table : List ℕ) → length table ≡ hops → agrees_of table ≡ agrees_from 0 (drop 0 table)
unfolding agrees_of
test_start table e = rw (eq-eqb (length table) hops e)

pub test_fails : (table : List ℕ) (h : ℕ) → h < length table → (get_or table h 0 ≡ passes_of h → ⊥) → agrees_from h (drop h table) ≡ false
unfolding agrees_from
test_fails table h l n = ap (agrees_from h) (drop-cons table h 0 l) ∙ rw (ne_eqb (get_or table h 0) (passes_of h) n)

pub test_onward : (table : List ℕ) (h : ℕ) → h < length table → get_or table h 0 ≡ passes_of h → agrees_from h (drop h table) ≡ agrees_from (h + 1) (drop (h + 1) table)
unfolding agrees_from
test_onward table h l e = ap (agrees_from h) (drop-cons table h 0 l) ∙ rw (eq-eqb (get_or table h 0) (passes_of h) e, add-one)

pub test_end : (table : List ℕ) (h : ℕ) → length table ≤ h → agrees_from h (drop h table) ≡ true
unfolding agrees_from
test_end table h l = ap (agrees_from h) (drop_of_length-le table {i = h} l)

-- a table that passes the test has at each place the passes left at its hop
from_test : (table : List ℕ) (h : ℕ) → agrees_from h table ≡ true → (i : ℕ) → i < length table → get_or table i 0 ≡ passes_of (h + i)
unfolding agrees_from
from_test [] h t i l = absurd (omega (arith, l))
from_test (x ∷ table) h t zero l = eqb-true x (passes_of h) (both_hold (eqb x (passes_of h)) _ t).0 ∙ ap passes_of (omega arith)
from_test (x ∷ table) h t (suc i) l = from_test table (suc h) (both_hold (eqb x (passes_of h)) _ t).1 i (omega (arith, l)) ∙ ap passes_of (omega arith)

-- and one that has them passes it
to_test : (table : List ℕ) (h : ℕ) → ((i : ℕ) → i < length table → get_or table i 0 ≡ passes_of (h + i)) → agrees_from h table ≡ true
unfolding agrees_from
to_test [] h e = refl
to_test (x ∷ table) h e =
    rw (eq-eqb x (passes_of h) (e 0 (omega arith) ∙ ap passes_of (omega arith)), to_test table (suc h) (λ i l. e (suc i) (omega (arith, l)) ∙ ap passes_of (omega arith)))

-- THE TEST'S SUCCESS IS THE AGREEMENT, of any list of numbers
pub test_agreement : (table : List ℕ) → agrees_of table ≡ true → PassesTable table
unfolding agrees_of
test_agreement table t =
    let both = both_hold (eqb (length table) hops) _ t in
    let every = eqb-true (length table) hops both.0 in
    record { every_hop = every; entry = λ h l. from_test table 0 both.1 h (omega (arith, every, l)) ∙ ap passes_of (omega arith) }

pub agreement_test : (table : List ℕ) → PassesTable table → agrees_of table ≡ true
unfolding agrees_of
agreement_test table a =
    rw (eq-eqb (length table) hops a.every_hop, to_test table 0 (λ i l. a.entry i (omega (arith, a.every_hop, l)) ∙ ap passes_of (omega arith)))

-- and it agrees with the formula too
pub table_formula : (table : List ℕ) → PassesTable table → (h : ℕ) → h < hops → ByFormula (last_hop - h) (get_or table h 0)
table_formula table t h l = subst (ByFormula (last_hop - h)) (sym (t.entry h l)) (passes_formula h (omega (arith, l)))

-- the staircase passes it
pub staircase_table : PassesTable staircase
unfolding jump_of passes_within passes_of agrees_from agrees_of staircase
staircase_table = test_agreement staircase refl
