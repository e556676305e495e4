-- The function calls itself at the hop that the jump leads to, where fewer hops are left up to the last.
use Rattle.std.proofs.Common.{ℕ, ◌+◌, ◌-◌, ◌<◌, sym, ap, ◌∙◌, subst, arith}
use Rattle.choice.specs.Hop.{last_hop}
use Rattle.choice.specs.Passes.{passes_of}
use Rattle.choice.proofs.HopLaws.{jump_rises, jump_within}
use Rattle.choice.proofs.PassesLaws.{passes_last, passes_step, passes_most}
use Rattle.choice_passes.proofs.+passes_by_rule.Goals as goal

-- at the last hop
pub returns-then-hop-eq-LAST_HOP : goal.returns-then-hop-eq-LAST_HOP
returns-then-hop-eq-LAST_HOP t c = sym (ap passes_of c.if-hop-eq-LAST_HOP.true ∙ passes_last)

-- where it was called on, the hop is below the last, and the jump stays within a byte
pub overflow_add-hop : goal.overflow_add-hop
overflow_add-hop t c =
    let below : c.args.hop < last_hop = omega arith in
    rw c.jump.ensures (omega (arith, jump_within c.args.hop below))

-- it leaves fewer hops
pub passes_by_rule-requires : goal.passes_by_rule-requires
passes_by_rule-requires t c =
    let h = c.args.hop in
    let below : h < last_hop = omega arith in
    (subst (λ (n : ℕ). last_hop - (h + c.jump.result) < n) c.decreases (rw c.jump.ensures (omega (arith, jump_rises h, below))), tt)

-- one more than nine is a byte
pub overflow_add-result : goal.overflow_add-result
overflow_add-result t c =
    let below : c.args.hop < last_hop = omega arith in
    let within = rw (← c.jump.ensures) at (jump_within c.args.hop below) in
    omega (arith, c.passes_by_rule.ensures, passes_most _ within)

-- at any other hop
pub returns : goal.returns
returns t c =
    let h = c.args.hop in
    let below : h < last_hop = omega arith in
    ap (λ (k : ℕ). 1 + k) (c.passes_by_rule.ensures ∙ ap (λ (n : ℕ). passes_of (h + n)) c.jump.ensures) ∙ sym (passes_step h below)
