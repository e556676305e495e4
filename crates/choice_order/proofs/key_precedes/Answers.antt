-- Precedence decides, and then the hop.
use Rattle.std.proofs.Common.{rules, ◌∙◌, ap, refl, arith, Option, Some, Ordering}
use Rattle.std.specs.Ordering.{nat_cmp, partial_ordering_then}
use Rattle.choice.specs.Precedence.{precedence_of, key_of}
use Rattle.choice_order.proofs.OrderLaws.{next_compared, less_compared, precedence_compared}
use Rattle.choice_order.proofs.key_precedes.Goals as goal

pub returns : goal.returns
unfolding key_of
returns c =
    let p = c.args.p in
    let q = c.args.q in
    c.lt.ensures
    ∙ less_compared _ _
    (ap (λ (o : Option Ordering). partial_ordering_then o (Some (nat_cmp c.args.h c.args.k))) (precedence_compared p q (search rules) (search rules))
    ∙ next_compared 256 (precedence_of p) (precedence_of q) c.args.h c.args.k (omega arith) (omega arith) refl)
