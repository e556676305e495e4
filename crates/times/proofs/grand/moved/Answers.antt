-- Earlier by the size of x where x is below zero, later by it where not.
use Rattle.std.proofs.Common.{◌≡◌, ℤ, pos, nat_abs, sym, ap, ◌∙◌, arith, w64, to_z, of_z, rules}
use lib.Signed.{lt_z}
use Rattle.numbers.proofs.Machine.{back, moved_down, moved_up}
use Rattle.times.specs.Times.{units, moment_of}
use Rattle.times.proofs.grand.moved.Goals as goal
use Rattle.times.proofs.grand.moved.Goals.{After-abs-n, After-is_negative, Start}

-- what the callees are passed is x
same-x : (c : Start) → to_z w64 (of_z w64 c.args.x) ≡ c.args.x
same-x c = back c.args.x c.ranges.x

size : (c : After-abs-n) → c.abs-n.result ≡ nat_abs c.before.args.x
size c = c.abs-n.ensures ∙ ap nat_abs (same-x c.before)

sign : (c : After-is_negative) → c.is_negative.result ≡ lt_z c.before.before.args.x (pos 0)
sign c = c.is_negative.ensures ∙ ap (λ (y : ℤ). lt_z y (pos 0)) (same-x c.before.before)

pub earlier-requires : goal.earlier-requires
earlier-requires c = record { in_range = search rules; n_lt_second = omega (arith, size c.before.before) }

pub later-requires : goal.later-requires
later-requires c = record { in_range = search rules; n_lt_second = omega (arith, size c.before.before) }

pub returns-then-is_negative : goal.returns-then-is_negative
returns-then-is_negative c =
    let t = c.before in
    let s = t.before.before.before in
    c.earlier.ensures ∙ ap moment_of (moved_down (units s.args.g) _ s.args.x (sym (sign t.before) ∙ t.if-is_negative.true) (size t.before.before))

pub returns-else-is_negative : goal.returns-else-is_negative
returns-else-is_negative c =
    let t = c.before in
    let s = t.before.before.before in
    c.later.ensures ∙ ap moment_of (moved_up (units s.args.g) _ s.args.x (sym (sign t.before) ∙ t.if-is_negative.false) (size t.before.before))
