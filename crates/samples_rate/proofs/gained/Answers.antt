-- Each limit is tested in turn; the size of the gain is that of a difference below 2^48.
use Rattle.std.proofs.Common.{◌≡◌, pos, nat_abs, ◌-ℤ◌, ap, ◌∙◌, arith, w64, to_z, of_z}
use Rattle.numbers.proofs.Machine.{got}
use Rattle.samples.proofs.RateLaws.{gain_within, gain_outside}
use Rattle.samples_rate.proofs.gained.Goals as goal
use Rattle.samples_rate.proofs.gained.Goals.{After-abs, After-difference-d}

-- d, as it is passed on and returned
gain-is : (c : After-difference-d) → to_z w64 (of_z w64 c.difference-d.result) ≡ pos c.args.rise -ℤ pos c.args.s
gain-is c = got c.difference-d.type_inv c.difference-d.ensures

abs_is : (c : After-abs) → c.abs.result ≡ nat_abs (pos c.args.rise -ℤ pos c.args.s)
abs_is c = c.abs.ensures ∙ ap nat_abs (gain-is c.before)

pub returns-then-s-lt-SHORTEST : goal.returns-then-s-lt-SHORTEST
returns-then-s-lt-SHORTEST c = gain_outside _ _ (λ k. omega (arith, c.then-s-lt-SHORTEST.either))

pub returns-then-abs-s : goal.returns-then-abs-s
returns-then-abs-s c =
    let a = (goal.at.returns-then-abs-s c).After-abs in
    rw (gain-is a.before) (gain_within _ _ (omega (arith, abs_is a)))

pub returns-else-abs-s : goal.returns-else-abs-s
returns-else-abs-s c = gain_outside _ _ (λ k. omega (arith, abs_is (goal.at.returns-else-abs-s c).After-abs))
