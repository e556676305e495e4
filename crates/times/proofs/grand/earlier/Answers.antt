-- The difference of the fractions, with a second borrowed where it is below zero and there is one to borrow.
use Rattle.std.proofs.Common.{◌≡◌, ◌+◌, pos, ◌-ℤ◌, Some, arith}
use Rattle.numbers.proofs.Ring.{minus_pos}
use Rattle.times.specs.Times.{units, InRange, moment_of}
use Rattle.times.specs.declared.GrandTime.{GrandTime}
use Rattle.times.proofs.TimeLaws.{moment_at, moment_under}
use Rattle.times.proofs.grand.earlier.Goals as goal
use Rattle.times.proofs.grand.earlier.Goals.{After-struct_known-2-1, Start}

-- where the function was entered
abbrev start : After-struct_known-2-1 → Start
start k = k.before.before.before

-- a grand time n below g
lies : (s : Start) (h : GrandTime) → InRange h → s.args.n + units h ≡ units s.args.g → Some h ≡ moment_of (pos (units s.args.g) -ℤ pos s.args.n)
lies s h r e = moment_at h _ r (minus_pos s.args.n (units s.args.g) (units h) e)

pub returns-then-n-g : goal.returns-then-n-g
returns-then-n-g c = lies c.before.before.before _ (record { seconds = omega arith; fraction = omega arith }) (omega arith)

pub returns-then-g-eq0 : goal.returns-then-g-eq0
returns-then-g-eq0 c =
    let s = start c.before in
    moment_under (units s.args.g) s.args.n (omega arith)

pub returns : goal.returns
returns c = lies (start c.before.before.before) _ (record { seconds = omega arith; fraction = omega arith }) (omega arith)
