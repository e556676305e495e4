-- The rate between two samples: the limits hold between them, so there is a gain, and the rate is that gain's.
use Rattle.std.proofs.Common.{rules, ◌≡◌, ℕ, ℤ, sym, ap, ◌∙◌, SFits, w64, to_z, of_z}
use Rattle.samples.specs.Rate.{Limits, rate_of}
use Rattle.samples.specs.Keep.{spread_of, rise_of, gained_of}
use Rattle.numbers.proofs.Machine.{back, got}
use Rattle.samples.proofs.RateLaws.{within_gain, outside_gain}
use Rattle.samples_kept.proofs.rate_between.Goals as goal
use Rattle.samples_kept.proofs.rate_between.Goals.{In-Some}

-- the gain that the match finds
gain-is : (c : In-Some) → (c.in-Some.d ≡ gained_of c.args.oldest c.args.newest) × Limits c.in-Some.d (spread_of c.args.oldest c.args.newest)
gain-is c = within_gain _ _ _ (sym c.in-Some.is ∙ c.gain_between.ensures)

-- as it is passed on
passed : (c : In-Some) → to_z w64 (of_z w64 c.in-Some.d) ≡ c.in-Some.d
passed c =
    let f : SFits w64 c.in-Some.d = search rules in
    back c.in-Some.d f

pub rate-requires : goal.rate-requires
rate-requires c =
    let a = (goal.at.rate-requires c).In-Some in
    rw (passed a, c.since.ensures) (gain-is a).1

pub returns-in-Some : goal.returns-in-Some
returns-in-Some c =
    let a = (goal.at.returns-in-Some c).In-Some in
    got c.rate.type_inv
    (c.rate.ensures
    ∙ ap (λ (y : ℤ). rate_of y c.since.result) (passed a ∙ (gain-is a).0)
    ∙ ap (λ (n : ℕ). rate_of (gained_of c.args.oldest c.args.newest) n) c.since.ensures)

pub returns-in-None : goal.returns-in-None
returns-in-None c =
    absurd (outside_gain (rise_of c.args.oldest c.args.newest) (spread_of c.args.oldest c.args.newest) (sym c.in-None.is ∙ c.gain_between.ensures) c.requires.limits)
