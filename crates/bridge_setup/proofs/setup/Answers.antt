-- By what Setup takes.
use mathlib.Core.Path.{◌≡◌, sym, ap, ◌∙◌}
use borrow.Author.Rules.{rules}
use Rattle.std.proofs.Common.{Err}
use Rattle.refusals.specs.Answer.{granted}
use Rattle.refusals.specs.declared.Refusal.TheVariants.{BadSetup}
use Rattle.bridge.specs.State.{TypedSetup, answers}
use Rattle.bridge.specs.Setup.{fresh_of, no_bridge, setup_of}
use Rattle.bridge.proofs.StateLaws.{setup_done, profile_refused, ranges_refused}
use Rattle.bridge.proofs.Keeps.{setup_lawful}
use Rattle.bridge.proofs.PromiseLaws.{out}
use Rattle.bridge_setup.proofs.setup.Goals as goal
use Rattle.bridge_setup.proofs.setup.Goals.{Start, else-profile_fits-via-then-profile_fits+else-ranges_fit, else-profile_fits-via-else-profile_fits}

-- what the types of its fields say
typed : (c : Start) → TypedSetup c.args.given
typed c = record {
  settings_all = search rules;
  versions_all = search rules;
  address = search rules;
  own_fits = search rules;
}

pub returns-then-ranges_fit : goal.returns-then-ranges_fit
returns-then-ranges_fit c =
    out _ _
    (ap (answers granted) c.fresh.ensures ∙ setup_done _ (sym c.profile_fits.ensures ∙ c.if-profile_fits.true) (sym c.ranges_fit.ensures ∙ c.if-ranges_fit.true))
    (setup_lawful _ (typed (goal.at.returns-then-ranges_fit c).Start))

pub returns : goal.returns
returns c =
    let profile = c.profile_fits.ensures in
    -- one of the two tests does not hold
    let refused : answers (Err BadSetup) no_bridge ≡ setup_of c.args.given =
    elim c.else-profile_fits.branch [
      | else-profile_fits-via-then-profile_fits+else-ranges_fit w ↦ ranges_refused _ (sym profile ∙ w.if-profile_fits.true) (sym w.ranges_fit.ensures ∙ w.if-ranges_fit.false)
      | else-profile_fits-via-else-profile_fits w ↦ profile_refused _ (sym profile ∙ w.if-profile_fits.false)
    ] in
    out _ _
    (ap (answers (Err BadSetup)) (c.fresh-2.ensures ∙ ap fresh_of c.plain_setup.ensures) ∙ refused)
    (setup_lawful _ (typed (goal.at.returns c).Start))
