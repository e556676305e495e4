-- Drift: each arm is a case of the two ends.
use Rattle.std.proofs.Common.{◌≡◌, sym, ap, ◌∙◌, w64, to_z, of_z, Some}
use Rattle.samples.specs.Keep.{rate_between, ends_of, LawfulEnds}
use Rattle.timeline.specs.Drift.{ppm_of, drift_through_of, drift_of}
use Rattle.timeline.specs.declared.Drift.TheVariants.{PartsPerMillion}
use Rattle.numbers.proofs.Machine.{got}
use Rattle.samples.proofs.KeepLaws.{between_small, ends_lawful}
use Rattle.timeline.proofs.ppm.drift.Goals as goal
use Rattle.timeline.proofs.ppm.drift.Goals.{After-rate_between, In-Some}

-- the two ends that the match finds
found : (c : In-Some) → Some c.in-Some.field-0 ≡ ends_of c.args.samples
found c = sym c.in-Some.is ∙ c.ends.ensures

lawful : (c : In-Some) → LawfulEnds c.in-Some.field-0.oldest c.in-Some.field-0.newest
lawful c = ends_lawful c.args.samples _ c.requires (sym (found c))

-- the rate as it is passed on
rate-is : (c : After-rate_between) → to_z w64 (of_z w64 c.rate_between.result) ≡ rate_between c.in-Some.field-0.oldest c.in-Some.field-0.newest
rate-is c = got c.rate_between.type_inv c.rate_between.ensures

pub rate_between-requires : goal.rate_between-requires
rate_between-requires c = lawful (goal.at.rate_between-requires c).In-Some

pub parts_per_million-requires : goal.parts_per_million-requires
parts_per_million-requires c = rw (rate-is c) (between_small _ _ (lawful (goal.at.parts_per_million-requires c).In-Some))

pub returns-in-None : goal.returns-in-None
unfolding drift_of
returns-in-None c = ap drift_through_of (sym c.in-None.is ∙ c.ends.ensures)

pub returns-in-Some : goal.returns-in-Some
unfolding drift_of
returns-in-Some c =
    let at = goal.at.returns-in-Some c in
    ap PartsPerMillion (c.parts_per_million.ensures ∙ ap ppm_of (rate-is at.After-rate_between)) ∙ ap drift_through_of (found at.In-Some)
