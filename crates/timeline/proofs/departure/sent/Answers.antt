-- What a frame carries: at each return the case of the rule that the tests on the way left.
use Rattle.std.proofs.Common.{◌≡◌, ℕ, ◌<◌, sym, ap, refl, ◌∙◌, arith, w64, to_z, of_z, Option, Some, None, Result, Ok, Err}
use Rattle.std.proofs.lemmas.Result.{err_from_is_err_and}
use Rattle.std.specs.Option.{ok_or}
use Rattle.refusals.specs.declared.Refusal.{Refusal}
use Rattle.times.specs.Times.{since_of, moment_of, error_time_of}
use Rattle.samples.specs.Keep.{rate_between, ends_of, LawfulEnds}
use Rattle.samples.specs.declared.Ends.{Ends}
use Rattle.timeline.specs.Line.{reading_at}
use Rattle.timeline.specs.Sent.{longest_elapsed, reach_of, sent_time, sent_error}
use Rattle.numbers.proofs.Machine.{got}
use Rattle.samples.proofs.KeepLaws.{between_small, ends_lawful}
use Rattle.timeline.proofs.SentLaws.{sent-through, sent_late, sent-as}
use Rattle.timeline.proofs.departure.sent.Goals as goal
use Rattle.timeline.proofs.departure.sent.Goals.{After-difference-reach, After-error_after, After-reading, In-Some}

-- ---- a refusal in the place of what is missing

module _ {A : Type 0} (x : Option A) (refusal : Refusal) (r : Result A Refusal) (is : r ≡ ok_or x refusal) where
  missing : (e : Refusal) → r ≡ Err e → (x ≡ None) × (e ≡ refusal)
  missing e q = by x (sym q ∙ is)
    where
      by : (y : Option A) → Err e ≡ ok_or y refusal → (y ≡ None) × (e ≡ refusal)
      by None k = (refl, cc)
      by (Some a) k = absurd cc

  there_is : (a : A) → r ≡ Ok a → Some a ≡ x
  there_is a q = by x (sym q ∙ is)
    where
      by : (y : Option A) → Ok a ≡ ok_or y refusal → Some a ≡ y
      by None k = absurd cc
      by (Some b) k = cc

-- ---- the ends, the rate and the reach

-- the two ends that are found
abbrev ends : In-Some → Ends
ends c = c.in-Some.field-0

found : (c : In-Some) → Some (ends c) ≡ ends_of c.args.samples
found c = sym c.in-Some.is ∙ c.ends.ensures

lawful : (c : In-Some) → LawfulEnds (ends c).oldest (ends c).newest
lawful c = ends_lawful c.args.samples _ c.requires.lawful_samples (sym (found c))

-- the distance of the reading as it is passed on
reach-is : (c : After-difference-reach) → to_z w64 (of_z w64 c.difference-reach.result) ≡ reach_of (since_of c.args.t c.in-Some.field-0.newest.local) c.args.back
reach-is c =
    got c.difference-reach.type_inv
    (c.difference-reach.ensures ∙ ap (λ (n : ℕ). reach_of n c.args.back) c.since-elapsed.ensures)

soon : (c : After-difference-reach) → since_of c.args.t c.in-Some.field-0.newest.local < longest_elapsed
soon c = omega (arith, c.since-elapsed.ensures, c.if-elapsed-ge-LONGEST_ELAPSED.false)

-- the rate, as it is passed on
rate-is : (c : After-difference-reach) → to_z w64 (of_z w64 c.rate_between-rate.result) ≡ rate_between c.in-Some.field-0.oldest c.in-Some.field-0.newest
rate-is c = got c.rate_between-rate.type_inv c.rate_between-rate.ensures

pub rate_between-rate-requires : goal.rate_between-rate-requires
rate_between-rate-requires c = lawful (goal.at.rate_between-rate-requires c).In-Some

pub reading-requires-clause-in_range : goal.reading-requires-clause-in_range
reading-requires-clause-in_range c = (lawful (goal.at.reading-requires-clause-in_range c).In-Some).newest.grand

pub reading-requires-clause-rate_bound : goal.reading-requires-clause-rate_bound
reading-requires-clause-rate_bound c =
    rw (rate-is c) (between_small _ _ (lawful (goal.at.reading-requires-clause-rate_bound c).In-Some))

pub error_after-requires-clause-rate_bound : goal.error_after-requires-clause-rate_bound
error_after-requires-clause-rate_bound c =
    let at = goal.at.error_after-requires-clause-rate_bound c in
    rw (rate-is at.After-difference-reach) (between_small _ _ (lawful at.In-Some))

-- ---- both times

moment_is : (c : After-reading) →
    let e = c.in-Some.field-0 in
    c.reading.result ≡ moment_of (sent_time e.oldest e.newest (since_of c.args.t e.newest.local) c.args.back)
unfolding sent_time reading_at
moment_is c = c.reading.ensures ∙ rw (rate-is c.before, reach-is c.before)

error_is : (c : After-error_after) →
    let e = c.in-Some.field-0 in
    c.error_after.result ≡ error_time_of (sent_error e.oldest e.newest c.args.stretch)
unfolding sent_error
error_is c = c.error_after.ensures ∙ rw (got c.rate_between-rate.type_inv c.rate_between-rate.ensures)

pub returns-in_default : goal.returns-in_default
returns-in_default c = sent-through _ _ _ _ (sym c.in_default.is ∙ c.ends.ensures)

pub returns-then-elapsed-ge-LONGEST_ELAPSED : goal.returns-then-elapsed-ge-LONGEST_ELAPSED
returns-then-elapsed-ge-LONGEST_ELAPSED c =
    sent_late _ _ _ _ (found (goal.at.returns-then-elapsed-ge-LONGEST_ELAPSED c).In-Some) (omega arith)

pub returns-in_err-grand : goal.returns-in_err-grand
returns-in_err-grand c =
    let at = goal.at.returns-in_err-grand c in
    let none = missing _ _ _ c.ok_or.ensures.value _ c.in_err-grand.was in
    let p = err_from_is_err_and c.from_residual.result c.from_residual.ensures.1 in
    rw (p.1, p.2, none.1) (sent-as _ _ _ _ (found at.In-Some) (soon at.After-difference-reach) (sym none.0 ∙ moment_is at.After-reading) refl)

pub returns-in_err-error : goal.returns-in_err-error
returns-in_err-error c =
    let at = goal.at.returns-in_err-error c in
    let none = missing _ _ _ c.ok_or-2.ensures.value _ c.in_err-error.was in
    let p = err_from_is_err_and c.from_residual-in_err-error.result c.from_residual-in_err-error.ensures.1 in
    let grand = there_is _ _ _ c.ok_or.ensures.value _ c.in_ok-grand.was in
    rw (p.1, p.2, none.1)
    (sent-as _ _ _ _ (found at.In-Some) (soon at.After-difference-reach) (grand ∙ moment_is at.After-reading) (sym none.0 ∙ error_is at.After-error_after))

pub returns : goal.returns
returns c =
    let at = goal.at.returns c in
    let grand = there_is _ _ _ c.ok_or.ensures.value _ c.in_ok-grand.was in
    let error = there_is _ _ _ c.ok_or-2.ensures.value _ c.in_ok-error.was in
    sent-as _ _ _ _ (found at.In-Some) (soon at.After-difference-reach) (grand ∙ moment_is at.After-reading) (error ∙ error_is at.After-error_after)
