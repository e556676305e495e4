-- A drift in parts per million is exactly the rate between the two ends of that clock's samples × 1,000,000 / 2^35.
use mathlib.Core.Path.{◌≡◌, refl}
use Prim.Native.Nat.{ℕ}
use lib.Dec.{ltb}
use lib.Ieee.{Float}
use Rattle.std.proofs.Common.{Option, Some, None}
use Rattle.samples.specs.Keep.{ends_of, rate_between}
use Rattle.samples.specs.declared.Samples.{Samples}
use Rattle.samples.specs.declared.Ends.{Ends}
use Rattle.timeline.specs.Drift.{ppm_of, drift_through_of, drift_of}
use Rattle.timeline.specs.declared.Drift.{Drift}
use Rattle.timeline.specs.declared.Drift.TheVariants.{PartsPerMillion}
use Rattle.bridge.specs.Table.{samples_at}
use Rattle.bridge.specs.State.{Lawful}
use Rattle.bridge.specs.Drift.{drift_at}
use Rattle.bridge.specs.Demands.{ExactDrift}
use Rattle.bridge.specs.declared.Bridge.{Bridge}
use Rattle.numbers.proofs.Branches.{if_when}
use Rattle.samples.proofs.KeepLaws.{between_small, ends_lawful}
use Rattle.timeline.proofs.PpmLaws.{ppm_exact}
use Rattle.bridge.proofs.TableLaws.{samples_lawful}

pub drift_exact : (b : Bridge) (port : ℕ) (x : Float) → Lawful b → drift_at b port ≡ PartsPerMillion x → ExactDrift b port x
unfolding drift_at drift_of
drift_exact b port x h =
    if_when (λ (d : Drift). d ≡ PartsPerMillion x → ExactDrift b port x) (ltb b.setup.n port)
    (λ _ e. cc)
    (λ _. by (ends_of samples) refl)
  where
    samples : Samples
    samples = samples_at port b.clock b.ports

    by : (e : Option Ends) → ends_of samples ≡ e → drift_through_of e ≡ PartsPerMillion x → ExactDrift b port x
    by None q e = cc
    by (Some ends) q e =
        let rate = rate_between ends.oldest ends.newest in
        let same : ppm_of rate ≡ x = cc in
        let lawful = ends_lawful samples ends (samples_lawful port b.clock b.ports h.clock_lawful h.ports_lawful) q in
        record {
          ends = ends;
          kept = q;
          exact = rw same at (ppm_exact rate (between_small ends.oldest ends.newest lawful));
        }
