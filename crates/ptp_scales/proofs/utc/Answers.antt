-- The answer on this scale.
use mir.Syntax.{w16}
use mir.ValLaws.{to_z-of_z}
use Rattle.ptp.proofs.PromiseLaws.{utc_out}
use Rattle.ptp.proofs.ScaleLaws.{utc_by}
use Rattle.ptp_scales.proofs.utc.Goals as goal

pub returns : goal.returns
returns c = utc_out _ _ (utc_by _ (to_z-of_z w16 _ c.ranges.leap) c.on_scale.ensures c.map.ensures.cases)
