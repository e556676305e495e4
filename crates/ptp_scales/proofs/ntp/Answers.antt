-- The answer on this scale.
use mir.Syntax.{w16}
use mir.ValLaws.{to_z-of_z}
use Rattle.ptp.proofs.PromiseLaws.{ntp_out}
use Rattle.ptp.proofs.ScaleLaws.{ntp_by}
use Rattle.ptp_scales.proofs.ntp.Goals as goal

pub returns : goal.returns
returns c = ntp_out _ _ (ntp_by _ (to_z-of_z w16 _ c.ranges.leap) c.on_scale.ensures c.map.ensures.cases)
