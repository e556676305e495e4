-- The answer on this scale.
use Rattle.ptp.proofs.PromiseLaws.{gps_out}
use Rattle.ptp.proofs.ScaleLaws.{gps_by}
use Rattle.ptp_scales.proofs.gps.Goals as goal

pub returns : goal.returns
returns c = gps_out _ (gps_by _ c.on_scale.ensures c.map.ensures.cases)
