-- Document 01's literals: what the definitions give is what the document says, one claim over the whole table.
use mathlib.Core.Path.{refl}
use Rattle.refusals.specs.Literals.{AsWritten, numbers}
use Rattle.samples.specs.Keep.{ends_of}
use Rattle.timeline.specs.Drift.{drift_of}
use Rattle.frame.specs.Literals.{frame_literals}
use Rattle.port.specs.Literals.{record_literals}
use Rattle.bridge.specs.Table.{samples_at}
use Rattle.bridge.specs.Arguments.{port_refusal, send_refusal, own_clock_refusal, mask_beyond}
use Rattle.bridge.specs.Fits.{delay_fits, all, ranges_fit, profile_fits, setup_fits}
use Rattle.bridge.specs.Setup.{setup_of}
use Rattle.bridge.specs.Links.{links_of}
use Rattle.bridge.specs.Age.{age_of}
use Rattle.bridge.specs.Drift.{drift_at}
use Rattle.bridge.specs.Literals.{bridge_literals, literals}
use Rattle.refusals.proofs.Literals.{numbers_written, both_written}
use Rattle.frame.proofs.Literals.{frame_written}
use Rattle.port.proofs.Literals.{records_written}

-- the part that stands in this crate
bridge_written : AsWritten bridge_literals
unfolding bridge_literals ends_of drift_of samples_at port_refusal send_refusal own_clock_refusal mask_beyond delay_fits all ranges_fit profile_fits setup_fits setup_of links_of age_of drift_at
bridge_written = refl

-- the whole table
pub as_written : AsWritten literals
as_written = both_written numbers _ numbers_written (both_written frame_literals _ frame_written (both_written record_literals _ records_written bridge_written))
