-- Timestamps and scales at the edges: what the definitions give is what the request's rule does, one claim for each table.
use mathlib.Core.Path.{refl}
use Rattle.refusals.specs.Edge.{Holds}
use Rattle.times.specs.Parts.{part_of, least_of}
use Rattle.ptp.specs.Timestamp.{export_of, import_of}
use Rattle.ptp.specs.Scale.{scaled_of, gps_of, utc_of, ntp_of}
use Rattle.ptp.specs.Edges.{exports, imports, gps_edges, utc_edges, ntp_edges}

pub exports_hold : Holds exports
unfolding exports export_of part_of least_of
exports_hold = refl

pub imports_hold : Holds imports
unfolding imports import_of part_of least_of
imports_hold = refl

pub gps_holds : Holds gps_edges
unfolding gps_edges gps_of scaled_of
gps_holds = refl

pub utc_holds : Holds utc_edges
unfolding utc_edges utc_of scaled_of
utc_holds = refl

pub ntp_holds : Holds ntp_edges
unfolding ntp_edges ntp_of scaled_of
ntp_holds = refl
