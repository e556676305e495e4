-- Stamps at the edges: what the definitions give is what the request's rule does, one claim over the whole table.
use mathlib.Core.Path.{refl}
use Rattle.refusals.specs.Edge.{Holds}
use Rattle.times.specs.Times.{since_of, moment_of}
use Rattle.samples.specs.Rate.{rate_of, scaled_of}
use Rattle.timeline.specs.Line.{reading_at}
use Rattle.recorder.specs.Stamp.{distance_of}
use Rattle.recorder.specs.Edges.{edges}

pub edges_hold : Holds edges
unfolding edges since_of moment_of rate_of scaled_of reading_at distance_of
edges_hold = refl
