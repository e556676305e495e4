-- C-20's cases are what the definitions give.
use mathlib.Core.Path.{◌≡◌, refl}
use mathlib.Core.List.{map}
use Rattle.times.specs.Times.{since_of, moment_of, error_time_of}
use Rattle.samples.specs.Rate.{rate_of, scaled_of}
use Rattle.samples.specs.Keep.{kept_of, ends_of}
use Rattle.timeline.specs.Line.{reading_at}
use Rattle.timeline.specs.Sent.{sent_time, sent_error, sent_of}
use Rattle.port.specs.Edges.{Row}
use Rattle.port.specs.Three.{three_cases_of}

pub three-cases : map (λ (r : Row). r.got) three_cases_of ≡ map (λ (r : Row). r.says) three_cases_of
unfolding three_cases_of since_of moment_of rate_of scaled_of kept_of ends_of reading_at sent_time sent_error sent_of error_time_of
three-cases = refl
