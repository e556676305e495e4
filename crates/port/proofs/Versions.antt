-- C-19's cases are what the definitions give.
use mathlib.Core.Path.{◌≡◌, refl}
use mathlib.Core.List.{map}
use Rattle.refusals.specs.Literals.{AsWritten}
use Rattle.times.specs.Times.{since_of, moment_of, error_time_of}
use Rattle.samples.specs.Rate.{rate_of, scaled_of}
use Rattle.samples.specs.Keep.{ends_of}
use Rattle.timeline.specs.Line.{reading_at}
use Rattle.timeline.specs.Sent.{sent_time, sent_error, sent_of}
use Rattle.port.specs.Send.{sending_of}
use Rattle.port.specs.Edges.{Row}
use Rattle.port.specs.Versions.{version_errors_of, version_answers_of}

pub version-errors : map (λ (r : Row). r.got) version_errors_of ≡ map (λ (r : Row). r.says) version_errors_of
unfolding version_errors_of since_of moment_of rate_of scaled_of ends_of reading_at sent_time sent_error sent_of error_time_of sending_of
version-errors = refl

pub version-answers : AsWritten version_answers_of
unfolding version_answers_of since_of moment_of rate_of scaled_of ends_of reading_at sent_time sent_error sent_of error_time_of sending_of
version-answers = refl
