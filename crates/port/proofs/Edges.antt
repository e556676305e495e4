-- The paper's numbers at the edges: what the definitions give is what the paper says, one claim over the whole table.
use mathlib.Core.Path.{◌≡◌, refl}
use mathlib.Core.List.{map}
use Rattle.times.specs.Times.{since_of, moment_of, error_time_of}
use Rattle.choice.specs.Hop.{jump_of, hop_step_of, hop_of}
use Rattle.choice.specs.Choose.{chosen_hop}
use Rattle.samples.specs.Rate.{rate_of, scaled_of}
use Rattle.samples.specs.Keep.{kept_of, ends_of}
use Rattle.delay.specs.Delay.{delay_of}
use Rattle.timeline.specs.Line.{reading_at}
use Rattle.timeline.specs.Sent.{sent_time, sent_error, sent_of}
use Rattle.port.specs.Edges.{Row, table}

pub claim : map (λ (r : Row). r.got) table ≡ map (λ (r : Row). r.says) table
unfolding table chosen_hop since_of moment_of rate_of scaled_of delay_of jump_of hop_step_of hop_of kept_of ends_of reading_at sent_time sent_error sent_of error_time_of
claim = refl
