-- Document 01's literals of times, steps 1 to 4, Age and Send are what the definitions give.
use mathlib.Core.Path.{refl}
use Rattle.refusals.specs.Literals.{AsWritten}
use Rattle.times.specs.Times.{since_of, moment_of, error_time_of}
use Rattle.samples.specs.Rate.{rate_of, scaled_of, neighbour_rate_of}
use Rattle.samples.specs.Keep.{ends_of}
use Rattle.delay.specs.Delay.{delay_of, measured_of, link_delay_of}
use Rattle.timeline.specs.Line.{reading_at}
use Rattle.timeline.specs.Sent.{sent_time, sent_error, sent_of}
use Rattle.choice.specs.Hop.{jump_of, hop_step_of, hop_of}
use Rattle.choice.specs.Choose.{own_candidate, chosen_hop}
use Rattle.port.specs.Own.{own_reading_of}
use Rattle.port.specs.Receive.{followed_by_of, received_of}
use Rattle.port.specs.Send.{sending_of}
use Rattle.port.specs.Literals.{record_literals}

pub records_written : AsWritten record_literals
unfolding record_literals since_of moment_of rate_of scaled_of neighbour_rate_of ends_of delay_of measured_of link_delay_of reading_at sent_time sent_error sent_of error_time_of jump_of hop_step_of hop_of own_candidate chosen_hop own_reading_of followed_by_of received_of sending_of
records_written = refl
