-- C-17's cases, by computation.
use mathlib.Core.Path.{◌≡◌, refl}
use mathlib.Core.List.{[], ◌∷◌}
use Rattle.refusals.specs.Literals.{AsWritten}
use Rattle.numbers.specs.Table.{parted, joined}
use Rattle.times.specs.Times.{since_of}
use Rattle.samples.specs.Rate.{gain_of, neighbour_rate_of}
use Rattle.samples.specs.Keep.{kept_of, ends_of}
use Rattle.delay.specs.Delay.{measured_of, link_delay_of}
use Rattle.timeline.specs.Sent.{sent_of}
use Rattle.choice.specs.Precedence.{precedence_of, key_of}
use Rattle.choice.specs.Hop.{jump_of, hop_step_of, hop_of}
use Rattle.choice.specs.Choose.{rank_of, candidate_of, own_candidate, better_of, best_of, chosen_hop, shown_port, shown_hop}
use Rattle.choice.specs.Ranking.{inserted_of, placed_of, ranking_of}
use Rattle.frame.specs.Read.{read_refusal, read_of}
use Rattle.frame.specs.Write.{bytes_of}
use Rattle.port.specs.Receive.{same_clock, followed_by_of, received_of}
use Rattle.port.specs.Send.{sending_of}
use Rattle.bridge.specs.Arguments.{port_refusal, send_refusal, mask_beyond}
use Rattle.bridge.specs.Fits.{delay_fits, all, ranges_fit, profile_fits, setup_fits}
use Rattle.bridge.specs.Setup.{setup_of}
use Rattle.bridge.specs.Links.{links_of}
use Rattle.bridge.specs.Table.{each, relinked_port, candidates_from, samples_at, samples_of_choice}
use Rattle.bridge.specs.Receive.{receive_fields_of, receive_of}
use Rattle.bridge.specs.Chosen.{chosen_of}
use Rattle.bridge.specs.Ranked.{ranked_of}
use Rattle.bridge.specs.Send.{sending_at, send_of, send_bytes}
use Rattle.bridge.specs.Listener.{listener_setups_of, first, third, echoing, listened, zeros, listener_heard_of}

pub listener-setups : AsWritten listener_setups_of
unfolding listener_setups_of delay_fits all ranges_fit profile_fits setup_fits setup_of
listener-setups = refl

-- its frames as 64 bytes
pub first_bytes : first ≡ listened 0 (0x01 ∷ 0x02 ∷ 0x03 ∷ 0x04 ∷ 0x05 ∷ 0x06 ∷ []) zeros zeros
unfolding delay_fits all ranges_fit profile_fits setup_fits setup_of links_of mask_beyond each relinked_port port_refusal send_refusal sending_at send_bytes sending_of bytes_of joined
first_bytes = refl

pub third_bytes : third ≡ listened 2 (0x01 ∷ 0x06 ∷ 0x03 ∷ 0x04 ∷ 0x05 ∷ 0x06 ∷ []) zeros zeros
unfolding delay_fits all ranges_fit profile_fits setup_fits setup_of links_of mask_beyond each relinked_port port_refusal send_refusal sending_at send_of send_bytes sending_of bytes_of joined
third_bytes = refl

-- and with the echo: localTime of the other's frame that was taken, and the arrival of its first
pub echoing_bytes : echoing ≡ listened 2 (0x01 ∷ 0x06 ∷ 0x03 ∷ 0x04 ∷ 0x05 ∷ 0x06 ∷ []) (0x01 ∷ 0x04 ∷ 0x03 ∷ 0x04 ∷ 0x05 ∷ 0x06 ∷ []) (0x0A ∷ 0x0B ∷ 0x0C ∷ 0x0D ∷ 0x0E ∷ 0x0F ∷ [])
unfolding delay_fits all ranges_fit profile_fits setup_fits setup_of links_of mask_beyond each relinked_port port_refusal send_refusal sending_at send_of send_bytes sending_of bytes_of joined
    receive_of receive_fields_of read_of read_refusal parted chosen_of received_of followed_by_of link_delay_of measured_of neighbour_rate_of since_of hop_of hop_step_of jump_of kept_of same_clock precedence_of chosen_hop best_of better_of candidate_of own_candidate candidates_from
echoing_bytes = refl

-- what a bridge makes of them
pub listener-heard : AsWritten listener_heard_of
unfolding listener_heard_of delay_fits all ranges_fit profile_fits setup_fits setup_of links_of mask_beyond each relinked_port port_refusal send_refusal sending_at send_of send_bytes sending_of bytes_of joined
    receive_of receive_fields_of read_of read_refusal parted chosen_of received_of followed_by_of link_delay_of measured_of neighbour_rate_of since_of hop_of hop_step_of jump_of kept_of same_clock precedence_of chosen_hop best_of better_of candidate_of own_candidate candidates_from
    ranked_of shown_port shown_hop rank_of key_of sent_of ends_of samples_of_choice samples_at gain_of ranking_of placed_of inserted_of
listener-heard = refl
