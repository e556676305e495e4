-- NINE IS REACHED: a row of nine stations with the premise; and without it there is one of ten, where ten hops are left. By computation.
use mathlib.Core.Path.{◌≡◌, refl, sym, ap}
use mathlib.Core.List.{List, [], ◌∷◌}
use Prim.Native.Nat.{ℕ, suc, ◌<◌}
use native.Mathlib.Omega.{arith}
use lib.Dec.{lit<}
use lib.ListN.{take}
use Rattle.std.specs.Prelude.{Result, ⊤}
use Rattle.refusals.specs.Answer.{granted}
use Rattle.refusals.specs.declared.Refusal.{Refusal}
use Rattle.numbers.specs.Bytes.{Bytes}
use Rattle.numbers.specs.Table.{parted, joined}
use Rattle.times.specs.Times.{since_of, moment_of, error_time_of}
use Rattle.samples.specs.Rate.{gain_of, neighbour_rate_of, rate_of, scaled_of}
use Rattle.samples.specs.Keep.{kept_of, ends_of}
use Rattle.delay.specs.Delay.{measured_of, link_delay_of}
use Rattle.timeline.specs.Sent.{sent_of, sent_time, sent_error}
use Rattle.timeline.specs.Line.{reading_at}
use Rattle.choice.specs.Precedence.{precedence_of, key_of}
use Rattle.choice.specs.Hop.{jump_of, hop_step_of, hop_of}
use Rattle.choice.specs.Choose.{rank_of, candidate_of, own_candidate, better_of, best_of, chosen_hop, number_of}
use Rattle.frame.specs.Frame.{frame_length}
use Rattle.frame.specs.Read.{read_refusal, read_of}
use Rattle.frame.specs.Write.{bytes_of}
use Rattle.port.specs.Record.{aged_port}
use Rattle.port.specs.Receive.{same_clock, followed_by_of, received_of}
use Rattle.port.specs.Send.{sending_of}
use Rattle.bridge.specs.Arguments.{port_refusal, send_refusal, mask_beyond}
use Rattle.bridge.specs.Fits.{delay_fits, all, ranges_fit, profile_fits, setup_fits, plain_setup}
use Rattle.bridge.specs.Setup.{default_timeout, setup_of}
use Rattle.bridge.specs.Links.{links_of}
use Rattle.bridge.specs.Table.{each, relinked_port, candidates_from, samples_at, samples_of_choice}
use Rattle.bridge.specs.State.{Lawful, FullBridge}
use Rattle.bridge.specs.Receive.{receive_fields_of, receive_of}
use Rattle.bridge.specs.Age.{age_of}
use Rattle.bridge.specs.Chosen.{chosen_of}
use Rattle.bridge.specs.Send.{sending_at, send_of, send_bytes}
use Rattle.bridge.specs.Demands.{Call, links, receive, age, run, along}
use Rattle.bridge.specs.declared.Bridge.{Bridge}
use Rattle.frame.proofs.Trip.{frame_bytes, hop_byte}
use Rattle.bridge.proofs.Keeps.{plain_typed, setup_lawful, run_lawful}
use Rattle.bridge.proofs.Records.{full_stays}
use Rattle.stations.specs.Stations.{Takes, SendsOn, Row, last, next, ChosenBelow, AnyStation, most_stations, hops_left}
use Rattle.stations.specs.NineStations.{apart, fields_with, passing, heard, station, arrives, output}

-- the empty list is bytes, and so are the frames
none : Bytes []
none i = lit< tt

-- the station's state is what these calls leave after Setup: so it is lawful, and a full bridge's
calls : ℕ → List Call
calls hop = links 3 ∷ receive 1 (heard hop 254) (frame_bytes _ [] none) 0 ∷ receive 1 (heard hop 255) (frame_bytes _ [] none) apart ∷ []

station_lawful : (hop : ℕ) → Lawful (station hop)
unfolding run calls
station_lawful hop = run_lawful _ (calls hop) (setup_lawful (plain_setup 2 default_timeout 0) (plain_typed 2 default_timeout 0))

station_full : (hop : ℕ) → FullBridge (station hop)
unfolding run calls
station_full hop = full_stays (plain_setup 2 default_timeout 0) (calls hop) refl

-- what a station that heard the clock at one hop makes of the frame at another: what Receive answers; and, once it has aged its records, which port's clock is chosen, what a send at port 2 answers, and its frame
abbrev Outcome : Type 0
Outcome = Result ⊤ Refusal × ℕ × Result ⊤ Refusal × List ℕ

abbrev outcome : ℕ → ℕ → Outcome
outcome before hop =
    let d = receive_of (station before) 1 (passing hop) arrives in
    let b = (age_of d.next arrives).next in
    (d.answer, number_of (chosen_of b), (send_of b 2 apart frame_length).answer, take frame_length (send_bytes b 2 apart output))

-- it takes the frame, and sends it on at that hop
abbrev Passed : ℕ → ℕ → ℕ → Type 0
Passed before hop to = outcome before hop ≡ (granted, 1, granted, passing to)

-- BY COMPUTATION: nine stations that heard the clock at hop 0, so that their chosen hop is 1, and ten that heard it at hop 254
pub passed : (Passed 0 2 128 × Passed 0 128 191 × Passed 0 191 223 × Passed 0 223 239 × Passed 0 239 247 × Passed 0 247 251 × Passed 0 251 253 × Passed 0 253 254 × Passed 0 254 255)
    × (Passed 254 245 246 × Passed 254 246 247 × Passed 254 247 248 × Passed 254 248 249 × Passed 254 249 250 × Passed 254 250 251 × Passed 254 251 252 × Passed 254 252 253 × Passed 254 253 254 × Passed 254 254 255)
    × (chosen_hop (chosen_of (station 0)) ≡ 1)
unfolding delay_fits all ranges_fit profile_fits setup_fits setup_of links_of mask_beyond each relinked_port port_refusal send_refusal sending_at send_of send_bytes sending_of bytes_of joined
    receive_of receive_fields_of read_of read_refusal parted chosen_of received_of followed_by_of link_delay_of measured_of neighbour_rate_of since_of hop_of hop_step_of jump_of kept_of same_clock precedence_of chosen_hop best_of better_of candidate_of own_candidate candidates_from
    rank_of key_of sent_of sent_time sent_error reading_at moment_of error_time_of ends_of samples_of_choice samples_at gain_of rate_of scaled_of age_of aged_port
passed = ((refl, refl, refl, refl, refl, refl, refl, refl, refl), (refl, refl, refl, refl, refl, refl, refl, refl, refl, refl), refl)

-- ---- the rows

module _ (before hop to : ℕ) (p : Passed before hop to) where
  takes : Takes (passing hop)
  takes = record {
    station = station before;
    lawful = station_lawful before;
    full = station_full before;
    port = 1;
    arrival = arrives;
    bytes = frame_bytes _ [] none;
    accepted = ap (λ (o : Outcome). o.0) p;
  }

  sends_on : SendsOn takes (passing to)
  unfolding takes run along
  sends_on = record {
    calls = age arrives ∷ [];
    no_other = refl;
    that_clock = ap (λ (o : Outcome). o.1) p;
    port = 2;
    departure = apart;
    output = output;
    done = ap (λ (o : Outcome). o.2) p;
    written = sym (ap (λ (o : Outcome). o.3) p);
  }

-- a station before a row, and the last one
module _ (Premise : Bridge → List ℕ → Type 0) (before hop to : ℕ) (p : Passed before hop to) (holds : Premise (station before) (passing hop)) where
  before_row : {n : ℕ} → Row Premise (passing to) n → Row Premise (passing hop) (suc n)
  unfolding takes
  before_row {n} rest = next (passing hop) (passing to) n (takes before hop to p) holds (sends_on before hop to p) rest

  at_end : Row Premise (passing hop) 1
  unfolding takes
  at_end = last (passing hop) (takes before hop to p) holds

-- the chosen hop of a station that heard the clock at hop 0 is below every hop from 2 on
chosen_below : (hop : ℕ) → 1 < hop → hop < 256 → ChosenBelow (station 0) (passing hop)
chosen_below hop l h = omega (arith, passed.2, hop_byte (fields_with hop 0 apart apart) [] h, l)

-- NINE IS REACHED, with the premise at each of them
pub nine_reached : Row ChosenBelow (passing 2) most_stations
nine_reached =
    let p = passed.0 in
    onward 2 128 p.0 (lit< tt) (lit< tt)
    (onward 128 191 p.1 (lit< tt) (lit< tt)
    (onward 191 223 p.2 (lit< tt) (lit< tt)
    (onward 223 239 p.3 (lit< tt) (lit< tt)
    (onward 239 247 p.4 (lit< tt) (lit< tt)
    (onward 247 251 p.5 (lit< tt) (lit< tt)
    (onward 251 253 p.6 (lit< tt) (lit< tt)
    (onward 253 254 p.7 (lit< tt) (lit< tt)
    (at_end ChosenBelow 0 254 255 p.8 (chosen_below 254 (lit< tt) (lit< tt))))))))))
  where
    onward : (hop to : ℕ) → Passed 0 hop to → 1 < hop → hop < 256 → {n : ℕ} → Row ChosenBelow (passing to) n → Row ChosenBelow (passing hop) (suc n)
    onward hop to p l h = before_row ChosenBelow 0 hop to p (chosen_below hop l h)

-- WITHOUT THE PREMISE there are ten, one more than nine, and as many as hops are left
pub ten_reached : Row AnyStation (passing 245) (hops_left 245)
ten_reached =
    let p = passed.1 in
    onward 245 p.0 (onward 246 p.1 (onward 247 p.2 (onward 248 p.3 (onward 249 p.4
    (onward 250 p.5 (onward 251 p.6 (onward 252 p.7 (onward 253 p.8 (at_end AnyStation 254 254 255 p.9 tt)))))))))
  where
    onward : (hop : ℕ) → Passed 254 hop (suc hop) → {n : ℕ} → Row AnyStation (passing (suc hop)) n → Row AnyStation (passing hop) (suc n)
    onward hop p = before_row AnyStation 254 hop (suc hop) p tt
