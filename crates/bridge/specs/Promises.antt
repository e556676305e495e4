-- What the public calls on the state promise: the answer; where it carries something, document 01's number and what it carries by the arguments; the next state, and every byte of a lent output.
use Rattle.std.specs.Prelude.{◌≡◌, cond, List, ℕ, ◌≤◌, ltb, length, Option, None, ⊤}
use Rattle.std.proofs.Math.Option.{none, some}
use Rattle.std.specs.Int.Count.{ones}
use Rattle.refusals.specs.Refusals.{done, out_of_range}
use Rattle.refusals.specs.Answer.{answer_number, answer_value}
use Rattle.samples.specs.Keep.{ends_of}
use Rattle.timeline.specs.Drift.{drift_no, drift_reading, reading_through}
use Rattle.timeline.specs.declared.Drift.{Drift}
use Rattle.choice.specs.Choose.{shown_port, shown_hop}
use Rattle.choice.specs.Least.{rank_in, port_in, hop_in}
use Rattle.choice.specs.Ranking.{IsClock, clocks_in, how_many_below}
use Rattle.choice.specs.declared.Candidate.{Candidate}
use Rattle.bridge.specs.Table.{samples_at}
use Rattle.bridge.specs.Arguments.{mask_beyond}
use Rattle.bridge.specs.State.{Lawful}
use Rattle.bridge.specs.Links.{links_of}
use Rattle.bridge.specs.Chosen.{chosen_of, least_rank_of}
use Rattle.bridge.specs.Ranked.{ranked_of}
use Rattle.bridge.specs.Send.{send_of, send_bytes}
use Rattle.bridge.specs.Drift.{drift_at}
use Rattle.bridge.specs.Demands.{candidates}
use Rattle.bridge.specs.declared.Bridge.{Bridge}
use Rattle.bridge.specs.declared.Done.{Done}

-- setup, own clock, receive and age: what the call's definition says, and its number
pub record DonePromise (want d : Done ⊤) : Type 0 where
  pub answer : d.answer ≡ want.answer
  pub number : answer_number d.answer ≡ answer_number want.answer
  pub next : d.next ≡ want.next
  pub lawful : Lawful d.next

-- links: 2 exactly for a mask beyond the ports, and how many bits are set
pub record LinksPromise (b : Bridge) (mask : ℕ) (d : Done ℕ) : Type 0 where
  pub answer : d.answer ≡ (links_of b mask).answer
  pub number : answer_number d.answer ≡ cond (mask_beyond b.setup.n mask) out_of_range done
  pub count : answer_value d.answer ≡ cond (mask_beyond b.setup.n mask) none (some (ones mask))
  pub next : d.next ≡ (links_of b mask).next
  pub lawful : Lawful d.next

-- chosen: the port and the held hop that stand in the least rank, FF and FF where there is none
pub record ChosenPromise (b : Bridge) (c : Option Candidate) : Type 0 where
  pub answer : c ≡ chosen_of b
  pub port : shown_port c ≡ port_in (least_rank_of b)
  pub hop : shown_hop c ≡ hop_in (least_rank_of b)

-- ranked: the candidate of the table that has so many better ones, none where there are no more than that
pub record RankedPromise (b : Bridge) (place : ℕ) (c : Option Candidate) : Type 0 where
  pub answer : c ≡ ranked_of b place
  pub before : IsClock c → how_many_below (rank_in c) (candidates b) ≡ place
  pub behind : c ≡ None → length (clocks_in (candidates b)) ≤ place

-- send, with every byte of the output
pub record SendPromise (b : Bridge) (port t : ℕ) (out : List ℕ) (d : Done ⊤) (left : List ℕ) : Type 0 where
  pub answer : d.answer ≡ (send_of b port t (length out)).answer
  pub number : answer_number d.answer ≡ answer_number (send_of b port t (length out)).answer
  pub next : d.next ≡ (send_of b port t (length out)).next
  pub bytes : left ≡ send_bytes b port t out
  pub lawful : Lawful d.next

-- drift: 2 exactly for a port above n; and the reading, by the ends of that clock's samples, if there is one
pub record DriftPromise (b : Bridge) (port : ℕ) (x : Drift) : Type 0 where
  pub answer : x ≡ drift_at b port
  pub number : drift_no x ≡ cond (ltb b.setup.n port) out_of_range done
  pub reading : drift_reading x ≡ cond (ltb b.setup.n port) none (reading_through (ends_of (samples_at port b.clock b.ports)))
