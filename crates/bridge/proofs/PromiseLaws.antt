-- A promise and the equation with the call's definition: each follows from the other.
use mathlib.Core.Path.{◌≡◌, refl, sym, ap, ◌∙◌, subst}
use mathlib.Core.List.{List, [], ◌∷◌, map}
use mathlib.Core.Option as Values
use Prim.Native.Nat.{ℕ, suc, ◌≤◌}
use lib.Dec.{ltb}
use lib.Ieee.{Float}
use lib.ListN.{length}
use Rattle.std.specs.Prelude.{⊤}
use Rattle.std.proofs.Common.{Option, Some, None}
use Rattle.refusals.specs.Answer.{answer_number, answer_value}
use Rattle.samples.specs.Keep.{ends_of}
use Rattle.timeline.specs.Drift.{drift_of, drift_no, drift_reading}
use Rattle.timeline.specs.declared.Drift.{Drift}
use Rattle.choice.specs.Choose.{own_candidate, shown_port, shown_hop}
use Rattle.choice.specs.Rank.{CandidateFits}
use Rattle.choice.specs.Least.{least_of, rank_in, port_in, hop_in}
use Rattle.choice.specs.Ranking.{IsClock, how_many_below}
use Rattle.choice.specs.declared.Candidate.{Candidate}
use Rattle.port.specs.declared.Port.{Port}
use Rattle.bridge.specs.Table.{candidates_from, samples_at}
use Rattle.bridge.specs.Arguments.{mask_beyond}
use Rattle.bridge.specs.State.{Lawful}
use Rattle.bridge.specs.Links.{links_of}
use Rattle.bridge.specs.Chosen.{chosen_of, ranks_from, least_rank_of}
use Rattle.bridge.specs.Ranked.{ranked_of}
use Rattle.bridge.specs.Send.{send_of, send_bytes}
use Rattle.bridge.specs.Drift.{drift_at}
use Rattle.bridge.specs.Demands.{candidates, NoWorse}
use Rattle.bridge.specs.Promises.{DonePromise, LinksPromise, ChosenPromise, RankedPromise, SendPromise, DriftPromise}
use Rattle.bridge.specs.declared.Bridge.{Bridge}
use Rattle.bridge.specs.declared.Done.{Done}
use Rattle.numbers.proofs.Branches.{if_both}
use Rattle.timeline.proofs.DriftLaws.{drift-through, drift_refused}
use Rattle.choice.proofs.LeastLaws.{announced-rank, own-rank, rank_most, port_in_rank, hop_in_rank, least_is}
use Rattle.bridge.proofs.Keeps.{links_lawful, send_lawful}
use Rattle.bridge.proofs.Least.{chosen_member, chosen_least}
use Rattle.bridge.proofs.Ranking.{ranked_before, ranked_behind}

-- ---- what is handed back is as wanted, and so it is as promised

pub out : (want got : Done ⊤) → got ≡ want → Lawful want.next → DonePromise want got
out want got e l = record {
  answer = ap (λ (x : Done ⊤). x.answer) e;
  number = ap (λ (x : Done ⊤). answer_number x.answer) e;
  next = ap (λ (x : Done ⊤). x.next) e;
  lawful = rw e l;
}

pub links_out : (b : Bridge) (mask : ℕ) (got : Done ℕ) → got ≡ links_of b mask → Lawful b → LinksPromise b mask got
unfolding links_of
links_out b mask got e l = record {
  answer = ap (λ (x : Done ℕ). x.answer) e;
  number = ap (λ (x : Done ℕ). answer_number x.answer) e ∙ if_both (λ (x : Done ℕ) (k : ℕ). answer_number x.answer ≡ k) (mask_beyond b.setup.n mask) (λ _. refl) (λ _. refl);
  count = ap (λ (x : Done ℕ). answer_value x.answer) e ∙ if_both (λ (x : Done ℕ) (y : Values.Option ℕ). answer_value x.answer ≡ y) (mask_beyond b.setup.n mask) (λ _. refl) (λ _. refl);
  next = ap (λ (x : Done ℕ). x.next) e;
  lawful = rw e (links_lawful b mask l);
}

-- the ranks of the ports are those of their candidates
ranks_are : (k : ℕ) (ports : List Port) → ranks_from k ports ≡ map rank_in (candidates_from k ports)
unfolding ranks_from candidates_from
ranks_are k [] = refl
ranks_are k (p ∷ ps) = λ i. announced-rank k p.announcement i ∷ ranks_are (suc k) ps i

-- what is no worse has no greater rank
rank_no_worse : (x y : Option Candidate) → CandidateFits x → NoWorse x y → rank_in x ≤ rank_in y
rank_no_worse x None f w = rank_most x f
rank_no_worse None (Some d) f w = absurd w
rank_no_worse (Some c) (Some d) f w = w

-- the least rank is that of the chosen clock
pub least-rank : (b : Bridge) → CandidateFits (chosen_of b) → least_rank_of b ≡ rank_in (chosen_of b)
unfolding least_rank_of
least-rank b f =
    let own = own_candidate b.setup.capable b.setup.own in
    (λ i. least_of (own-rank b.setup.capable b.setup.own i) (ranks_are 1 b.ports i))
    ∙ least_is rank_in own (candidates_from 1 b.ports) (chosen_of b) (chosen_member b) (λ x m. rank_no_worse (chosen_of b) x f (chosen_least b x m))

-- so what is shown stands in the least rank
pub chosen_out : (b : Bridge) (c : Option Candidate) → CandidateFits (chosen_of b) → c ≡ chosen_of b → ChosenPromise b c
chosen_out b c f e = record {
  answer = e;
  port = ap shown_port e ∙ port_in_rank (chosen_of b) f ∙ ap port_in (sym (least-rank b f));
  hop = ap shown_hop e ∙ hop_in_rank (chosen_of b) f ∙ ap hop_in (sym (least-rank b f));
}

-- ranked
pub ranked_out : (b : Bridge) (place : ℕ) (c : Option Candidate) → Lawful b → c ≡ ranked_of b place → RankedPromise b place c
ranked_out b place c l e = record {
  answer = e;
  before = λ clock. ap (λ (x : Option Candidate). how_many_below (rank_in x) (candidates b)) e ∙ ranked_before b l place (subst IsClock e clock);
  behind = λ none. ranked_behind b l place (sym e ∙ none);
}

pub send_out : (b : Bridge) (port t : ℕ) (out left : List ℕ) (got : Done ⊤) → got ≡ send_of b port t (length out) → left ≡ send_bytes b port t out → Lawful b
    → SendPromise b port t out got left
send_out b port t out left got e f l = record {
  answer = ap (λ (x : Done ⊤). x.answer) e;
  number = ap (λ (x : Done ⊤). answer_number x.answer) e;
  next = ap (λ (x : Done ⊤). x.next) e;
  bytes = f;
  lawful = rw e (send_lawful b port t (length out) l);
}

pub drift_out : (b : Bridge) (port : ℕ) (got : Drift) → got ≡ drift_at b port → DriftPromise b port got
unfolding drift_at drift_of
drift_out b port got e =
    let beyond = ltb b.setup.n port in
    let told = drift-through (ends_of (samples_at port b.clock b.ports)) in
    record {
      answer = e;
      number = ap drift_no e ∙ if_both (λ (x : Drift) (k : ℕ). drift_no x ≡ k) beyond (λ _. drift_refused.0) (λ _. told.0);
      reading = ap drift_reading e ∙ if_both (λ (x : Drift) (y : Values.Option Float). drift_reading x ≡ y) beyond (λ _. drift_refused.1) (λ _. told.1);
    }

-- ---- and back

pub done_is : {want got : Done ⊤} → DonePromise want got → got ≡ want
done_is p = λ i. record { answer = p.answer i; next = p.next i }

pub links_is : {b : Bridge} {mask : ℕ} {got : Done ℕ} → LinksPromise b mask got → got ≡ links_of b mask
links_is p = λ i. record { answer = p.answer i; next = p.next i }

pub send_is : {b : Bridge} {port t : ℕ} {out left : List ℕ} {got : Done ⊤} → SendPromise b port t out got left → got ≡ send_of b port t (length out)
send_is p = λ i. record { answer = p.answer i; next = p.next i }
