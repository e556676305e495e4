-- Two outcomes that a contract allows are equal, for each of document 01's eleven public calls and for Ranked.
use mathlib.Core.Path.{◌≡◌, sym, ◌∙◌}
use mathlib.Core.List.{List}
use Prim.Native.Nat.{ℕ}
use denote.Ref.{Bor}
use Rattle.std.specs.Prelude.{⊤}
use Rattle.std.proofs.Common.{Option, Result}
use Rattle.refusals.specs.declared.Refusal.{Refusal}
use Rattle.timeline.specs.declared.Drift.{Drift}
use Rattle.choice.specs.declared.Candidate.{Candidate}
use Rattle.frame.specs.Better.{lies}
use Rattle.frame.specs.Promises.{ReadPromise, WritePromise, BetterPromise}
use Rattle.frame.specs.declared.Fields.{Fields}
use Rattle.bridge.specs.declared.Setup.{Setup}
use Rattle.bridge.specs.Setup.{setup_of}
use Rattle.bridge.specs.Own.{own_clock_of}
use Rattle.bridge.specs.Receive.{receive_of}
use Rattle.bridge.specs.Age.{age_of}
use Rattle.bridge.specs.Promises.{DonePromise, LinksPromise, ChosenPromise, RankedPromise, SendPromise, DriftPromise}
use Rattle.bridge.specs.declared.Bridge.{Bridge}
use Rattle.bridge.specs.declared.Done.{Done}
use Rattle.bridge.proofs.PromiseLaws.{done_is, links_is, send_is}

-- what is equal to one thing is equal
one : {A : Type 0} {want x y : A} → x ≡ want → y ≡ want → x ≡ y
one p q = p ∙ sym q

pub read_one : (s : List ℕ) (x y : Result Fields Refusal) → ReadPromise s x → ReadPromise s y → x ≡ y
read_one s x y p q = one p.answer q.answer

-- the answer, and every byte of the output
pub write_one : (f : Fields) (out left left' : List ℕ) (k k' : Result ⊤ Refusal) → WritePromise f out k left → WritePromise f out k' left' → (k ≡ k') × (left ≡ left')
write_one f out left left' k k' p q = (one p.answer q.answer, one p.bytes q.bytes)

-- where the part lies, and its bytes
pub better_one : (a b x y : Bor (List ℕ)) → BetterPromise a b x → BetterPromise a b y → lies x ≡ lies y
better_one a b x y p q = one p.part q.part

-- the answer and the next state
pub done_one : (want x y : Done ⊤) → DonePromise want x → DonePromise want y → x ≡ y
done_one want x y p q = one (done_is p) (done_is q)

pub setup_one : (s : Setup) (x y : Done ⊤) → DonePromise (setup_of s) x → DonePromise (setup_of s) y → x ≡ y
setup_one s = done_one (setup_of s)

pub links_one : (b : Bridge) (mask : ℕ) (x y : Done ℕ) → LinksPromise b mask x → LinksPromise b mask y → x ≡ y
links_one b mask x y p q = one (links_is p) (links_is q)

pub own_clock_one : (b : Bridge) (count seconds fraction at : ℕ) (x y : Done ⊤)
    → DonePromise (own_clock_of b count seconds fraction at) x → DonePromise (own_clock_of b count seconds fraction at) y → x ≡ y
own_clock_one b count seconds fraction at = done_one (own_clock_of b count seconds fraction at)

pub receive_one : (b : Bridge) (port : ℕ) (frame : List ℕ) (arrival : ℕ) (x y : Done ⊤)
    → DonePromise (receive_of b port frame arrival) x → DonePromise (receive_of b port frame arrival) y → x ≡ y
receive_one b port frame arrival = done_one (receive_of b port frame arrival)

pub age_one : (b : Bridge) (at : ℕ) (x y : Done ⊤) → DonePromise (age_of b at) x → DonePromise (age_of b at) y → x ≡ y
age_one b at = done_one (age_of b at)

pub chosen_one : (b : Bridge) (x y : Option Candidate) → ChosenPromise b x → ChosenPromise b y → x ≡ y
chosen_one b x y p q = one p.answer q.answer

pub ranked_one : (b : Bridge) (place : ℕ) (x y : Option Candidate) → RankedPromise b place x → RankedPromise b place y → x ≡ y
ranked_one b place x y p q = one p.answer q.answer

-- the answer, the next state, and every byte of the output
pub send_one : (b : Bridge) (port t : ℕ) (out left left' : List ℕ) (x y : Done ⊤)
    → SendPromise b port t out x left → SendPromise b port t out y left' → (x ≡ y) × (left ≡ left')
send_one b port t out left left' x y p q = (one (send_is p) (send_is q), one p.bytes q.bytes)

pub drift_one : (b : Bridge) (port : ℕ) (x y : Drift) → DriftPromise b port x → DriftPromise b port y → x ≡ y
drift_one b port x y p q = one p.answer q.answer
