-- What the theorems on the calls say: which answers there are and what each leaves, the line of demand 3, errorTime and the line at the departure, the drift, the candidates, calls in a row, listeners, and hops.
use Rattle.std.specs.Prelude.{◌≡◌, cond, not, ◌⊎◌, ℕ, ◌+◌, ◌-◌, ◌*◌, ◌<◌, ◌≤◌, eqb, get_or, ℤ, pos, nat_abs, ◌+ℤ◌, ◌-ℤ◌, Float, Option, Some, None, Result, Ok, Err, ⊤}
use mathlib.Core.List.{List, [], ◌∷◌, Memᴰ}
use Rattle.std.specs.Int.Signed.{non_neg}
use Rattle.std.specs.Float.Ieee.Exact.{HasValue}
use Rattle.numbers.specs.Bytes.{number_at, Bytes}
use Rattle.refusals.specs.Answer.{answer_number}
use Rattle.refusals.specs.declared.Refusal.{Refusal}
use Rattle.refusals.specs.declared.Refusal.TheVariants.{LastHopHeard}
use Rattle.times.specs.Times.{counts, since_of, error_of}
use Rattle.times.specs.declared.LocalTime.{LocalTime}
use Rattle.samples.specs.Rate.{parts, scaled_of}
use Rattle.samples.specs.Keep.{ends_of, rate_between}
use Rattle.samples.specs.declared.Ends.{Ends}
use Rattle.timeline.specs.Sent.{reach_of, sent_of}
use Rattle.timeline.specs.Line.{bound, departure_bound, NearLine}
use Rattle.timeline.specs.Drift.{million, drift_no}
use Rattle.timeline.specs.declared.Drift.{Drift}
use Rattle.timeline.specs.declared.Sent.{Sent}
use Rattle.choice.specs.Hop.{last_hop}
use Rattle.choice.specs.Choose.{rank_of, number_of, shown_port}
use Rattle.choice.specs.Precedence.{worst_precedence}
use Rattle.choice.specs.declared.Announcement.{Announcement}
use Rattle.choice.specs.declared.Candidate.{Candidate}
use Rattle.frame.specs.Read.{read_of}
use Rattle.frame.specs.Better.{precedence_start, precedence_bytes}
use Rattle.frame.specs.declared.Fields.{Fields}
use Rattle.port.specs.Record.{used_port}
use Rattle.port.specs.Receive.{noted_port}
use Rattle.port.specs.Send.{frame_of, stretch_of, listener_hop_of, no_grand_time, no_error_time}
use Rattle.port.specs.declared.Preceding.TheVariants.{Was}
use Rattle.bridge.specs.Table.{port_at, loses_link, samples_at, candidates_of}
use Rattle.bridge.specs.Arguments.{send_refusal, mask_beyond}
use Rattle.bridge.specs.State.{version_at, with_port, with_clock, answers, by_refusal}
use Rattle.bridge.specs.Setup.{no_bridge}
use Rattle.bridge.specs.Links.{links_of}
use Rattle.bridge.specs.Own.{own_clock_of}
use Rattle.bridge.specs.Receive.{receive_of}
use Rattle.bridge.specs.Age.{age_of}
use Rattle.bridge.specs.Chosen.{chosen_of}
use Rattle.bridge.specs.Ranked.{ranked_of}
use Rattle.bridge.specs.Send.{chosen_samples, send_of}
use Rattle.bridge.specs.declared.Bridge.{Bridge}
use Rattle.bridge.specs.declared.Done.{Done}

-- ---- demand 1: the answers of each call, and what each refusal leaves

-- k is from a to b
abbrev pub From : ℕ → ℕ → ℕ → Type 0
From a b k = (a ≤ k) × (k ≤ b)

abbrev pub ReadAnswers : Result Fields Refusal → Type 0
ReadAnswers r = (answer_number r ≡ 0) ⊎ From 4 6 (answer_number r)

-- write: no refusal touches the output
abbrev pub WriteAnswers : List ℕ → Result ⊤ Refusal → List ℕ → Type 0
WriteAnswers out r left = let k = answer_number r in (k ≡ 0) ⊎ (((k ≡ 2) ⊎ ((k ≡ 4) ⊎ (k ≡ 6))) × (left ≡ out))

-- setup, 1: what stands for no state
abbrev pub SetupAnswers : Done ⊤ → Type 0
SetupAnswers d = let k = answer_number d.answer in (k ≡ 0) ⊎ ((k ≡ 1) × (d.next ≡ no_bridge))

-- links and age, 2: nothing
abbrev pub LinksAnswers : Bridge → Done ℕ → Type 0
LinksAnswers b d = let k = answer_number d.answer in (k ≡ 0) ⊎ ((k ≡ 2) × (d.next ≡ b))

abbrev pub AgeAnswers : Bridge → Done ⊤ → Type 0
AgeAnswers b d = let k = answer_number d.answer in (k ≡ 0) ⊎ ((k ≡ 2) × (d.next ≡ b))

-- own clock, 2 and 10: nothing; 8: frameCount and now
abbrev pub OwnAnswers : Bridge → ℕ → ℕ → Done ⊤ → Type 0
OwnAnswers b count at d =
    let k = answer_number d.answer in
    (k ≡ 0)
    ⊎ ((((k ≡ 2) ⊎ (k ≡ 10)) × (d.next ≡ b))
    ⊎ ((k ≡ 8) × (d.next ≡ with_clock b (record { preceding = Was count (record { 0 = at }); samples = b.clock.samples }))))

-- receive, 2 to 6: nothing; 7 to 9: the frame was read, and its frameCount and arrival are stored, as the next p and not as heard-at
abbrev pub ReceiveAnswers : Bridge → ℕ → List ℕ → ℕ → Done ⊤ → Type 0
ReceiveAnswers b port frame arrival d =
    let k = answer_number d.answer in
    (k ≡ 0)
    ⊎ ((From 2 6 k × (d.next ≡ b))
    ⊎ (From 7 9 k
    × ((f : Fields) × (read_of frame ≡ Ok f) × (d.next ≡ with_port b (port - 1) (noted_port f.count (record { 0 = arrival }) (port_at b.ports (port - 1)))))))

-- send, 2 to 4: nothing; 10 to 13: the port's next frameCount; and no refusal touches the output
abbrev pub SendAnswers : Bridge → ℕ → List ℕ → Done ⊤ → List ℕ → Type 0
SendAnswers b port out d left =
    let k = answer_number d.answer in
    (k ≡ 0)
    ⊎ ((From 2 4 k × (d.next ≡ b) × (left ≡ out))
    ⊎ (From 10 13 k × (d.next ≡ with_port b (port - 1) (used_port (port_at b.ports (port - 1)))) × (left ≡ out)))

-- of a listener nothing but 2 to 4
abbrev pub ListenerAnswers : Bridge → List ℕ → Done ⊤ → List ℕ → Type 0
ListenerAnswers b out d left = let k = answer_number d.answer in (k ≡ 0) ⊎ (From 2 4 k × (d.next ≡ b) × (left ≡ out))

abbrev pub DriftAnswers : Drift → Type 0
DriftAnswers x = (drift_no x ≡ 0) ⊎ (drift_no x ≡ 2)

-- ---- demand 3

-- grandTime stands in these bytes of a frame
abbrev pub grand_start : ℕ
grand_start = 32

abbrev pub grand_bytes_of : ℕ
grand_bytes_of = 10

-- the oldest and the newest kept sample of the chosen clock, and that the grand time in these bytes lies near the line through them
pub record OnLine (b : Bridge) (t : ℕ) (bytes : List ℕ) : Type 0 where
  pub ends : Ends
  pub kept : ends_of (chosen_samples b) ≡ Some ends
  pub near : NearLine bound ends.oldest ends.newest (pos (number_at bytes grand_start grand_bytes_of)) (reach_of (since_of (record { 0 = t }) ends.newest.local) b.setup.sender.back) b.setup.sender.back

-- ---- errorTime, and the line at the departure itself

-- the version is this byte of a frame
abbrev pub version_start : ℕ
version_start = 15

abbrev pub version_in : List ℕ → ℕ
version_in bytes = number_at bytes version_start 1

-- errorTime stands in these bytes, as a signed number
abbrev pub error_start : ℕ
error_start = 60

abbrev pub error_bytes_of : ℕ
error_bytes_of = 4

abbrev pub error_in : List ℕ → ℤ
error_in bytes = error_of (record { 0 = number_at bytes error_start error_bytes_of })

-- the version in these bytes is 1, and the errorTime the newest kept sample's, bit for bit; or it is 2, and errorTime that and floor(rate × backTime / 2^35)
pub record ErrorSent (b : Bridge) (bytes : List ℕ) : Type 0 where
  pub ends : Ends
  pub kept : ends_of (chosen_samples b) ≡ Some ends
  pub says :
      ((version_in bytes ≡ 1) × (number_at bytes error_start error_bytes_of ≡ ends.newest.error.0))
      ⊎ ((version_in bytes ≡ 2) × (error_in bytes ≡ error_of ends.newest.error +ℤ scaled_of (rate_between ends.oldest ends.newest) (pos b.setup.sender.back)))

-- grandTime and errorTime in these bytes, less the newest kept sample's errorTime, lie near the line read at the departure itself: there is no backTime in it
pub record AtDeparture (b : Bridge) (t : ℕ) (bytes : List ℕ) : Type 0 where
  pub ends : Ends
  pub kept : ends_of (chosen_samples b) ≡ Some ends
  pub near : NearLine departure_bound ends.oldest ends.newest (pos (number_at bytes grand_start grand_bytes_of) +ℤ error_in bytes -ℤ error_of ends.newest.error) (pos (since_of (record { 0 = t }) ends.newest.local)) 0

-- ---- what Send writes

-- what Read gives of a sent frame is exactly the fields of the rules: for the chosen clock, with the grand time and errorTime read off its samples
pub record SentFields (b : Bridge) (port t : ℕ) (sent : List ℕ) : Type 0 where
  pub clock : Candidate
  pub times : Sent
  pub chosen : chosen_of b ≡ Some clock
  pub read_off : sent_of (chosen_samples b) (record { 0 = t }) b.setup.sender.back (stretch_of (version_at b (port - 1)) b.setup.sender.back) ≡ Ok times
  pub read : read_of sent ≡ Ok (frame_of b.setup.sender (version_at b (port - 1)) clock.precedence clock.hop (record { 0 = t }) times.grand times.error (port_at b.ports (port - 1)))

-- ---- drift

-- the oldest and the newest kept sample of the own clock, 0, or of the port, and that x is the rate between them × 1,000,000 / 2^35, with nothing rounded
pub record ExactDrift (b : Bridge) (port : ℕ) (x : Float) : Type 0 where
  pub ends : Ends
  pub kept : ends_of (samples_at port b.clock b.ports) ≡ Some ends
  pub exact : HasValue x (not (non_neg (rate_between ends.oldest ends.newest))) (nat_abs (rate_between ends.oldest ends.newest) * million) parts

-- ---- the candidates

-- own clock first, then the ports
abbrev pub candidates : Bridge → List (Option Candidate)
candidates b = candidates_of b.setup.capable b.setup.own b.ports

-- x is no worse than y: y is no candidate, or both are and x has no greater rank
abbrev pub NoWorse : Option Candidate → Option Candidate → Type 0
NoWorse x None = Unit {0}
NoWorse None (Some c) = ⊥
NoWorse (Some a) (Some c) = rank_of a.precedence a.hop a.number ≤ rank_of c.precedence c.hop c.number

-- ---- the ranking

-- no place shows the port at index i
abbrev pub NotShown : Bridge → ℕ → Type 0
NotShown b i = (place : ℕ) → shown_port (ranked_of b place) ≡ i + 1 → ⊥

-- ---- calls in a row

-- a call that may change the state, with its arguments; a send's output by its length. Of two arguments the type is said too, for what is stored of them
-- is not tested first: a frameCount is a byte, and so is each element of a frame
pub data Call : Type 0 where
  links : ℕ → Call
  own_clock : (count : ℕ) → count < counts → ℕ → ℕ → ℕ → Call
  receive : ℕ → (frame : List ℕ) → Bytes frame → ℕ → Call
  age : ℕ → Call
  send : ℕ → ℕ → ℕ → Call

abbrev pub after : Bridge → Call → Bridge
after b (links mask) = (links_of b mask).next
after b (own_clock count byte seconds fraction at) = (own_clock_of b count seconds fraction at).next
after b (receive port frame bytes arrival) = (receive_of b port frame arrival).next
after b (age at) = (age_of b at).next
after b (send port t room) = (send_of b port t room).next

unfoldable pub run : Bridge → List Call → Bridge
run b [] = b
run b (c ∷ cs) = run (after b c) cs

-- what is reckoned along the calls, from x on: `step` says what each of them makes of it, by the state before it
unfoldable pub along : {A : Type 0} → (Bridge → Call → A → A) → Bridge → List Call → A → A
along step b [] x = x
along step b (c ∷ cs) x = along step (after b c) cs (step b c x)

-- how many sends of the port at index i used a frameCount since its link came up: none once its link goes down, and one more with
-- each send that is not refused with 2 to 4, which its arguments, the link and the room decide
abbrev pub used_by : ℕ → Bridge → Call → ℕ → ℕ
used_by i b (links mask) n = cond (mask_beyond b.setup.n mask) n (cond (loses_link b.links mask i) 0 n)
used_by i b (own_clock count byte seconds fraction at) n = n
used_by i b (receive port frame bytes arrival) n = n
used_by i b (age at) n = n
used_by i b (send port t room) n = by_refusal (send_refusal b.setup.n b.links port t room) (cond (eqb (port - 1) i) (n + 1) n) n

abbrev pub used : ℕ → Bridge → List Call → ℕ → ℕ
used i = along (used_by i)

-- the frames that the port at index i took since its link came up, the last one first: a frame is taken where receive answers 0
abbrev pub taken_by : ℕ → Bridge → Call → List (List ℕ) → List (List ℕ)
taken_by i b (links mask) frames = cond (mask_beyond b.setup.n mask) frames (cond (loses_link b.links mask i) [] frames)
taken_by i b (own_clock count byte seconds fraction at) frames = frames
taken_by i b (receive port frame bytes arrival) frames = cond (eqb (answer_number (receive_of b port frame arrival).answer) 0) (cond (eqb (port - 1) i) (frame ∷ frames) frames) frames
taken_by i b (age at) frames = frames
taken_by i b (send port t room) frames = frames

abbrev pub taken : ℕ → Bridge → List Call → List (List ℕ)
taken i b cs = along (taken_by i) b cs []

-- the last of them, and no bytes before the first
abbrev pub last_of : List (List ℕ) → List ℕ
last_of frames = get_or frames 0 []

abbrev pub last_taken : ℕ → Bridge → List Call → List ℕ
last_taken i b cs = last_of (taken i b cs)

-- ---- listeners

-- a frame as listeners send them: what Read gives of it has the worst precedence, the hop before the last, and zero for both times
pub record FromListener (frame : List ℕ) : Type 0 where
  pub fields : Fields
  pub read : read_of frame ≡ Ok fields
  pub precedence : fields.precedence ≡ worst_precedence
  pub hop : fields.hop ≡ listener_hop_of
  pub grand : fields.grand ≡ no_grand_time
  pub error : fields.error ≡ no_error_time

-- every frame that the port at index i took since its link came up is one of them
abbrev pub HeardListeners : ℕ → Bridge → List Call → Type 0
HeardListeners i b cs = (frame : List ℕ) → Memᴰ frame (taken i b cs) → FromListener frame

-- ---- hops

-- hopCount is this byte of a frame
abbrev pub hop_start : ℕ
hop_start = 29

abbrev pub hop_at : List ℕ → ℕ
hop_at bytes = number_at bytes hop_start 1

-- the thirteen bytes of precedence, as the number of 104 bits that they make
abbrev pub precedence_number_at : List ℕ → ℕ
precedence_number_at bytes = number_at bytes precedence_start precedence_bytes

-- a refusal with 7 at a port: of the frame its frameCount and arrival are stored, as the next p, and nothing else
abbrev pub refused_last_hop : Bridge → ℕ → ℕ → ℕ → Done ⊤
refused_last_hop b port count arrival = answers (Err LastHopHeard) (with_port b (port - 1) (noted_port count (record { 0 = arrival }) (port_at b.ports (port - 1))))

-- what a port announces of a frame that it took: the frame's precedence, at a held hop above the frame's and at most the last
pub record HeldAbove (frame : List ℕ) (announcement : Option Announcement) : Type 0 where
  pub fields : Fields
  pub read : read_of frame ≡ Ok fields
  pub held : ℕ
  pub heard_at : LocalTime
  pub announced : announcement ≡ Some (record { precedence = fields.precedence; hop = held; heard_at = heard_at })
  pub rises : hop_at frame < held
  pub within : held ≤ last_hop

-- a frame that was heard is passed on by one that is sent: its clock is the chosen one, and the hop has risen, to the last at most
pub record PassedOn (b : Bridge) (heard sent : List ℕ) : Type 0 where
  pub fields : Fields
  pub read : read_of heard ≡ Ok fields
  pub chosen : chosen_of b ≡ Some (record { precedence = fields.precedence; hop = hop_at sent; number = number_of (chosen_of b) })
  pub rises : hop_at heard < hop_at sent
  pub within : hop_at sent ≤ last_hop
