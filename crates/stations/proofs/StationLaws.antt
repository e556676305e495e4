-- HOW MANY STATIONS TAKE A FRAME: in any row no more than the hops left up to the last, and no more than nine at which the hop jumps; with the premise it jumps at each, so nine at the most.
use mathlib.Core.Path.{◌≡◌, refl, sym, ap, ◌∙◌, subst}
use mathlib.Core.Bool.{Bool, true, false}
use mathlib.Core.List.{List, []}
use mathlib.Core.Logic.{◌⊎◌, inl, inr, ⊎_elim}
use Prim.Native.Nat.{ℕ, suc, ◌+◌, ◌-◌, ◌<◌, ◌≤◌}
use native.Mathlib.Omega.{arith}
use borrow.Author.Tests.{lt-ltb, le-ltb, ltb-true, ltb-false}
use lib.Dec.{ltb}
use lib.ListN.{length}
use Rattle.std.proofs.Common.{Option, Some, None}
use Rattle.refusals.specs.Answer.{answer_number}
use Rattle.refusals.specs.Literals.{tested}
use Rattle.times.specs.declared.LocalTime.{LocalTime}
use Rattle.choice.specs.Hop.{last_hop, hop_of}
use Rattle.choice.specs.Passes.{passes_of}
use Rattle.choice.specs.Choose.{chosen_hop, number_of}
use Rattle.choice.specs.declared.Precedence.{Precedence}
use Rattle.choice.specs.declared.Announcement.{Announcement}
use Rattle.choice.specs.declared.Candidate.{Candidate}
use Rattle.port.specs.declared.Port.{Port}
use Rattle.bridge.specs.Table.{port_at}
use Rattle.bridge.specs.State.{Lawful, FullBridge}
use Rattle.bridge.specs.Chosen.{chosen_of}
use Rattle.bridge.specs.Demands.{Call, receive, taken, hop_at}
use Rattle.bridge.specs.declared.Bridge.{Bridge}
use Rattle.bridge.specs.declared.Setup.{Setup}
use Rattle.choice.proofs.HopLaws.{hop_jump, hop_rises, hop_within}
use Rattle.choice.proofs.PassesLaws.{passes_step, passes_order, passes_most}
use Rattle.frame.proofs.Trip.{hop_number}
use Rattle.port.proofs.PortLaws.{aged_is, received_announces, read_in_range}
use Rattle.bridge.proofs.Records.{run_alike, after_alike}
use Rattle.bridge.proofs.Keeps.{receive_lawful, run_lawful}
use Rattle.bridge.proofs.Heard.{took, taken_announced, heard_along}
use Rattle.bridge.proofs.Least.{announcing, chosen_announced}
use Rattle.bridge.proofs.Sent.{sent_frame_read}
use Rattle.stations.specs.Stations.{Takes, after_it, later, SendsOn, Row, last, next, ChosenBelow, jump_at, jumps_in, most_stations, hops_left}

-- ---- one station

-- H: the held hop of the clock that is chosen before the frame is taken
abbrev hop_before : {frame : List ℕ} → Takes frame → ℕ
hop_before s = chosen_hop (chosen_of s.station)

module _ {frame : List ℕ} (s : Takes frame) where
  -- a frame that is taken has not the last hop
  taken_below : hop_at frame < last_hop
  taken_below =
      let t = took s.station s.port frame s.arrival s.accepted in
      omega (arith, (received_announces _ _ t.fields _ _ (ap answer_number t.done)).1, (read_in_range frame t.fields s.bytes t.read).typed.hop, hop_number frame t.fields t.read)

  -- what the port announces of it, for a clock of this precedence
  abbrev held : Precedence → Announcement
  held precedence = record { precedence = precedence; hop = hop_of (hop_at frame) (hop_before s); heard_at = record { 0 = s.arrival } }

  announced : (p : Precedence) × ((port_at (after_it s).ports (s.port - 1)).announcement ≡ Some (held p))
  announced =
      let t = took s.station s.port frame s.arrival s.accepted in (
        t.fields.precedence,
        taken_announced s.station s.port frame s.arrival s.lawful s.accepted
            ∙ ap (λ (h : ℕ). Some (record { precedence = t.fields.precedence; hop = hop_of h (hop_before s); heard_at = record { 0 = s.arrival } })) (hop_number frame t.fields t.read),
      )

  -- the port is one of the station's
  port_within : (0 < s.port) × (s.port - 1 < length (after_it s).ports)
  port_within =
      let r = (took s.station s.port frame s.arrival s.accepted).ready in
      let all = (after_alike s.station (receive s.port frame s.bytes s.arrival)).1 in
      (omega (arith, r.low), omega (arith, r.low, r.high, s.lawful.setup_lawful.ports_most, s.lawful.records, all))

  -- whatever is called later, the state is lawful and a full bridge's
  later_lawful : (calls : List Call) → Lawful (later s calls)
  later_lawful calls = run_lawful (after_it s) calls (receive_lawful s.station s.port frame s.arrival s.bytes s.lawful)

  later_full : (calls : List Call) → FullBridge (later s calls)
  later_full calls =
      ap (λ (x : Setup). x.sender.profile) ((run_alike (after_it s) calls).0 ∙ (after_alike s.station (receive s.port frame s.bytes s.arrival)).0) ∙ s.full

  -- and as long as the port takes no other frame, it announces this one or nothing
  still_announced : (calls : List Call) → taken (s.port - 1) (after_it s) calls ≡ []
      → let announcement = (port_at (later s calls).ports (s.port - 1)).announcement in
      (announcement ≡ None) ⊎ (announcement ≡ Some (held announced.0))
  still_announced calls =
      let A : Option Announcement = Some (held announced.0) in
      let P : List (List ℕ) → Port → Type 0 = λ (frames : List (List ℕ)) (p : Port). frames ≡ [] → (p.announcement ≡ None) ⊎ (p.announcement ≡ A) in
      heard_along (s.port - 1) P
      (λ frames p q e _ u none. subst (λ (x : Option Announcement). (x ≡ None) ⊎ (x ≡ A)) (sym e) (u none))
      (λ _. inl refl)
      (λ frames at timeout p u. aged_is at timeout p (P frames) u (λ _. inl refl))
      (λ frames frame f setting chosen at p _ _ _ _ none. absurd (omega (arith, ap (λ (l : List (List ℕ)). length l) none)))
      (after_it s) calls [] port_within.1 (λ _. inr announced.1)

  -- a clock that is announced as the frame's is held at its hop
  same_hop : (c : Candidate) (when : LocalTime) (p : Precedence) → Some (announcing c when) ≡ Some (held p) → c.hop ≡ hop_of (hop_at frame) (hop_before s)
  same_hop c when p both =
      let same : announcing c when ≡ held p = cc in
      ap (λ (x : Announcement). x.hop) same

  -- WHAT IT SENDS ON has the held hop of the frame that it took
  pub sent_on_hop : {sent : List ℕ} → SendsOn s sent → hop_at sent ≡ hop_of (hop_at frame) (hop_before s)
  sent_on_hop {sent} o =
      let b = later s o.calls in
      let r = sent_frame_read b o.port o.departure o.output (later_lawful o.calls) o.done (later_full o.calls) in
      let number : r.clock.number ≡ suc (s.port - 1) = omega (arith, ap number_of r.chosen, o.that_clock, port_within.0) in
      let heard = chosen_announced b r.chosen number in
      let same : r.clock.hop ≡ hop_of (hop_at frame) (hop_before s) = ⊎_elim
      (λ silent. let none = heard.1 in absurd cc)
      (λ same. same_hop r.clock heard.0 announced.0 (sym heard.1 ∙ same))
      (still_announced o.calls o.no_other) in
      ap hop_at o.written ∙ sym (hop_number _ _ r.read) ∙ same

-- the hop jumps where the chosen hop is below the frame's, and nowhere else
jump_counted : {frame : List ℕ} (s : Takes frame) → ChosenBelow s.station frame → jump_at s ≡ 1
jump_counted s below = ap tested (lt-ltb _ _ below)

step_uncounted : {frame : List ℕ} (s : Takes frame) → hop_at frame ≤ hop_before s → jump_at s ≡ 0
step_uncounted s l = ap tested (le-ltb _ _ l)

-- a station uses up a pass where the hop jumps, and where it makes a single step there are no more than before
pass_used : (frame : List ℕ) (s : Takes frame) → jump_at s + passes_of (hop_of (hop_at frame) (hop_before s)) ≤ passes_of (hop_at frame)
pass_used frame s = by (ltb (hop_before s) (hop_at frame)) refl
  where
    by : (t : Bool) → ltb (hop_before s) (hop_at frame) ≡ t → jump_at s + passes_of (hop_of (hop_at frame) (hop_before s)) ≤ passes_of (hop_at frame)
    by true e =
        let below = ltb-true _ _ e in
        omega (arith, jump_counted s below, passes_step (hop_at frame) (taken_below s), ap passes_of (hop_jump (hop_at frame) (hop_before s) below))
    by false e =
        let rises = hop_rises (hop_at frame) (hop_before s) in
        let fewer = passes_order (hop_at frame) _ (omega (arith, rises)) (hop_within (hop_at frame) (hop_before s) (taken_below s)) in
        omega (arith, step_uncounted s (ltb-false _ _ e), fewer)

-- ---- stations in a row

-- whatever holds at each of them, or nothing
module _ {Premise : Bridge → List ℕ → Type 0} where
  -- the first frame of a row was taken, so it has not the last hop
  row_first : (frame : List ℕ) (n : ℕ) → Row Premise frame n → hop_at frame ≤ last_hop
  row_first _ _ (last frame s _) = omega (arith, taken_below s)
  row_first _ _ (next frame _ _ s _ _ _) = omega (arith, taken_below s)

  -- IN ANY ROW the hop rises at each station, so there are no more of them than hops left up to the last
  pub row_hops : (frame : List ℕ) (n : ℕ) → Row Premise frame n → n ≤ hops_left (hop_at frame)
  row_hops _ _ (last frame s _) = omega (arith, taken_below s)
  row_hops _ _ (next frame sent n s _ o rest) = omega (arith, taken_below s, hop_rises (hop_at frame) (hop_before s), sent_on_hop s o, row_hops sent n rest)

  -- and at no more of them than passes are left at the first frame's hop does it jump
  pub row_jumps : (frame : List ℕ) (n : ℕ) (row : Row Premise frame n) → jumps_in frame n row ≤ passes_of (hop_at frame)
  unfolding jumps_in
  row_jumps _ _ (last frame s _) = omega (arith, pass_used frame s)
  row_jumps _ _ (next frame sent n s _ o rest) = omega (arith, pass_used frame s, row_jumps sent n rest, ap passes_of (sent_on_hop s o))

  -- so at nine at the most: every other station makes a single step
  pub at_most_nine_jumps : (frame : List ℕ) (n : ℕ) (row : Row Premise frame n) → jumps_in frame n row ≤ most_stations
  at_most_nine_jumps frame n row = omega (arith, row_jumps frame n row, passes_most (hop_at frame) (row_first frame n row))

-- where the chosen hop is below the frame's at each of them, the hop jumps at each
pub all_jump : (frame : List ℕ) (n : ℕ) (row : Row ChosenBelow frame n) → jumps_in frame n row ≡ n
unfolding jumps_in
all_jump _ _ (last frame s below) = jump_counted s below
all_jump _ _ (next frame sent n s below o rest) = omega (arith, jump_counted s below, all_jump sent n rest)

-- WITH THE PREMISE: no more stations than passes left at the frame's hop
pub row_passes : (frame : List ℕ) (n : ℕ) → Row ChosenBelow frame n → n ≤ passes_of (hop_at frame)
row_passes frame n row = omega (arith, row_jumps frame n row, all_jump frame n row)

-- so nine at the most, whatever frame it is and whichever stations
pub at_most_nine : (frame : List ℕ) (n : ℕ) → Row ChosenBelow frame n → n ≤ most_stations
at_most_nine frame n row = omega (arith, at_most_nine_jumps frame n row, all_jump frame n row)
