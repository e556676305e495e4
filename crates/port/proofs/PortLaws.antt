-- Laws of the records: one for each case of a definition, and that every step keeps a record lawful.
use mathlib.Core.Path.{◌≡◌, refl, sym, ap, ◌∙◌, subst}
use Rattle.std.proofs.Common.{Option, Some, None, Result, Ok, Err, leb, ◌&&◌, ℤ}
use mathlib.Core.Bool.{true, false}
use mathlib.Core.List.{List}
use Prim.Native.Nat.{ℕ, ◌^◌, ◌<◌, ◌≤◌}
use native.Mathlib.Omega.{arith}
use borrow.Author.Tests.{eq-eqb, ne_eqb, eqb-false}
use lib.Dec.{eqb, lit<}
use lib.ListN.{length, get_or}
use Rattle.refusals.specs.Refusals.{number_of}
use Rattle.refusals.specs.Answer.{answer_number, granted}
use Rattle.refusals.specs.declared.Refusal.{Refusal}
use Rattle.refusals.specs.declared.Refusal.TheVariants.{LastHopHeard, NotNext, DelayTooLong, NoClock, FewSamples, TooLate, BeyondRange}
use Rattle.numbers.specs.Bytes.{Bytes}
use Rattle.numbers.specs.Table.{Held}
use Rattle.times.specs.Times.{circle, counts, InRange, next_count, since_of}
use Rattle.choice.specs.Hop.{last_hop, hop_of}
use Rattle.times.specs.declared.LocalTime.{LocalTime}
use Rattle.times.specs.declared.GrandTime.{GrandTime}
use Rattle.times.specs.declared.ErrorTime.{ErrorTime}
use Rattle.samples.specs.Keep.{kept_of}
use Rattle.samples.specs.Rate.{neighbour_rate_of}
use Rattle.samples.specs.declared.Samples.{Samples}
use Rattle.samples.specs.declared.Pair.{Pair}
use Rattle.delay.specs.Delay.{longest_trip, longest_delay, delay_of, measured_of, link_delay_of}
use Rattle.timeline.specs.declared.Sent.{Sent}
use Rattle.timeline.specs.Sent.{longest_elapsed, sent_of}
use Rattle.delay.specs.declared.DelaySetting.{DelaySetting}
use Rattle.delay.specs.declared.DelaySetting.TheVariants.{Measured, Fixed}
use Rattle.choice.specs.Precedence.{worst_precedence}
use Rattle.choice.specs.Rank.{PrecedenceFits, CandidateFits}
use Rattle.choice.specs.declared.Precedence.{Precedence}
use Rattle.choice.specs.declared.Announcement.{Announcement}
use Rattle.choice.specs.declared.Candidate.{Candidate}
use Rattle.frame.specs.Frame.{frame_length, second_version, is_version, widths}
use Rattle.frame.specs.Read.{rows_of, read_of}
use Rattle.frame.specs.Write.{write_refusal}
use Rattle.frame.specs.Demands.{Typed}
use Rattle.frame.specs.declared.Fields.{Fields}
use Rattle.port.specs.Record.{silenced, too_old, aged_port, empty_port, used_port}
use Rattle.port.specs.Lawful.{LawfulPreceding, LawfulAnnouncement, LawfulPair, LawfulPort, LawfulClock, LawfulMac, FieldsInRange}
use Rattle.port.specs.Own.{stored_as, own_sample, own_reading_by, own_reading_of}
use Rattle.port.specs.Receive.{sample_of, same_clock, taken_port, refused_by, delayed_by, followed_by_of, counted_by, received_as, received_of}
use Rattle.port.specs.Send.{echo_tx, echo_rx, frame_of, stretch_of, sending_by, clock_sending, listener_hop_of, no_grand_time, no_error_time, listener_frame_of, profile_sending, sending_of, sending_done}
use Rattle.port.specs.declared.Setting.{Setting}
use Rattle.port.specs.declared.Profile.{Profile}
use Rattle.port.specs.declared.Profile.TheVariants.{Full, Listener}
use Rattle.port.specs.declared.Sender.{Sender}
use Rattle.port.specs.declared.Preceding.{Preceding}
use Rattle.port.specs.declared.Preceding.TheVariants.{Never, Was}
use Rattle.port.specs.declared.Port.{Port}
use Rattle.port.specs.declared.OwnClock.{OwnClock}
use Rattle.port.specs.declared.Outcome.{Outcome}
use Rattle.numbers.proofs.Table.{held_at, held_parted}
use Rattle.numbers.proofs.Branches.{if_true, if_false, if_when}
use Rattle.times.proofs.TimeLaws.{since_lt}
use Rattle.samples.proofs.KeepLaws.{kept_lawful}
use Rattle.timeline.proofs.SentLaws.{Departure, departure, sent_is}
use Rattle.choice.proofs.HopLaws.{hop_within}
use Rattle.choice.proofs.WorstLaws.{worst_fits}
use Rattle.frame.proofs.FrameLaws.{version_small, accepted, reading, unrefused}

-- ---- record

module _ (at : LocalTime) (timeout : ℕ) (port : Port) where
  pub aged_old : too_old port.announcement at timeout ≡ true → silenced port ≡ aged_port at timeout port
  unfolding aged_port
  aged_old e = if_true _ (silenced port) port e

  pub aged_fresh : too_old port.announcement at timeout ≡ false → port ≡ aged_port at timeout port
  unfolding aged_port
  aged_fresh e = if_false _ (silenced port) port e

  -- what holds of the record, and of it without announcement, samples and echo, holds of the aged one
  pub aged_is : (P : Port → Type 0) → P port → P (silenced port) → P (aged_port at timeout port)
  unfolding aged_port
  aged_is P stays goes = if_when P (too_old port.announcement at timeout) (λ _. goes) (λ _. stays)

-- ---- receiving

-- a frame with the last hop is refused with 7
pub received_last_hop : (setting : Setting) (chosen : ℕ) (f : Fields) (at : LocalTime) (port : Port)
    → f.hop ≡ last_hop → refused_by LastHopHeard f.count at port ≡ received_of setting chosen f at port
unfolding received_of
received_last_hop setting chosen f at port e =
    ap (λ (r : Result Port Refusal). received_as r f.count at port)
    (if_true _ (Err LastHopHeard) (counted_by port.preceding setting chosen f at port) (eq-eqb _ _ e))

-- what holds of every delay, and of the refusal with 9, holds of a link delay
delay_is : (P : Result ℕ Refusal → Type 0) (setting : DelaySetting) (rate : ℤ) (local p tx rx : LocalTime)
    → ((delay : ℕ) → P (Ok delay)) → P (Err DelayTooLong) → P (link_delay_of setting rate local p tx rx)
unfolding link_delay_of measured_of
delay_is P (Fixed delay) rate local p tx rx done long = done delay
delay_is P Measured rate local p tx rx done long =
    if_when P (eqb tx.0 0 && eqb rx.0 0) (λ _. done 0)
    (λ _. if_when P (leb trip longest_trip && leb turn longest_trip && leb delay longest_delay) (λ _. done delay) (λ _. long))
  where
    trip : ℕ
    trip = since_of p tx

    turn : ℕ
    turn = since_of local rx

    delay : ℕ
    delay = delay_of rate trip turn

-- ---- what a frame comes to

-- what holds of a refusal with 7 to 9, and of a frame that is taken, holds of the frame
module _ (setting : Setting) (chosen : ℕ) (f : Fields) (at : LocalTime) (port : Port) where
  pub received_is : (P : Outcome Port → Type 0)
      → ((refusal : Refusal) → 7 ≤ number_of refusal → number_of refusal ≤ 9 → P (refused_by refusal f.count at port))
      → ((count : ℕ) (p : LocalTime) (delay : ℕ) → (f.hop ≡ last_hop → ⊥) → port.preceding ≡ Was count p
      → P (record { answer = granted; after = taken_port f (hop_of f.hop chosen) p delay at port }))
      → P (received_of setting chosen f at port)
  unfolding received_of followed_by_of
  received_is P refuse take =
      if_when Stored (eqb f.hop last_hop) (λ _. refuse LastHopHeard (omega arith) (omega arith)) (λ n. counted (eqb-false _ _ n) port.preceding refl)
    where
      Stored : Result Port Refusal → Type 0
      Stored r = P (received_as r f.count at port)

      counted : (f.hop ≡ last_hop → ⊥) → (preceding : Preceding) → port.preceding ≡ preceding → Stored (counted_by preceding setting chosen f at port)
      counted n Never e = refuse NotNext (omega arith) (omega arith)
      counted n (Was count p) e =
          if_when Stored (eqb f.count (next_count count))
          (λ _. delay_is (λ (d : Result ℕ Refusal). Stored (delayed_by d chosen f p at port)) setting.delay
          (neighbour_rate_of port.pair f.local p) f.local p f.tx f.rx (λ delay. take count p delay n e) (refuse DelayTooLong (omega arith) (omega arith)))
          (λ _. refuse NotNext (omega arith) (omega arith))

-- a record that took a frame announces the frame's clock at the held hop; and no frame with the last hop is taken
pub received_announces : (setting : Setting) (chosen : ℕ) (f : Fields) (at : LocalTime) (port : Port) → answer_number (received_of setting chosen f at port).answer ≡ 0
    → ((received_of setting chosen f at port).after.announcement ≡ Some (record { precedence = f.precedence; hop = hop_of f.hop chosen; heard_at = at }))
    × (f.hop ≡ last_hop → ⊥)
received_announces setting chosen f at port =
    received_is setting chosen f at port
    (λ (d : Outcome Port). answer_number d.answer ≡ 0
    → (d.after.announcement ≡ Some (record { precedence = f.precedence; hop = hop_of f.hop chosen; heard_at = at })) × (f.hop ≡ last_hop → ⊥))
    (λ refusal l _ e. absurd (omega arith))
    (λ _ _ _ below _ _. (refl, below))

-- the next frameCount of a port stays, whatever it hears and however it ages
pub received_count : (setting : Setting) (chosen : ℕ) (f : Fields) (at : LocalTime) (port : Port) → (received_of setting chosen f at port).after.count ≡ port.count
received_count setting chosen f at port = received_is setting chosen f at port (λ (d : Outcome Port). d.after.count ≡ port.count) (λ _ _ _. refl) (λ _ _ _ _ _. refl)

pub aged_count : (at : LocalTime) (timeout : ℕ) (port : Port) → (aged_port at timeout port).count ≡ port.count
aged_count at timeout port = aged_is at timeout port (λ (r : Port). r.count ≡ port.count) refl refl

-- what holds of a refusal with 8, and of a reading that is taken, holds of the reading
pub own_reading_is : (count : ℕ) (grand : GrandTime) (at : LocalTime) (clock : OwnClock) (P : Outcome OwnClock → Type 0) → P (stored_as (Err NotNext) clock.samples count at)
    → ((held : ℕ) (when : LocalTime) → clock.preceding ≡ Was held when → P (stored_as granted (kept_of clock.samples true (own_sample grand when)) count at))
    → P (own_reading_of count grand at clock)
unfolding own_reading_of
own_reading_is count grand at clock P refuse take = go clock.preceding refl
  where
    go : (preceding : Preceding) → clock.preceding ≡ preceding → P (own_reading_by preceding count grand at clock.samples)
    go Never e = refuse
    go (Was held when) e = if_when P (eqb count (next_count held)) (λ _. take held when e) (λ _. refuse)

-- ---- sending

-- the stretch whose rest errorTime takes in, by the version
pub stretch_second : (version back : ℕ) → version ≡ second_version → back ≡ stretch_of version back
stretch_second version back e = if_true _ _ _ (eq-eqb _ _ e)

pub stretch_other : (version back : ℕ) → (version ≡ second_version → ⊥) → 0 ≡ stretch_of version back
stretch_other version back e = if_false _ _ _ (ne_eqb _ _ e)

-- it is within the bounds of backTime
pub stretch_small : (version back : ℕ) → back < longest_elapsed → stretch_of version back < longest_elapsed
stretch_small version back h = if_when (λ (n : ℕ). n < longest_elapsed) (eqb version second_version) (λ _. h) (λ _. lit< tt)

module _ (choice : Option Candidate) (samples : Samples) (sender : Sender) (version : ℕ) (t : LocalTime) (port : Port) where
  -- by the profile
  pub send_as : (profile : Profile) → sender.profile ≡ profile → profile_sending profile choice samples sender version t port ≡ sending_of choice samples sender version t port
  unfolding sending_of
  send_as profile e = ap (λ (x : Profile). profile_sending x choice samples sender version t port) (sym e)

  -- where no clock is chosen the samples do not matter
  pub send_unchosen : (others : Samples) → sending_of None samples sender version t port ≡ sending_of None others sender version t port
  unfolding sending_of
  send_unchosen others = of sender.profile
    where
      of : (profile : Profile) → profile_sending profile None samples sender version t port ≡ profile_sending profile None others sender version t port
      of Full = refl
      of Listener = refl

  -- what holds of a full bridge's refusal with 10 to 13, of its frame for the chosen clock, and of a listener's frame, holds of what is sent
  pub sending_is : (P : Result Fields Refusal → Type 0)
      → ((refusal : Refusal) → sender.profile ≡ Full → 10 ≤ number_of refusal → number_of refusal ≤ 13 → P (Err refusal))
      → ((clock : Candidate) (times : Sent) → sender.profile ≡ Full → choice ≡ Some clock → sent_of samples t sender.back (stretch_of version sender.back) ≡ Ok times
      → P (Ok (frame_of sender version clock.precedence clock.hop t times.grand times.error port)))
      → (sender.profile ≡ Listener → P (Ok (listener_frame_of sender version t port)))
      → P (sending_of choice samples sender version t port)
  unfolding sending_of
  sending_is P refuse send listen = of sender.profile refl
    where
      Sends : Candidate → Result Sent Refusal → Type 0
      Sends clock s = sent_of samples t sender.back (stretch_of version sender.back) ≡ s → P (sending_by s sender version clock.precedence clock.hop t port)

      chosen : (c : Option Candidate) → choice ≡ c → sender.profile ≡ Full → P (clock_sending c samples sender version t port)
      chosen None e f = refuse NoClock f (omega arith) (omega arith)
      chosen (Some clock) e f =
          sent_is samples t sender.back (stretch_of version sender.back) (Sends clock)
          (λ _. refuse FewSamples f (omega arith) (omega arith))
          (λ _. refuse TooLate f (omega arith) (omega arith))
          (λ ends times _ _ _ _ _ _ q. send clock times f e q)
          (λ _ _ _ _ _. refuse BeyondRange f (omega arith) (omega arith))
          refl

      of : (profile : Profile) → sender.profile ≡ profile → P (profile_sending profile choice samples sender version t port)
      of Full f = chosen choice refl f
      of Listener l = listen l

-- a frame that a full bridge sends is one for the chosen clock: its fields are those of `frame_of`, with what was read off the clock's samples
pub record SentFor (choice : Option Candidate) (samples : Samples) (sender : Sender) (version : ℕ) (t : LocalTime) (port : Port) (f : Fields) : Type 0 where
  pub clock : Candidate
  pub times : Sent
  pub chosen : choice ≡ Some clock
  pub sent : sent_of samples t sender.back (stretch_of version sender.back) ≡ Ok times
  pub same : frame_of sender version clock.precedence clock.hop t times.grand times.error port ≡ f

-- a grand time and an errorTime that are read off two samples
abbrev pub ReadOff : Samples → LocalTime → ℕ → ℕ → Fields → Type 0
ReadOff samples t back rest f = Departure samples t back rest f.grand f.error

-- of every frame, whatever it says of a clock
module _ (sender : Sender) (version : ℕ) (t : LocalTime) (port : Port) (precedence : Precedence) (hop : ℕ) (grand : GrandTime) (error : ErrorTime) (lawful : LawfulPort port) where
  -- its times are in range and its version is one, so Write takes it
  frame_written : is_version version ≡ true → InRange grand → t.0 < circle → (room : ℕ) → frame_length ≤ room → write_refusal (frame_of sender version precedence hop t grand error port) room ≡ granted
  frame_written known w ht room r =
      let m = echo_small port.echo lawful.echo in
      unrefused (frame_of sender version precedence hop t grand error port) room (record { seconds = w.seconds; fraction = w.fraction; local = ht; tx = m.0; rx = m.1; room = r; version = known })
    where
      echo_small : (s : Option Pair) → LawfulPair s → ((echo_tx s).0 < circle) × ((echo_rx s).0 < circle)
      echo_small None q = (omega arith, omega arith)
      echo_small (Some pair) q = q

  -- each of its other fields has its bits
  frame_typed : is_version version ≡ true → LawfulMac sender.mac → PrecedenceFits precedence → hop < 2 ^ 8 → error.0 < 2 ^ 32 → Typed (frame_of sender version precedence hop t grand error port)
  frame_typed known mac p h e = record {
    sa0 = mac.byte0;
    sa1 = mac.byte1;
    sa2 = mac.byte2;
    sa3 = mac.byte3;
    sa4 = mac.byte4;
    sa5 = mac.byte5;
    priority1 = p.priority1;
    source = p.source;
    variance = p.variance;
    priority2 = p.priority2;
    clock = p.clock;
    hop = h;
    count = lawful.count;
    error = e;
    version = version_small version known;
  }

module _ (choice : Option Candidate) (samples : Samples) (sender : Sender) (version : ℕ) (t : LocalTime) (port : Port) where
  -- where the answer is 0 there is a frame
  pub sending_frame : answer_number (sending_of choice samples sender version t port) ≡ 0 → (f : Fields) × (sending_of choice samples sender version t port ≡ Ok f)
  sending_frame =
      sending_is choice samples sender version t port (λ (s : Result Fields Refusal). answer_number s ≡ 0 → (f : Fields) × (s ≡ Ok f))
      (λ refusal _ l _ e. absurd (omega arith))
      (λ clock times _ _ _ _. (frame_of sender version clock.precedence clock.hop t times.grand times.error port, refl))
      (λ _ _. (listener_frame_of sender version t port, refl))

  module _ (f : Fields) (framed : sending_of choice samples sender version t port ≡ Ok f) where
    -- what holds of a full bridge's frame for the chosen clock, and of a listener's, holds of a frame that is sent
    sending_framed : (P : Fields → Type 0)
        → ((clock : Candidate) (times : Sent) → sender.profile ≡ Full → choice ≡ Some clock → sent_of samples t sender.back (stretch_of version sender.back) ≡ Ok times
        → P (frame_of sender version clock.precedence clock.hop t times.grand times.error port))
        → (sender.profile ≡ Listener → P (listener_frame_of sender version t port)) → P f
    sending_framed P send listen =
        sending_is choice samples sender version t port (λ (s : Result Fields Refusal). s ≡ Ok f → P f)
        (λ refusal _ _ _ e. absurd cc)
        (λ clock times u c q e. let same : frame_of sender version clock.precedence clock.hop t times.grand times.error port ≡ f = cc in subst P same (send clock times u c q))
        (λ l e. let same : listener_frame_of sender version t port ≡ f = cc in subst P same (listen l))
        framed

    -- a full bridge's is one for the chosen clock
    pub sending_for : sender.profile ≡ Full → SentFor choice samples sender version t port f
    sending_for full =
        sending_framed (SentFor choice samples sender version t port)
        (λ clock times _ c q. record { clock = clock; times = times; chosen = c; sent = q; same = refl })
        (λ l. let both = sym full ∙ l in absurd cc)

    -- its grand time and errorTime are read off the samples
    pub sending_read_off : sender.profile ≡ Full → ReadOff samples t sender.back (stretch_of version sender.back) f
    sending_read_off full =
        let s = sending_for full in
        subst (ReadOff samples t sender.back (stretch_of version sender.back)) s.same (departure samples t sender.back (stretch_of version sender.back) s.times s.sent)

    -- a listener's is the one that it always sends
    pub sending_listens : sender.profile ≡ Listener → f ≡ listener_frame_of sender version t port
    sending_listens l =
        sending_framed (λ (g : Fields). g ≡ listener_frame_of sender version t port)
        (λ _ _ full _ _. let both = sym full ∙ l in absurd cc)
        (λ _. refl)

    -- of either, its version is the one that was asked for, its frameCount is the port's next, Write takes it, and each field has its bits
    pub sending_version : f.version ≡ version
    sending_version = sending_framed (λ (g : Fields). g.version ≡ version) (λ _ _ _ _ _. refl) (λ _. refl)

    pub sending_count : f.count ≡ port.count
    sending_count = sending_framed (λ (g : Fields). g.count ≡ port.count) (λ _ _ _ _ _. refl) (λ _. refl)

    pub sending_written : is_version version ≡ true → (room : ℕ) → t.0 < circle → LawfulPort port → frame_length ≤ room → write_refusal f room ≡ granted
    sending_written known room ht l r =
        sending_framed (λ (f : Fields). write_refusal f room ≡ granted)
        (λ clock times _ _ q.
        frame_written sender version t port clock.precedence clock.hop times.grand times.error l known (departure samples t sender.back (stretch_of version sender.back) times q).range ht room r)
        (λ _. frame_written sender version t port worst_precedence listener_hop_of no_grand_time no_error_time l known (record { seconds = lit< tt; fraction = lit< tt }) ht room r)

    pub sending_typed : is_version version ≡ true → LawfulMac sender.mac → CandidateFits choice → LawfulPort port → Typed f
    sending_typed known mac fits l =
        sending_framed Typed
        (λ clock times _ c q.
        let v = subst CandidateFits c fits in
        frame_typed sender version t port clock.precedence clock.hop times.grand times.error l known mac v.0 v.1 (departure samples t sender.back (stretch_of version sender.back) times q).bits)
        (λ _. frame_typed sender version t port worst_precedence listener_hop_of no_grand_time no_error_time l known mac worst_fits (lit< tt) (lit< tt))

-- ---- the fields of a frame that was read

-- each is in its range: a row's number is below what its bytes can hold
pub read_in_range : (s : List ℕ) (f : Fields) → Bytes s → read_of s ≡ Ok f → FieldsInRange f
read_in_range s f b e =
    let r = reading s f e in
    let len : length s ≡ frame_length = (accepted s r.0).sized in
    let h : Held widths (rows_of s) = held_parted widths 0 s b (omega arith) in
    let row : (k : ℕ) → k < length widths → get_or (rows_of s) k 0 < 256 ^ get_or widths k 0 = λ k. held_at widths (rows_of s) k h in
    subst FieldsInRange r.1
    (record {
      typed = record {
        sa0 = row 1 (lit< tt);
        sa1 = row 2 (lit< tt);
        sa2 = row 3 (lit< tt);
        sa3 = row 4 (lit< tt);
        sa4 = row 5 (lit< tt);
        sa5 = row 6 (lit< tt);
        priority1 = row 10 (lit< tt);
        source = row 11 (lit< tt);
        variance = row 12 (lit< tt);
        priority2 = row 13 (lit< tt);
        clock = row 14 (lit< tt);
        hop = row 15 (lit< tt);
        count = row 16 (lit< tt);
        error = row 23 (lit< tt);
        version = row 9 (lit< tt);
      };
      grand = record { seconds = row 18 (lit< tt); fraction = row 19 (lit< tt) };
      local = row 20 (lit< tt);
      tx = row 21 (lit< tt);
      rx = row 22 (lit< tt);
    })

-- the precedence in it has its bits
fields_precedence : (f : Fields) → Typed f → PrecedenceFits f.precedence
fields_precedence f t = record { priority1 = t.priority1; source = t.source; variance = t.variance; priority2 = t.priority2; clock = t.clock }

-- ---- what is announced

-- a clock that is announced is a candidate whose parts have their bits
pub announced_fits : (held : Announcement) (number : ℕ) → LawfulAnnouncement (Some held) → number < 2 ^ 8
    → CandidateFits (Some (record { precedence = held.precedence; hop = held.hop; number = number }))
announced_fits held number l n = (l.0, omega (arith, l.1), n)

-- ---- every step keeps a record lawful

pub empty_lawful : LawfulPort empty_port
empty_lawful = record { preceding = tt; announcement = tt; samples = tt; pair = tt; echo = tt; count = lit< tt }

pub used_lawful : (port : Port) → LawfulPort port → LawfulPort (used_port port)
used_lawful port l = record {
  preceding = l.preceding;
  announcement = l.announcement;
  samples = l.samples;
  pair = l.pair;
  echo = l.echo;
  count = omega arith;
}

pub aged_lawful : (at : LocalTime) (timeout : ℕ) (port : Port) → LawfulPort port → LawfulPort (aged_port at timeout port)
aged_lawful at timeout port l =
    aged_is at timeout port LawfulPort l (record { preceding = l.preceding; announcement = tt; samples = tt; pair = l.pair; echo = tt; count = l.count })

pub received_lawful : (setting : Setting) (chosen : ℕ) (f : Fields) (at : LocalTime) (port : Port)
    → at.0 < circle → FieldsInRange f → LawfulPort port → LawfulPort (received_of setting chosen f at port).after
received_lawful setting chosen f at port h r l =
    received_is setting chosen f at port (λ (d : Outcome Port). LawfulPort d.after)
    (λ _ _ _. record { preceding = (r.typed.count, h); announcement = l.announcement; samples = l.samples; pair = l.pair; echo = l.echo; count = l.count })
    (λ count p delay other e.
    let arrived : LawfulPreceding (Was count p) = subst LawfulPreceding e l.preceding in
    record {
      preceding = (r.typed.count, h);
      announcement = (fields_precedence f r.typed, omega (arith, hop_within f.hop chosen (omega (arith, r.typed.hop, other))), h);
      samples =
          kept_lawful port.samples (same_clock port.announcement f.precedence) (sample_of f p delay) l.samples
          (record { grand = r.grand; local = since_lt p (record { 0 = delay }); error = r.typed.error });
      pair = (r.local, arrived.1);
      echo = (r.local, arrived.1);
      count = l.count;
    })

pub own_reading_lawful : (count : ℕ) (grand : GrandTime) (at : LocalTime) (clock : OwnClock)
    → count < counts → at.0 < circle → InRange grand → LawfulClock clock → LawfulClock (own_reading_of count grand at clock).after
own_reading_lawful count grand at clock k h r l =
    own_reading_is count grand at clock (λ (d : Outcome OwnClock). LawfulClock d.after)
    (record { preceding = (k, h); samples = l.samples })
    (λ held when e.
    let read : LawfulPreceding (Was held when) = subst LawfulPreceding e l.preceding in
    record {
      preceding = (k, h);
      samples = kept_lawful clock.samples true (own_sample grand when) l.samples (record { grand = r; local = read.1; error = lit< tt });
    })

-- whatever a send is answered with, the port's next frameCount is used up
pub send_uses_up : (s : Result Fields Refusal) (port : Port) → (sending_done s port).after ≡ used_port port
send_uses_up s port = refl
