-- Outward and Inward, one after the other, and the register: each answer, what comes back, that it is the next one, and which hints are good enough.
use mathlib.Core.Path.{◌≡◌, refl, sym, ap, ◌∙◌, subst}
use mathlib.Core.Bool.{true≢false, ◌&&◌}
use mathlib.Core.Logic.{◌↔◌, inl, inr}
use Prim.Native.Nat.{ℕ, ◌+◌, ◌-◌, ◌*◌, ◌/◌, ◌%◌, ◌<◌, ◌≤◌}
use native.Mathlib.Nat.{lt_of_not-le}
use native.Mathlib.Decide.{dec_le}
use native.Mathlib.Omega.{arith}
use borrow.Author.Tests.{lt-ltb, ltb-true, ltb-false}
use lib.Dec.{ltb}
use Rattle.std.proofs.Common.{Result, Ok, Err}
use Rattle.refusals.specs.Answer.{answer_number}
use Rattle.refusals.specs.declared.Refusal.{Refusal}
use Rattle.refusals.specs.declared.Refusal.TheVariants.{OutOfRange}
use Rattle.times.specs.Times.{second, units, InRange, is_in_range}
use Rattle.times.specs.Parts.{least_of}
use Rattle.times.specs.declared.GrandTime.{GrandTime}
use Rattle.bus.specs.Bus.{bus_seconds, cycle_ticks, second_ticks, is_bus, tick_of, bus_time_of, outward_of, next_of, before_end, inward_of, cycle_time_of, register_of, fields_of}
use Rattle.bus.specs.Demands.{OnBus, Next, NoneLeft, Taken, OutwardAnswers, InwardAnswers, RegisterAnswers, InReach, tick_units, JustBefore, ticks}
use Rattle.bus.specs.declared.BusTime.{BusTime}
use Rattle.bus.specs.declared.CycleTime.{CycleTime}
use Rattle.bus.proofs.BusLaws.{grand_holds, holds_grand, bus_holds, holds_bus, tick_reached, tick_lt, fields_tick, next_is, none_left}
use Rattle.numbers.proofs.Branches.{if_true, if_when}
use Rattle.times.proofs.TestLaws.{both_hold}
use Rattle.times.proofs.TimeLaws.{grand_is}
use Rattle.times.proofs.PartLaws.{part_near, part_whole}

-- ---- the answers

pub outward_answers : (g : GrandTime) → OutwardAnswers g (outward_of g)
unfolding outward_of
outward_answers g =
    if_when (OutwardAnswers g) (is_in_range g)
    (λ e. inr (refl, refl, holds_grand g e))
    (λ e. inl (refl, refl, λ r. true≢false (sym (grand_holds g r) ∙ e)))

-- 2 exactly for a field or a hint out of range, then 13 exactly where no grand time is left with the fields, and else the next one that has them
pub inward_answers : (t : BusTime) (hint : GrandTime) → InwardAnswers t hint (inward_of t hint)
unfolding inward_of
inward_answers t hint =
    if_when (InwardAnswers t hint) (is_bus t && is_in_range hint)
    (λ e. let (b, g) = both_hold (is_bus t) (is_in_range hint) e in taken (holds_bus t b) (holds_grand hint g))
    (λ e. inl (refl, refl, λ (on, range). true≢false (sym (rw (bus_holds t on, grand_holds hint range)) ∙ e)))
  where
    taken : OnBus t → InRange hint → InwardAnswers t hint (before_end (next_of t hint))
    taken on range =
        let n = next_is t hint on range.fraction in
        if_when (InwardAnswers t hint) (ltb (next_of t hint).0 second)
        (λ e. inr (inr (refl, (on, range), (next_of t hint, refl, record { seconds = ltb-true (next_of t hint).0 second e; fraction = n.fraction }, n))))
        (λ e. inr (inl (refl, refl, (on, range), none_left t hint on range.fraction (ltb-false (next_of t hint).0 second e))))

pub register_answers : (t : BusTime) → RegisterAnswers t (register_of t)
unfolding register_of
register_answers t =
    if_when (RegisterAnswers t) (is_bus t)
    (λ e. inr (refl, refl, holds_bus t e))
    (λ e. inl (refl, refl, λ r. true≢false (sym (bus_holds t r) ∙ e)))

-- ---- what an answer tells

outward_told : (g : GrandTime) (t : BusTime) → outward_of g ≡ Ok t → InRange g × (bus_time_of g ≡ t)
outward_told g t e = go (subst (OutwardAnswers g) e (outward_answers g))
  where
    go : OutwardAnswers g (Ok t) → InRange g × (bus_time_of g ≡ t)
    go (inl (q, n, f)) = absurd (omega (arith, q))
    go (inr (d, q, r)) = (r, let k : bus_time_of g ≡ t = cc in k)

-- the grand time that Inward gives is in range and the next one with the fields
pub inward_next : (t : BusTime) (hint g : GrandTime) → inward_of t hint ≡ Ok g → InRange g × Next t hint g
inward_next t hint g e = go (subst (InwardAnswers t hint) e (inward_answers t hint))
  where
    go : InwardAnswers t hint (Ok g) → InRange g × Next t hint g
    go (inl (q, n, f)) = absurd (omega (arith, q))
    go (inr (inl (q, n, r, f))) = absurd (omega (arith, q))
    go (inr (inr (d, r, (k, q, i, n)))) =
        let same : k ≡ g = cc in
        subst (λ (x : GrandTime). InRange x × Next t hint x) same (i, n)

-- ---- Inward gives the next one, and nothing else is it

next_one : (t : BusTime) (hint a b : GrandTime) → Next t hint a → Next t hint b → a ≡ b
next_one t hint a b m n =
    let same : units a ≡ units b = omega (arith, m.least b n.fraction n.fields n.after, n.least a m.fraction m.fields m.after) in
    grand_is a (units b) m.fraction same ∙ sym (grand_is b (units b) n.fraction refl)

pub inward_is : (t : BusTime) (hint g : GrandTime) → OnBus t → InRange hint → InRange g → Next t hint g → inward_of t hint ≡ Ok g
unfolding inward_of
inward_is t hint g on range within n =
    rw (bus_holds t on, grand_holds hint range, next_one t hint (next_of t hint) g (next_is t hint on range.fraction) n, lt-ltb g.0 second within.seconds) refl

-- ---- the theorems on both calls

-- a bus time that Outward gives is one that a bus can have
outward_on : (g : GrandTime) → g.1 < second → OnBus (bus_time_of g)
outward_on g h =
    let l = tick_lt g.1 h in
    record { seconds = omega arith; cycle = omega arith; offset = omega arith }

-- Outward after Inward is the same fields
pub outward_inward : (t : BusTime) (hint g : GrandTime) → inward_of t hint ≡ Ok g → outward_of g ≡ Ok t
unfolding outward_of
outward_inward t hint g e =
    let (r, n) = inward_next t hint g e in
    sym (if_true (is_in_range g) (Ok (bus_time_of g)) (Err OutOfRange) (grand_holds g r)) ∙ ap Ok n.fields

-- Inward gives the least: it isn't below the hint, and no earlier grand time that isn't has those fields
pub inward_least : (t : BusTime) (hint g : GrandTime) → inward_of t hint ≡ Ok g
    → (units hint ≤ units g) × ((other : GrandTime) → outward_of other ≡ Ok t → units hint ≤ units other → units g ≤ units other)
inward_least t hint g e =
    let (r, n) = inward_next t hint g e in
    (n.after, λ other q h. let (i, k) = outward_told other t q in n.least other i.fraction k h)

-- and it is less than 128 s after the hint: 128 s before it the fields are the same
pub inward_soon : (t : BusTime) (hint g : GrandTime) → inward_of t hint ≡ Ok g → units g < units hint + bus_seconds * second
inward_soon t hint g e = by (dec_le bus_seconds g.0)
  where
    n : Next t hint g
    n = (inward_next t hint g e).1

    by : Dec (bus_seconds ≤ g.0) → units g < units hint + bus_seconds * second
    by (no h) = omega (arith, lt_of_not-le h, n.fraction)
    by (yes h) =
        let b : GrandTime = record { 0 = g.0 - bus_seconds; 1 = g.1 } in
        let s : b.0 % bus_seconds ≡ g.0 % bus_seconds = omega arith in
        let same : bus_time_of b ≡ t = (λ i. record { seconds = s i; cycle = (bus_time_of g).cycle; offset = (bus_time_of g).offset }) ∙ n.fields in
        let below : units b < units hint = lt_of_not-le (λ q. omega (arith, n.least b n.fraction same q)) in
        omega arith

-- Inward of what Outward gives, with the grand time itself as the hint, is that grand time
pub inward_outward : (g : GrandTime) (t : BusTime) → outward_of g ≡ Ok t → inward_of t g ≡ Ok g
inward_outward g t e =
    let (r, q) = outward_told g t e in
    let on : OnBus t = subst OnBus q (outward_on g r.fraction) in
    inward_is t g g on r r (record { fraction = r.fraction; fields = q; after = omega arith; least = λ other h k l. l })

-- 13 is given exactly where fields and hint are in range and no grand time is left with the fields
pub inward_beyond : (t : BusTime) (hint : GrandTime) → (answer_number (inward_of t hint) ≡ 13) ↔ (Taken t hint × NoneLeft t hint)
inward_beyond t hint = (there (inward_of t hint) (inward_answers t hint), λ (r, none). back (inward_of t hint) r none (inward_answers t hint))
  where
    there : (a : Result GrandTime Refusal) → InwardAnswers t hint a → answer_number a ≡ 13 → Taken t hint × NoneLeft t hint
    there a (inl (q, n, f)) e = absurd (omega (arith, q, e))
    there a (inr (inl (q, n, r, none))) e = (r, none)
    there a (inr (inr (q, r, rest))) e = absurd (omega (arith, q, e))

    back : (a : Result GrandTime Refusal) → Taken t hint → NoneLeft t hint → InwardAnswers t hint a → answer_number a ≡ 13
    back a r none (inl (q, n, f)) = absurd (f r)
    back a r none (inr (inl (q, n, s, l))) = q
    back a r none (inr (inr (q, s, (g, k, i, n)))) = absurd (none g i n.fields n.after)

-- ---- hints that are good enough

-- grand times in one tick lie less than a tick apart
tick_near : (f g : ℕ) → tick_of f ≡ tick_of g → f < g + tick_units
tick_near f g e =
    let first : least_of second_ticks second (tick_of f) ≤ g = tick_reached (tick_of f) g (omega arith) in
    omega (arith, part_near second_ticks second (omega arith) (omega arith) f)

-- from a hint in reach on, no earlier second of the bus's has the tick: there it would be over
own_tick : (hint k g : GrandTime) → InReach hint g → k.1 < second → g.1 < second → units hint ≤ units k → units k ≤ units g → k.0 % bus_seconds ≡ g.0 % bus_seconds
    → tick_of k.1 ≡ tick_of g.1 → k.0 ≡ g.0
own_tick hint k g reach i j after most s m = omega (arith, early)
  where
    early : k.0 < g.0 → ⊥
    early h =
        let turn : k.0 + bus_seconds ≤ g.0 = omega arith in
        omega (arith, reach.past (record { 0 = g.0 - bus_seconds; 1 = k.1 }) i (omega arith) m)

-- with a hint at or before a grand time at which the same tick of 128 s before is over, what Inward gives lies in the grand time's tick, no later than it
pub inward_reach : (g : GrandTime) (t : BusTime) (hint : GrandTime) → outward_of g ≡ Ok t → InRange hint → InReach hint g
    → (k : GrandTime) × (inward_of t hint ≡ Ok k) × JustBefore k g
inward_reach g t hint e range reach =
    let (r, q) = outward_told g t e in
    let on : OnBus t = subst OnBus q (outward_on g r.fraction) in
    let k = next_of t hint in
    let n = next_is t hint on range.fraction in
    let (s, m) = fields_tick g t q in
    let (u, v) = fields_tick k t n.fields in
    let most : units k ≤ units g = n.least g r.fraction q reach.before in
    let same : k.0 ≡ g.0 = own_tick hint k g reach n.fraction r.fraction n.after most (u ∙ sym s) (v ∙ sym m) in (
      k,
      inward_is t hint k on range (record { seconds = omega arith; fraction = n.fraction }) n,
      record {
        same = record { seconds = same; tick = v ∙ sym m };
        before = most;
        near = omega (arith, tick_near g.1 k.1 (m ∙ sym v));
      },
    )

-- and with no other hint does it
pub reach_only : (g : GrandTime) (t : BusTime) (hint k : GrandTime) → outward_of g ≡ Ok t → inward_of t hint ≡ Ok k → JustBefore k g → InReach hint g
reach_only g t hint k e f near =
    let (r, q) = outward_told g t e in
    let (i, n) = inward_next t hint k f in
    record { before = omega (arith, n.after, near.before); past = over q i n }
  where
    over : bus_time_of g ≡ t → InRange k → Next t hint k → (e : GrandTime) → e.1 < second → e.0 + bus_seconds ≡ g.0 → tick_of e.1 ≡ tick_of g.1 → units e < units hint
    over q i n e h s m =
        let turn : e.0 % bus_seconds ≡ g.0 % bus_seconds = omega arith in
        let same : bus_time_of e ≡ t = (λ j. record { seconds = turn j; cycle = m j / cycle_ticks; offset = m j % cycle_ticks }) ∙ q in
        lt_of_not-le (λ l. omega (arith, n.least e h same l, near.same.seconds))

-- a hint that is older than the grand time by no more than 128 s less a tick is such a hint
pub hint_reach : (hint g : GrandTime) → g.1 < second → units hint ≤ units g → units g + tick_units ≤ units hint + bus_seconds * second → InReach hint g
hint_reach hint g within before old = record {
  before = before;
  past = λ e h s m. omega (arith, tick_near e.1 g.1 m);
}

-- ---- ticks

-- a bus time as one number is the grand time as one number, brought to ticks, rounded down, and taken modulo 128 s of them
pub outward_whole : (g : GrandTime) → g.1 < second → ticks (bus_time_of g) ≡ units g * second_ticks / second % (bus_seconds * second_ticks)
outward_whole g h = omega (arith, tick_lt g.1 h, part_whole second_ticks second (omega arith) (omega arith) g.0 g.1)

-- ---- the register

-- the fields of a register that holds a bus time are that bus time
pub fields_register : (t : BusTime) (r : CycleTime) → register_of t ≡ Ok r → fields_of r ≡ t
fields_register t r e = go (subst (RegisterAnswers t) e (register_answers t))
  where
    parted : OnBus t → fields_of (cycle_time_of t) ≡ t
    parted on =
        let s : (fields_of (cycle_time_of t)).seconds ≡ t.seconds = omega arith in
        let c : (fields_of (cycle_time_of t)).cycle ≡ t.cycle = omega arith in
        let o : (fields_of (cycle_time_of t)).offset ≡ t.offset = omega arith in
        λ i. record { seconds = s i; cycle = c i; offset = o i }

    go : RegisterAnswers t (Ok r) → fields_of r ≡ t
    go (inl (q, n, f)) = absurd (omega (arith, q))
    go (inr (d, q, on)) =
        let held : cycle_time_of t ≡ r = cc in
        ap fields_of (sym held) ∙ parted on

-- and a register whose fields a bus can have holds them
pub register_fields : (r : CycleTime) → OnBus (fields_of r) → register_of (fields_of r) ≡ Ok r
unfolding register_of
register_fields r on =
    let whole : (cycle_time_of (fields_of r)).0 ≡ r.0 = omega arith in
    rw (bus_holds (fields_of r) on) (λ i. Ok (record { 0 = whole i }))
