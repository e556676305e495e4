-- The order of refusals of each call on the state: the number given is the lowest that applies; the own clock tests 2, 10, 8.
use mathlib.Core.Path.{◌≡◌, refl, sym, ◌∙◌, subst}
use mathlib.Core.Bool.{Bool, true, false, not, true≢false}
use mathlib.Core.List.{List, [], ◌∷◌, ◌++◌}
use mathlib.Core.Logic.{◌⊎◌, inl, inr, ⊎_elim}
use Prim.Native.Nat.{ℕ, zero, suc, ◌+◌, ◌-◌, ◌/◌, ◌^◌, ◌<◌, ◌≤◌}
use native.Mathlib.Omega.{arith}
use lib.Dec.{ltb}
use lib.ListN.{get_or, take}
use lib.Pow.{pow-lt, pow_mono, shl-shr, shr_lt, shr_mono}
use borrow.Author.Tests.{eqb-true, eqb-false, leb-true, leb-false, ltb-true, ltb-false}
use Rattle.std.specs.Prelude.{⊤}
use Rattle.std.proofs.Common.{Option, Some, None, Result, Ok, Err}
use Rattle.refusals.specs.Answer.{answer_number, granted}
use Rattle.refusals.specs.declared.Refusal.{Refusal}
use Rattle.refusals.specs.declared.Refusal.TheVariants.{BadSetup, OutOfRange, NoLink, WrongLength, NoClock}
use Rattle.refusals.specs.Order.{Condition, given, Lowest, First, nowhere}
use Rattle.numbers.specs.Table.{parted}
use Rattle.times.specs.declared.LocalTime.{LocalTime}
use Rattle.delay.specs.declared.DelaySetting.{DelaySetting}
use Rattle.delay.specs.declared.DelaySetting.TheVariants.{Measured, Fixed}
use Rattle.timeline.specs.Drift.{drift_through_of, drift_of, drift_no}
use Rattle.samples.specs.Keep.{ends_of}
use Rattle.samples.specs.declared.Ends.{Ends}
use Rattle.choice.specs.Choose.{chosen_hop}
use Rattle.frame.specs.Frame.{is_version, fields_of}
use Rattle.frame.specs.Read.{rows_of, read_refusal, read_as, read_of}
use Rattle.frame.specs.Order.{NoVersion, read_conditions}
use Rattle.port.specs.Order.{departure_conditions}
use Rattle.port.specs.declared.Profile.{Profile}
use Rattle.port.specs.declared.Profile.TheVariants.{Full, Listener}
use Rattle.port.specs.declared.Setting.{Setting}
use Rattle.bridge.specs.Arguments.{bit, has_link, on_port_of, port_refusal, send_refusal, own_clock_refusal, mask_beyond}
use Rattle.bridge.specs.Table.{port_at, samples_at}
use Rattle.bridge.specs.Fits.{delay_fits, all, setting_fits, measured_setting, ranges_fit, profile_fits, setup_fits}
use Rattle.bridge.specs.State.{Lawful, version_at, answers, refused_or}
use Rattle.bridge.specs.Setup.{fresh_of, no_bridge, setup_of}
use Rattle.bridge.specs.Links.{links_of}
use Rattle.bridge.specs.Own.{own_clock_of}
use Rattle.bridge.specs.Receive.{setting_at, read_by, receive_fields_of, receive_of}
use Rattle.bridge.specs.Age.{age_of}
use Rattle.bridge.specs.Chosen.{chosen_of}
use Rattle.bridge.specs.Send.{chosen_samples, sending_at, send_of}
use Rattle.bridge.specs.Drift.{drift_at}
use Rattle.bridge.specs.Order.{Above, ListenerOtherwise, setup_conditions, BitBeyond, links_conditions, age_conditions, drift_conditions, own_clock_conditions, port_conditions, heard_conditions, receive_conditions, send_conditions}
use Rattle.bridge.specs.declared.Setup.{Setup}
use Rattle.bridge.specs.declared.Bridge.{Bridge}
use Rattle.bridge.specs.declared.Done.{Done}
use Rattle.refusals.proofs.Order.{ascends, first_lowest, same_number, Tells, Fails, less_tells, most_tells, less_fails, most_fails, same_fails, first_if, fails_same, Checks, check, check_both, checked, either_fails, first_stays, first_more}
use Rattle.frame.proofs.Order.{first_require, version_fails, read_order}
use Rattle.port.proofs.Order.{frame_order, reading_order, departure_order}
use Rattle.bridge.proofs.CheckLaws.{no_refusal, told_number}
use Rattle.bridge.proofs.TableLaws.{link_beyond, chosen_lawful}

-- ---- Setup

-- a delay that does not fit is a fixed one above 2^30
delay_fails : (d : DelaySetting) → Fails (delay_fits d) (Above d)
unfolding delay_fits
delay_fails Measured = record { is = true≢false; not = λ _ h. h }
delay_fails (Fixed delay) = most_fails delay (2 ^ 30)

-- a test fails of the first n elements where it does of one; the plain one, which stands for one that there is not, passes it
all_fail : {A : Type 0} (test : A → Bool) (Other : A → Type 0) (plain : A) → ((a : A) → Fails (test a) (Other a)) → (Other plain → ⊥)
    → (n : ℕ) (l : List A) → Fails (all test (take n l)) ((i : ℕ) × (i < n) × Other (get_or l i plain))
unfolding all
all_fail test Other plain fails passes zero l = record { is = λ e. absurd (true≢false e); not = λ _ h. omega (arith, h.1) }
all_fail test Other plain fails passes (suc n) [] = record { is = λ e. absurd (true≢false e); not = λ _ h. passes h.2 }
all_fail {A} test Other plain fails passes (suc n) (a ∷ l) = fails_same (⊎_elim at_first at_next) split (either_fails (fails a) (all_fail test Other plain fails passes n l))
  where
    Somewhere : ℕ → List A → Type 0
    Somewhere n l = (i : ℕ) × (i < n) × Other (get_or l i plain)

    at_first : Other a → Somewhere (suc n) (a ∷ l)
    at_first h = (0, omega arith, h)

    at_next : Somewhere n l → Somewhere (suc n) (a ∷ l)
    at_next (i, k, h) = (suc i, omega (arith, k), h)

    split : Somewhere (suc n) (a ∷ l) → Other a ⊎ Somewhere n l
    split (zero, k, h) = inl h
    split (suc i, k, h) = inr (i, omega (arith, k), h)

-- a profile that does not fit is a listener's, set up otherwise
profile_fails : (profile : Profile) (n : ℕ) (capable : Bool) (back : ℕ) → Fails (profile_fits profile n capable back) (ListenerOtherwise profile n capable back)
unfolding profile_fits
profile_fails Full n capable back = record { is = true≢false; not = λ _ h. h }
profile_fails Listener n capable back = either_fails (same_fails n 1) (either_fails (not_fails capable) (same_fails back 0))
  where
    not_fails : (t : Bool) → Fails (not t) (t ≡ true)
    not_fails true = record { is = λ _. refl; not = λ e h. true≢false (sym e) }
    not_fails false = record { is = λ e. absurd (true≢false e); not = λ _ h. true≢false (sym h) }

-- each part of the test that Setup makes
setup_checks : (s : Setup) → Checks 1 (setup_fits s) (setup_conditions s)
unfolding setup_fits ranges_fit
setup_checks s =
    check_both (profile_fails s.sender.profile s.n s.capable s.sender.back)
    (check_both (most_fails 1 s.n)
    (check_both (most_fails s.n 8)
    (check_both (most_fails (2 ^ 36) s.timeout)
    (check_both (most_fails s.timeout (2 ^ 46))
    (check_both (fails_same (λ h. omega (arith, h)) (λ h. omega (arith, h)) (less_fails s.sender.back (2 ^ 39)))
    (check_both (all_fail setting_fits (λ (x : Setting). Above x.delay) measured_setting (λ x. delay_fails x.delay) (λ h. h) s.n s.settings)
    (check (all_fail is_version NoVersion 1 version_fails (λ other. other.0 refl) s.n s.versions))))))))

-- Setup refuses with 1 where one of its conditions holds, and else not
pub setup_lowest : (s : Setup) → Lowest (setup_conditions s) (answer_number (setup_of s).answer)
unfolding setup_of
setup_lowest s = first_lowest 1 refl (checked (λ (d : Done ⊤). answer_number d.answer) (answers granted (fresh_of s)) (answers (Err BadSetup) no_bridge) refl refl (setup_checks s))

-- ---- Links, Age and Drift

-- a number is less than the power of two with it as the exponent
below_power : (m : ℕ) → m < 2 ^ m
below_power zero = omega arith
below_power (suc m) = let more : 2 ^ m < 2 ^ suc m = pow-lt (omega arith) in omega (arith, below_power m)

-- a mask from 2^n on has a bit from n on: the highest that is set
top_bit : (steps n mask : ℕ) → 2 ^ n ≤ mask → mask < 2 ^ (n + steps) → BitBeyond n mask
top_bit zero n mask l h = let same : 2 ^ (n + 0) ≤ 2 ^ n = pow_mono (omega arith) in absurd (omega (arith, l, h))
top_bit (suc steps) n mask l h =
    by (ltb mask (2 ^ (1 + n))) refl (λ more. top_bit steps (1 + n) mask more (subst (λ (k : ℕ). mask < 2 ^ k) (omega arith) h))
  where
    by : (t : Bool) → ltb mask (2 ^ (1 + n)) ≡ t → (2 ^ (1 + n) ≤ mask → BitBeyond (1 + n) mask) → BitBeyond n mask
    by true e higher =
        let q : mask / 2 ^ n < 2 = shr_lt 1 n (ltb-true _ _ e) in
        let p : 1 ≤ mask / 2 ^ n = subst (λ (k : ℕ). k ≤ mask / 2 ^ n) (shl-shr 1 n) (shr_mono n (omega (arith, l))) in
        (n, omega arith, omega arith)
    by false e higher = let r = higher (ltb-false _ _ e) in (r.0, omega (arith, r.1), r.2)

-- so the test of a mask finds a bit beyond n
mask_tells : (n mask : ℕ) → Tells (mask_beyond n mask) (BitBeyond n mask)
unfolding mask_beyond
mask_tells n mask = record {
  is = λ e. let more : 2 ^ mask ≤ 2 ^ (n + mask) = pow_mono (omega arith) in top_bit mask n mask (leb-true _ _ e) (omega (arith, below_power mask));
  not = λ e h. omega (arith, link_beyond n mask h.0 (leb-false _ _ e) h.1, h.2);
}

-- Links, Age and Drift refuse with 2 where their condition holds, and else not
pub links_lowest : (b : Bridge) (mask : ℕ) → Lowest (links_conditions b mask) (answer_number (links_of b mask).answer)
unfolding links_of
links_lowest b mask = first_lowest 1 refl (first_if (λ (d : Done ℕ). answer_number d.answer) (mask_tells b.setup.n mask) (λ _. nowhere refl))

pub age_lowest : (b : Bridge) (at : ℕ) → Lowest (age_conditions at) (answer_number (age_of b at).answer)
unfolding age_of
age_lowest b at = first_lowest 1 refl (first_if (λ (d : Done ⊤). answer_number d.answer) (most_tells (2 ^ 48) at) (λ _. nowhere refl))

pub drift_lowest : (b : Bridge) (port : ℕ) → Lowest (drift_conditions b port) (drift_no (drift_at b port))
unfolding drift_at drift_of
drift_lowest b port = first_lowest 1 refl (first_if drift_no (less_tells b.setup.n port) (λ _. nowhere (read (ends_of (samples_at port b.clock b.ports)))))
  where
    read : (e : Option Ends) → drift_no (drift_through_of e) ≡ 0
    read None = refl
    read (Some ends) = refl

-- ---- a port

-- the test of a link finds the port's bit set
link_fails : (links port : ℕ) → Fails (has_link links port) (bit links (port - 1) ≡ 0)
link_fails links port = record {
  is = λ e. let other = eqb-false (bit links (port - 1)) 1 e in omega (arith, other);
  not = λ e h. omega (arith, eqb-true (bit links (port - 1)) 1 e, h);
}

-- 2 and 3, and then the rest
on_port_order : (n links port at : ℕ) (rest : Result ⊤ Refusal) {cs : List Condition} → First (answer_number rest) cs
    → First (answer_number (on_port_of n links port at rest)) (port_conditions n links port at ++ cs)
on_port_order n links port at rest f =
    first_require OutOfRange _ (most_fails 1 port)
    (first_require OutOfRange _ (most_fails port n) (first_require OutOfRange _ (less_fails at (2 ^ 48)) (first_require NoLink _ (link_fails links port) f)))

-- a refusal before any record is looked at, or what the records answer
refused_order : (b : Bridge) (answer : Result ⊤ Refusal) (d : Done ⊤) (cs ds : List Condition) → ascends 1 cs ≡ true → First (answer_number answer) cs
    → First (answer_number d.answer) ds → First (answer_number (refused_or b answer d).answer) (cs ++ ds)
refused_order b (Ok done) d cs ds a f g = first_more 1 (omega arith) a f g
refused_order b (Err refusal) d cs ds a f g = first_stays ds (no_refusal refusal) f

-- ---- Own clock

-- the first of 2, 10 and 8 whose condition holds
pub own_clock_order : (b : Bridge) (count seconds fraction at : ℕ) → First (answer_number (own_clock_of b count seconds fraction at).answer) (own_clock_conditions b count seconds fraction at)
unfolding own_clock_of own_clock_refusal
own_clock_order b count seconds fraction at =
    refused_order b _ _ _ _ refl
    (first_require OutOfRange _ (less_fails seconds (2 ^ 40))
    (first_require OutOfRange _ (less_fails fraction (2 ^ 40))
    (first_require OutOfRange _ (less_fails at (2 ^ 48)) (first_require NoClock granted (record { is = λ e. e; not = λ e h. true≢false (sym e ∙ h) }) (nowhere refl)))))
    (reading_order count (record { 0 = seconds; 1 = fraction }) (record { 0 = at }) b.clock)

-- ---- Receive

-- the lowest of 2 to 9 whose condition holds
pub receive_lowest : (b : Bridge) (port : ℕ) (frame : List ℕ) (arrival : ℕ) → Lowest (receive_conditions b port frame arrival) (answer_number (receive_of b port frame arrival).answer)
unfolding receive_of receive_fields_of read_of port_refusal parted
receive_lowest b port frame arrival =
    first_lowest 1 refl
    (refused_order b _ _ (port_conditions b.setup.n b.links port arrival) _ refl (on_port_order b.setup.n b.links port arrival granted (nowhere refl))
    (read (read_refusal frame) (read_order frame)))
  where
    i : ℕ
    i = port - 1

    at : LocalTime
    at = record { 0 = arrival }

    read : (x : Result ⊤ Refusal) → First (answer_number x) (read_conditions frame)
        → First (answer_number (read_by (chosen_of b) b i (read_as x (rows_of frame)) at).answer) (read_conditions frame ++ heard_conditions b i frame)
    read (Ok done) f = first_more 1 (omega arith) refl f (frame_order (setting_at b i) (chosen_hop (chosen_of b)) (fields_of (rows_of frame)) at (port_at b.ports i))
    read (Err refusal) f = first_stays _ (no_refusal refusal) f

-- ---- Send

-- no number of a send is below one before it, whatever the profile is
send_ascends : (b : Bridge) (port t room : ℕ) → ascends 1 (send_conditions b port t room) ≡ true
send_ascends b port t room = by b.setup.sender.profile
  where
    by : (profile : Profile)
        → ascends 1 (port_conditions b.setup.n b.links port t ++ (given 4 (room < 64) ∷ departure_conditions profile (chosen_of b) (chosen_samples b) (version_at b (port - 1)) (record { 0 = t }) b.setup.sender.back)) ≡ true
    by Full = refl
    by Listener = refl

-- the lowest of 2 to 4, and of a full bridge 10 to 13, whose condition holds
pub send_lowest : (b : Bridge) (port t room : ℕ) → Lawful b → Lowest (send_conditions b port t room) (answer_number (send_of b port t room).answer)
unfolding send_of sending_at send_refusal
send_lowest b port t room l =
    first_lowest 1 (send_ascends b port t room)
    (refused_order b _ _ (port_conditions b.setup.n b.links port t ++ (given 4 (room < 64) ∷ [])) _ refl
    (on_port_order b.setup.n b.links port t _ (first_require WrongLength granted (most_fails 64 room) (nowhere refl)))
    (same_number (told_number (sending_at (chosen_of b) b (port - 1) (record { 0 = t })))
    (departure_order (chosen_of b) (chosen_samples b) b.setup.sender (version_at b (port - 1)) (record { 0 = t }) (port_at b.ports (port - 1))
    (chosen_lawful (chosen_of b) b.clock b.ports l.clock_lawful l.ports_lawful) l.setup_lawful.back_small)))
