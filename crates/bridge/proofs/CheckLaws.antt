-- Laws of the refusals before any record is looked at: what is known where there is none, and what holds of a call that they may stop.
use mathlib.Core.Path.{◌≡◌, refl, ap, ◌∙◌}
use mathlib.Core.Bool.{Bool, true, false}
use mathlib.Core.Logic.{◌≢◌}
use Prim.Native.Nat.{ℕ, ◌*◌, ◌%◌, ◌^◌, ◌<◌, ◌≤◌}
use native.Mathlib.Nat.{one-mul, mod-eq_of_lt, lt_of_le_of_lt}
use native.Mathlib.Omega.{arith}
use borrow.Author.Tests.{leb-true, ltb-true, le-ltb}
use lib.Dec.{lit<, leb, ltb}
use lib.Pow.{pow_mono}
use Rattle.std.specs.Prelude.{⊤}
use Rattle.std.proofs.Common.{Result, Ok, Err}
use Rattle.refusals.specs.Refusals.{number_of}
use Rattle.refusals.specs.Answer.{answer_number, granted, require, and_then, told}
use Rattle.refusals.specs.declared.Refusal.{Refusal}
use Rattle.refusals.specs.declared.Refusal.TheVariants.{BadSetup, OutOfRange, NoLink, WrongLength, NoClock}
use Rattle.times.specs.Times.{circle, second}
use Rattle.frame.specs.Frame.{frame_length}
use Rattle.bridge.specs.Arguments.{has_link, on_port_of, port_refusal, send_refusal, own_clock_refusal}
use Rattle.bridge.specs.State.{by_refusal}
use Rattle.frame.proofs.FrameLaws.{require_none, require_is}

-- ---- a call that a refusal may stop

-- no refusal has the number 0
pub no_refusal : (refusal : Refusal) → number_of refusal ≢ 0
no_refusal BadSetup e = omega (arith, e)
no_refusal _ e = omega (arith, e)

pub number_granted : {answer : Result ⊤ Refusal} → answer_number answer ≡ 0 → answer ≡ granted
number_granted {answer} e = by answer e
  where
    by : (r : Result ⊤ Refusal) → answer_number r ≡ 0 → r ≡ granted
    by (Ok done) e = refl
    by (Err refusal) e = absurd (no_refusal refusal e)

-- an answer without what it carries has the same number
pub told_number : {A : Type 0} (answer : Result A Refusal) → answer_number answer ≡ answer_number (told answer)
told_number (Ok value) = refl
told_number (Err refusal) = refl

-- what holds of what follows where there is no refusal, and of what is left where there is one, holds of the call
pub granted_when : {A : Type 0} (P : A → Type 0) (answer : Result ⊤ Refusal) {x y : A} → (answer ≡ granted → P x) → ((refusal : Refusal) → answer ≡ Err refusal → P y)
    → P (by_refusal answer x y)
granted_when P (Ok done) f g = f refl
granted_when P (Err refusal) f g = g refusal refl

-- the same of two things that one refusal decides
pub granted_both : {A B : Type 0} (P : A → B → Type 0) (answer : Result ⊤ Refusal) {x y : A} {u v : B} → (answer ≡ granted → P x u)
    → ((refusal : Refusal) → answer ≡ Err refusal → P y v) → P (by_refusal answer x y) (by_refusal answer u v)
granted_both P (Ok done) f g = f refl
granted_both P (Err refusal) f g = g refusal refl

-- ---- a port with a link, at a local time in range

pub record Ready (n port at : ℕ) : Type 0 where
  pub low : 1 ≤ port
  pub high : port ≤ n
  pub time : at < circle

on-port : (n links port at : ℕ) (rest : Result ⊤ Refusal) → on_port_of n links port at rest ≡ granted → Ready n port at × (rest ≡ granted)
on-port n links port at rest e =
    let a = require_none (leb 1 port) OutOfRange _ e in
    let b = require_none (leb port n) OutOfRange _ a.1 in
    let c = require_none (ltb at circle) OutOfRange _ b.1 in
    let d = require_none (has_link links port) NoLink _ c.1 in
    (record { low = leb-true _ _ a.0; high = leb-true _ _ b.0; time = ltb-true _ _ c.0 }, d.1)

pub port_ready : (n links port at : ℕ) → port_refusal n links port at ≡ granted → Ready n port at
unfolding port_refusal
port_ready n links port at e = (on-port n links port at granted e).0

pub send_ready : (n links port t room : ℕ) → send_refusal n links port t room ≡ granted → Ready n port t × (frame_length ≤ room)
unfolding send_refusal
send_ready n links port t room e =
    let r = on-port n links port t _ e in
    (r.0, leb-true _ _ (require_none (leb frame_length room) WrongLength granted r.1).0)

-- what holds of each refusal and of the rest holds of the answer
on_port_is : (P : Result ⊤ Refusal → Type 0) (n links port at : ℕ) (rest : Result ⊤ Refusal) → P (Err OutOfRange) → P (Err NoLink) → P rest → P (on_port_of n links port at rest)
on_port_is P n links port at rest p q r =
    require_is P (leb 1 port) p (require_is P (leb port n) p (require_is P (ltb at circle) p (require_is P (has_link links port) q r)))

pub port_is : (P : Result ⊤ Refusal → Type 0) (n links port at : ℕ) → P (Err OutOfRange) → P (Err NoLink) → P granted → P (port_refusal n links port at)
unfolding port_refusal
port_is P n links port at p q z = on_port_is P n links port at granted p q z

pub send_is : (P : Result ⊤ Refusal → Type 0) (n links port t room : ℕ) → P (Err OutOfRange) → P (Err NoLink) → P (Err WrongLength) → P granted → P (send_refusal n links port t room)
unfolding send_refusal
send_is P n links port t room p q r z = on_port_is P n links port t _ p q (require_is P (leb frame_length room) r z)

-- a send is refused as any call on the port is, and then by the room
pub send_then : (n links port t room : ℕ) → and_then (port_refusal n links port t) (require (leb frame_length room) WrongLength granted) ≡ send_refusal n links port t room
unfolding port_refusal send_refusal
send_then n links port t room = by (leb 1 port) (leb port n) (ltb t circle) (has_link links port)
  where
    rest : Result ⊤ Refusal
    rest = require (leb frame_length room) WrongLength granted

    tests : Bool → Bool → Bool → Bool → Result ⊤ Refusal → Result ⊤ Refusal
    tests a b c d after = require a OutOfRange (require b OutOfRange (require c OutOfRange (require d NoLink after)))

    by : (a b c d : Bool) → and_then (tests a b c d granted) rest ≡ tests a b c d rest
    by true true true true = refl
    by false b c d = refl
    by true false c d = refl
    by true true false d = refl
    by true true true false = refl

pub send_by_port : (n links port t room : ℕ) (refusal : Refusal) → Err refusal ≡ port_refusal n links port t → Err refusal ≡ send_refusal n links port t room
send_by_port n links port t room refusal e = ap (λ answer. and_then answer (require (leb frame_length room) WrongLength granted)) e ∙ send_then n links port t room

pub send_by_room : (n links port t room : ℕ) → granted ≡ port_refusal n links port t → require (leb frame_length room) WrongLength granted ≡ send_refusal n links port t room
send_by_room n links port t room e = ap (λ answer. and_then answer (require (leb frame_length room) WrongLength granted)) e ∙ send_then n links port t room

-- ---- a reading of a capable station's own clock, in range

pub record InTime (seconds fraction at : ℕ) : Type 0 where
  pub whole : seconds < second
  pub part : fraction < second
  pub time : at < circle

-- a time out of range is 2 before it is looked at whether the station is capable
pub own_range : (capable : Bool) (seconds fraction at : ℕ) → second ≤ seconds → own_clock_refusal capable seconds fraction at ≡ Err OutOfRange
unfolding own_clock_refusal
own_range capable seconds fraction at h = rw (le-ltb seconds second h)

pub own_ready : (capable : Bool) (seconds fraction at : ℕ) → own_clock_refusal capable seconds fraction at ≡ granted → InTime seconds fraction at
unfolding own_clock_refusal
own_ready capable seconds fraction at e =
    let a = require_none (ltb seconds second) OutOfRange _ e in
    let b = require_none (ltb fraction second) OutOfRange _ a.1 in
    let c = require_none (ltb at circle) OutOfRange _ b.1 in
    record { whole = ltb-true _ _ a.0; part = ltb-true _ _ b.0; time = ltb-true _ _ c.0 }

pub own_is : (P : Result ⊤ Refusal → Type 0) (capable : Bool) (seconds fraction at : ℕ) → P (Err OutOfRange) → P (Err NoClock) → P granted → P (own_clock_refusal capable seconds fraction at)
unfolding own_clock_refusal
own_is P capable seconds fraction at p q z = require_is P (ltb seconds second) p (require_is P (ltb fraction second) p (require_is P (ltb at circle) p (require_is P capable q z)))

-- ---- the bound of a mask, as the machine shifts it

pub shift_one : (n : ℕ) → n ≤ 8 → (1 * 2 ^ n) % 2 ^ 32 ≡ 2 ^ n
shift_one n h = ap (λ (k : ℕ). k % 2 ^ 32) (one-mul (2 ^ n)) ∙ mod-eq_of_lt (lt_of_le_of_lt (pow_mono h) (lit< tt))
