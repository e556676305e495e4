-- Refusals: how a chain of tests answers, what holds where it answers 0, and what the answers of calls say of the definitions.
use mathlib.Core.Path.{◌≡◌, refl, sym, ap, ◌∙◌}
use mathlib.Core.Bool.{Bool, true, false, cond, ◌||◌, true≢false, false≢true}
use mathlib.Core.List.{List}
use mathlib.Core.Logic.{◌⊎◌, inl, inr, ⊎_elim}
use Prim.Native.Nat.{ℕ, suc, ◌<◌, ◌≤◌}
use native.Mathlib.Omega.{arith}
use lib.Dec.{ltb, leb, eqb}
use lib.ListN.{length, drop, get_or}
use borrow.Author.Tests.{eq-eqb, ne_eqb, eqb-true, eqb-false, ltb-true, leb-true, lt-ltb, le-leb}
use Rattle.std.proofs.Common.{Option, Some, None, Result, Ok, Err}
use Rattle.std.specs.Bool.{⊤}
use Rattle.refusals.specs.Chain.{unless, carried}
use Rattle.refusals.specs.Refusals.{number_of}
use Rattle.refusals.specs.Answer.{answer_number, answer_value, granted, require}
use Rattle.refusals.specs.declared.Refusal.{Refusal}
use Rattle.refusals.specs.declared.Refusal.TheVariants.{OutOfRange, WrongLength, WrongConstant, WrongVersion}
use Rattle.numbers.specs.Table.{parted}
use Rattle.choice.specs.Hop.{last_hop}
use Rattle.times.specs.Times.{second, circle}
use Rattle.choice.specs.Precedence.{key_of}
use Rattle.frame.specs.Frame.{frame_length, station_address, local_experimental, time_sync, first_version, second_version, is_version, fields_of}
use Rattle.frame.specs.Read.{rows_of, constants_refusal, read_refusal, read_as, read_of}
use Rattle.frame.specs.Values.{bytes_refusal, fields_at}
use Rattle.frame.specs.Write.{write_refusal, bytes_of, written_as, written_of}
use Rattle.frame.specs.Better.{standing_by, standing_of, winner_of}
use Rattle.frame.specs.Promises.{ReadPromise}
use Rattle.frame.specs.declared.Fields.{Fields}
use Rattle.frame.specs.declared.Standing.{Standing}
use Rattle.frame.specs.declared.Winner.TheVariants.{First, Second}

-- ---- a chain of tests that gives a number

-- where no refusal is given, the test held and the rest gave none
pub none : (b : Bool) (k n : ℕ) → unless b (suc k) n ≡ 0 → (b ≡ true) × (n ≡ 0)
none true k n e = (refl, e)
none false k n e = absurd (omega arith)

-- ---- a chain of tests that gives an answer

-- a test that holds leaves the answer to the rest
pub require_past : {A : Type 0} (b : Bool) (k : Refusal) {x y : Result A Refusal} → b ≡ true → x ≡ y → x ≡ require b k y
require_past true k h e = e
require_past false k h e = absurd (false≢true h)

-- a test that fails refuses
pub require_stopped : {A : Type 0} (b : Bool) (k : Refusal) (rest : Result A Refusal) → b ≡ false → Err k ≡ require b k rest
require_stopped true k rest h = absurd (true≢false h)
require_stopped false k rest h = refl

-- where a value is given, the test held and the rest gave it
pub require_none : {A : Type 0} (b : Bool) (k : Refusal) (rest : Result A Refusal) {v : A} → require b k rest ≡ Ok v → (b ≡ true) × (rest ≡ Ok v)
require_none true k rest e = (refl, e)
require_none false k rest e = cc

-- what holds of a refusal and of what is answered else holds either way
pub require_is : {A : Type 0} (P : Result A Refusal → Type 0) (t : Bool) {k : Refusal} {rest : Result A Refusal} → P (Err k) → P rest → P (require t k rest)
require_is P true p q = q
require_is P false p q = p

-- the number of such a chain, by that of its rest
pub require_as : {A : Type 0} (t : Bool) (k : Refusal) (rest : Result A Refusal) {n : ℕ} → answer_number rest ≡ n → answer_number (require t k rest) ≡ unless t (number_of k) n
require_as true k rest e = e
require_as false k rest e = refl

-- ---- the version

-- it is the first or the second
pub version_cases : (version : ℕ) → is_version version ≡ true → (version ≡ first_version) ⊎ (version ≡ second_version)
version_cases version e = by (eqb version first_version) refl (eqb version second_version) refl e
  where
    by : (x : Bool) → eqb version first_version ≡ x → (y : Bool) → eqb version second_version ≡ y → (x || y) ≡ true → (version ≡ first_version) ⊎ (version ≡ second_version)
    by true p y q e = inl (eqb-true version first_version p)
    by false p true q e = inr (eqb-true version second_version q)
    by false p false q e = absurd (false≢true e)

-- so there is none beyond a byte
pub version_small : (version : ℕ) → is_version version ≡ true → version < 256
version_small version e = ⊎_elim (λ p. omega (arith, p)) (λ p. omega (arith, p)) (version_cases version e)

-- ---- read

-- what an accepted frame meets
pub record Accepted (s : List ℕ) : Type 0 where
  pub sized : length s ≡ frame_length
  pub da : get_or (rows_of s) 0 0 ≡ station_address
  pub protocol_type : get_or (rows_of s) 7 0 ≡ local_experimental
  pub function : get_or (rows_of s) 8 0 ≡ time_sync
  pub byte31 : get_or (rows_of s) 17 0 ≡ 0
  pub version : is_version (get_or (rows_of s) 9 0) ≡ true

pub accepted : (s : List ℕ) → read_refusal s ≡ granted → Accepted s
unfolding read_refusal
accepted s e =
    let vs = rows_of s in
    let a = require_none (eqb (length s) frame_length) WrongLength _ e in
    let b = require_none (eqb (get_or vs 0 0) station_address) WrongConstant _ a.1 in
    let c = require_none (eqb (get_or vs 7 0) local_experimental) WrongConstant _ b.1 in
    let d = require_none (eqb (get_or vs 8 0) time_sync) WrongConstant _ c.1 in
    let f = require_none (eqb (get_or vs 17 0) 0) WrongConstant _ d.1 in
    let g = require_none (is_version (get_or vs 9 0)) WrongVersion _ f.1 in
    record {
      sized = eqb-true _ _ a.0;
      da = eqb-true _ _ b.0;
      protocol_type = eqb-true _ _ c.0;
      function = eqb-true _ _ d.0;
      byte31 = eqb-true _ _ f.0;
      version = g.0;
    }

-- the refusals of a wrong length, and of the rows of a right one
pub short : (s : List ℕ) → (length s ≡ frame_length → ⊥) → Err WrongLength ≡ read_refusal s
unfolding read_refusal
short s h = require_stopped _ WrongLength _ (ne_eqb _ _ h)

pub by_rows : (s vs : List ℕ) → length s ≡ frame_length → vs ≡ rows_of s → constants_refusal vs ≡ read_refusal s
unfolding read_refusal
by_rows s vs l e = require_past _ WrongLength (eq-eqb _ _ l) (ap constants_refusal e)

-- what a refusal makes of a frame, and what is made of one that is not refused
pub refused : (k : Refusal) (s : List ℕ) → Err k ≡ read_refusal s → Err k ≡ read_of s
unfolding read_of
refused k s e = ap (λ r. read_as r (rows_of s)) e

pub framed : (s : List ℕ) → granted ≡ read_refusal s → Ok (fields_of (rows_of s)) ≡ read_of s
unfolding read_of
framed s e = ap (λ r. read_as r (rows_of s)) e

-- each row stands at its bytes: the constants that are tested, and the fields
pub refusal_at : (s : List ℕ) → answer_number (read_refusal s) ≡ bytes_refusal s
unfolding read_refusal parted
refusal_at s =
    let vs = rows_of s in
    require_as (eqb (length s) frame_length) WrongLength _
    (require_as (eqb (get_or vs 0 0) station_address) WrongConstant _
    (require_as (eqb (get_or vs 7 0) local_experimental) WrongConstant _
    (require_as (eqb (get_or vs 8 0) time_sync) WrongConstant _
    (require_as (eqb (get_or vs 17 0) 0) WrongConstant _ (require_as (is_version (get_or vs 9 0)) WrongVersion granted refl)))))

pub fields-at : (s : List ℕ) → fields_of (rows_of s) ≡ fields_at s
unfolding parted
fields-at s = refl

-- what holds of these three refusals and of none holds of the answer to a frame
pub read_is : (P : Result ⊤ Refusal → Type 0) (s : List ℕ) → P (Err WrongLength) → P (Err WrongConstant) → P (Err WrongVersion) → P granted → P (read_refusal s)
unfolding read_refusal
read_is P s p q r z =
    let vs = rows_of s in
    require_is P (eqb (length s) frame_length) p
    (require_is P (eqb (get_or vs 0 0) station_address) q
    (require_is P (eqb (get_or vs 7 0) local_experimental) q
    (require_is P (eqb (get_or vs 8 0) time_sync) q (require_is P (eqb (get_or vs 17 0) 0) q (require_is P (is_version (get_or vs 9 0)) r z)))))

-- the number of what is read, and the fields that it carries
pub read_number : (s : List ℕ) (r : Result Fields Refusal) → r ≡ read_of s → answer_number r ≡ answer_number (read_refusal s)
unfolding read_of
read_number s r e = ap answer_number e ∙ by (read_refusal s)
  where
    by : (x : Result ⊤ Refusal) → answer_number (read_as x (rows_of s)) ≡ answer_number x
    by (Ok _) = refl
    by (Err k) = refl

pub read-fields : (s : List ℕ) (r : Result Fields Refusal) → r ≡ read_of s → answer_value r ≡ carried (answer_number (read_refusal s)) (fields_of (rows_of s))
unfolding read_of
read-fields s r e =
    let vs = rows_of s in
    ap answer_value e ∙ read_is (λ x. answer_value (read_as x vs) ≡ carried (answer_number x) (fields_of vs)) s refl refl refl refl

-- what is read is as wanted, and so are both
pub promised : (s : List ℕ) (r : Result Fields Refusal) → r ≡ read_of s → ReadPromise s r
promised s r e = record {
  answer = e;
  number = read_number s r e ∙ refusal_at s;
  value = read-fields s r e ∙ (λ i. carried (refusal_at s i) (fields-at s i));
}

-- what a frame that is read was
pub reading : (s : List ℕ) (f : Fields) → read_of s ≡ Ok f → (read_refusal s ≡ granted) × (fields_of (rows_of s) ≡ f)
unfolding read_of
reading s f e = by (read_refusal s) e where
  by : (x : Result ⊤ Refusal) → read_as x (rows_of s) ≡ Ok f → (x ≡ granted) × (fields_of (rows_of s) ≡ f)
  by (Ok _) q = (refl, (cc))
  by (Err k) q = cc

-- ---- write

-- what fields that are written into n bytes meet
pub record Written (f : Fields) (n : ℕ) : Type 0 where
  pub seconds : f.grand.0 < second
  pub fraction : f.grand.1 < second
  pub local : f.local.0 < circle
  pub tx : f.tx.0 < circle
  pub rx : f.rx.0 < circle
  pub room : frame_length ≤ n
  pub version : is_version f.version ≡ true

pub in_range : (f : Fields) (n : ℕ) → write_refusal f n ≡ granted → Written f n
unfolding write_refusal
in_range f n e =
    let a = require_none (ltb f.grand.0 second) OutOfRange _ e in
    let b = require_none (ltb f.grand.1 second) OutOfRange _ a.1 in
    let c = require_none (ltb f.local.0 circle) OutOfRange _ b.1 in
    let d = require_none (ltb f.tx.0 circle) OutOfRange _ c.1 in
    let g = require_none (ltb f.rx.0 circle) OutOfRange _ d.1 in
    let h = require_none (leb frame_length n) WrongLength _ g.1 in
    let v = require_none (is_version f.version) WrongVersion _ h.1 in
    record {
      seconds = ltb-true _ _ a.0;
      fraction = ltb-true _ _ b.0;
      local = ltb-true _ _ c.0;
      tx = ltb-true _ _ d.0;
      rx = ltb-true _ _ g.0;
      room = leb-true _ _ h.0;
      version = v.0;
    }

pub unrefused : (f : Fields) (n : ℕ) → Written f n → write_refusal f n ≡ granted
unfolding write_refusal
unrefused f n w =
    sym
    (require_past _ OutOfRange (lt-ltb _ _ w.seconds)
    (require_past _ OutOfRange (lt-ltb _ _ w.fraction)
    (require_past _ OutOfRange (lt-ltb _ _ w.local)
    (require_past _ OutOfRange (lt-ltb _ _ w.tx)
    (require_past _ OutOfRange (lt-ltb _ _ w.rx)
    (require_past _ WrongLength (le-leb _ _ w.room)
    (require_past _ WrongVersion w.version refl)))))))

-- what holds of these three refusals and of none holds of the answer to fields
pub write_is : (P : Result ⊤ Refusal → Type 0) (f : Fields) (n : ℕ) → P (Err OutOfRange) → P (Err WrongLength) → P (Err WrongVersion) → P granted → P (write_refusal f n)
unfolding write_refusal
write_is P f n p q r z =
    require_is P (ltb f.grand.0 second) p
    (require_is P (ltb f.grand.1 second) p
    (require_is P (ltb f.local.0 circle) p
    (require_is P (ltb f.tx.0 circle) p (require_is P (ltb f.rx.0 circle) p (require_is P (leb frame_length n) q (require_is P (is_version f.version) r z))))))

-- what is made of the output where nothing is refused, and where something is
pub filled : (f : Fields) (out : List ℕ) → granted ≡ write_refusal f (length out) → bytes_of f (drop frame_length out) ≡ written_of f out
unfolding written_of
filled f out e = ap (λ r. written_as r f out) e

pub untouched : (f : Fields) (k : Refusal) (out : List ℕ) → Err k ≡ write_refusal f (length out) → out ≡ written_of f out
unfolding written_of
untouched f k out e = ap (λ r. written_as r f out) e

-- ---- better

-- what is refused loses; what is read stands by its precedence and hop where its hop is not the last
pub refused_loses : (s : List ℕ) (k : Refusal) → Err k ≡ read_of s → None ≡ standing_of s
unfolding standing_of
refused_loses s k e = ap standing_by e

-- how a frame that is read stands, where it does not lose
abbrev pub stands : Fields → Option Standing
stands f = Some (record { precedence = f.precedence; hop = f.hop })

by_hop : (s : List ℕ) (f : Fields) → Ok f ≡ read_of s → {b : Bool} → b ≡ eqb f.hop last_hop → cond b None (stands f) ≡ standing_of s
unfolding standing_of
by_hop s f e q = ap (λ (t : Bool). cond t None (stands f)) q ∙ ap standing_by e

pub other_stands : (s : List ℕ) (f : Fields) → Ok f ≡ read_of s → (f.hop ≡ last_hop → ⊥) → stands f ≡ standing_of s
other_stands s f e h = by_hop s f e (sym (ne_eqb _ _ h))

-- a frame that does not lose has its 64 bytes
sized_or_loses : (s : List ℕ) → (length s ≡ frame_length) ⊎ (standing_of s ≡ None)
sized_or_loses s = by (eqb (length s) frame_length) refl where
  by : (b : Bool) → eqb (length s) frame_length ≡ b → (length s ≡ frame_length) ⊎ (standing_of s ≡ None)
  by true e = inl (eqb-true _ _ e)
  by false e = inr (sym (refused_loses s WrongLength (refused WrongLength s (short s (eqb-false _ _ e)))))

-- and so does not win
loses_first : (y : Option Standing) → First ≡ winner_of None y → ⊥
unfolding winner_of
loses_first None e = cc
loses_first (Some y) e = cc

loses_second : (x : Option Standing) → Second ≡ winner_of x None → ⊥
unfolding winner_of
loses_second None e = cc
loses_second (Some x) e = cc

pub first_sized : (s : List ℕ) (y : Option Standing) → First ≡ winner_of (standing_of s) y → length s ≡ frame_length
first_sized s y e = ⊎_elim (λ l. l) (λ l. absurd (loses_first y (e ∙ ap (λ (x : Option Standing). winner_of x y) l))) (sized_or_loses s)

pub second_sized : (s : List ℕ) (x : Option Standing) → Second ≡ winner_of x (standing_of s) → length s ≡ frame_length
second_sized s x e = ⊎_elim (λ l. l) (λ l. absurd (loses_second x (e ∙ ap (winner_of x) l))) (sized_or_loses s)

-- two that stand: the lesser key wins, the first on a tie
pub by_key : (x y : Standing) {b : Bool} → ltb (key_of y.precedence y.hop) (key_of x.precedence x.hop) ≡ b → cond b Second First ≡ winner_of (Some x) (Some y)
unfolding winner_of
by_key x y t = ap (λ (b : Bool). cond b Second First) (sym t)
