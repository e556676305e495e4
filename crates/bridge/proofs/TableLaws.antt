-- Laws of the table: the number of the choice, a port whose link changes, whose samples a number means, and a test of the first ports' settings or versions.
use mathlib.Core.Path.{◌≡◌, refl, sym, ap, ◌∙◌}
use mathlib.Core.Bool.{Bool, true, false, ◌&&◌}
use mathlib.Core.List.{List, [], ◌∷◌}
use Prim.Native.Nat.{ℕ, zero, suc, ◌+◌, ◌-◌, ◌/◌, ◌^◌, ◌<◌, ◌≤◌}
use native.Mathlib.Nat.{zero-add, lt_of_lt_of_le}
use native.Mathlib.Numerals.{add-one, sub-one}
use native.Mathlib.Omega.{arith}
use lib.Dec.{eqb, ltb}
use lib.ListN.{length, get_or, take, drop}
use lib.Pow.{pow_mono, shr_lt}
use lib.Seq.{drop-cons, drop-length, get_or-take, length-take-le}
use Rattle.std.proofs.Common.{Option, Some, None}
use Rattle.samples.specs.Keep.{LawfulSamples}
use Rattle.choice.specs.Choose.{rank_of, candidate_of, better_of, best_of, number_of}
use Rattle.choice.specs.declared.Announcement.{Announcement}
use Rattle.choice.specs.declared.Candidate.{Candidate}
use Rattle.port.specs.Record.{empty_port}
use Rattle.port.specs.Lawful.{LawfulPort, LawfulClock}
use Rattle.port.specs.declared.Port.{Port}
use Rattle.port.specs.declared.OwnClock.{OwnClock}
use Rattle.bridge.specs.Arguments.{bit}
use Rattle.bridge.specs.Table.{port_at, loses_link, relinked_port, samples_at, samples_of_choice, candidates_from}
use Rattle.bridge.specs.Fits.{all}
use Rattle.numbers.proofs.Branches.{if_true, if_false, if_when}
use Rattle.times.proofs.TestLaws.{both_hold}

-- ---- the choice

-- the number of the choice is that of a candidate
pub best_number : (k : ℕ) (ports : List Port) (choice : Option Candidate) → number_of choice ≤ k + length ports → number_of (best_of choice (candidates_from (suc k) ports)) ≤ k + length ports
unfolding best_of candidates_from candidate_of better_of
best_number k [] choice h = h
best_number k (p ∷ ports) choice h =
    let l : number_of (better_of choice (candidate_of (suc k) p.announcement)) ≤ suc k + length ports =
    better_number choice (candidate_of (suc k) p.announcement) (omega arith) (candidate_number p.announcement) in
    omega (arith, best_number (suc k) ports (better_of choice (candidate_of (suc k) p.announcement)) l)
  where
    candidate_number : (h : Option Announcement) → number_of (candidate_of (suc k) h) ≤ suc k + length ports
    candidate_number None = omega arith
    candidate_number (Some a) = omega arith

    better_number : (a b : Option Candidate) {m : ℕ} → number_of a ≤ m → number_of b ≤ m → number_of (better_of a b) ≤ m
    better_number None b x y = y
    better_number (Some c) None x y = x
    better_number (Some c) (Some d) {m} x y =
        if_when (λ (e : Option Candidate). number_of e ≤ m) (ltb (rank_of d.precedence d.hop d.number) (rank_of c.precedence c.hop c.number)) (λ _. y) (λ _. x)

-- ---- a port whose link changes, or not

-- links below 2^n have no bit from n on
pub link_beyond : (n links i : ℕ) → links < 2 ^ n → n ≤ i → bit links i ≡ 0
link_beyond n links i l h =
    let below : links < 2 ^ (0 + i) = rw (zero-add i) (lt_of_lt_of_le l (pow_mono h)) in
    let none : links / 2 ^ i < 1 = shr_lt 0 i below in
    omega arith

module _ (links mask i : ℕ) (port : Port) where
  pub relinked_lost : loses_link links mask i ≡ true → empty_port ≡ relinked_port links mask i port
  unfolding relinked_port
  relinked_lost e = if_true _ empty_port port e

  pub relinked_kept : loses_link links mask i ≡ false → port ≡ relinked_port links mask i port
  unfolding relinked_port
  relinked_kept e = if_false _ empty_port port e

  -- a port beyond the links has no link to lose
  pub relinked_beyond : (n : ℕ) → links < 2 ^ n → n ≤ i → port ≡ relinked_port links mask i port
  relinked_beyond n l h = relinked_kept (ap (λ (b : ℕ). eqb b 1 && eqb (bit mask i) 0) (link_beyond n links i l h))

-- ---- whose samples

pub samples_own : (number : ℕ) (clock : OwnClock) (ports : List Port) → number ≡ 0 → clock.samples ≡ samples_at number clock ports
unfolding samples_at
samples_own number clock ports e = ap (λ (n : ℕ). samples_at n clock ports) (sym e)

pub samples_port : (number : ℕ) (clock : OwnClock) (ports : List Port) → (number ≡ 0 → ⊥) → (port_at ports (number - 1)).samples ≡ samples_at number clock ports
unfolding samples_at
samples_port zero clock ports n = absurd (n refl)
samples_port (suc i) clock ports n = ap (λ (k : ℕ). (port_at ports k).samples) (sub-one (suc i))

-- every clock's samples are lawful
pub samples_lawful : (number : ℕ) (clock : OwnClock) (ports : List Port) → LawfulClock clock → ((i : ℕ) → LawfulPort (port_at ports i)) → LawfulSamples (samples_at number clock ports)
unfolding samples_at
samples_lawful zero clock ports c p = c.samples
samples_lawful (suc i) clock ports c p = (p i).samples

pub chosen_lawful : (choice : Option Candidate) (clock : OwnClock) (ports : List Port) → LawfulClock clock → ((i : ℕ) → LawfulPort (port_at ports i)) → LawfulSamples (samples_of_choice choice clock ports)
unfolding samples_of_choice
chosen_lawful None clock ports c p = tt
chosen_lawful (Some chosen) clock ports c p = samples_lawful chosen.number clock ports c p

-- ---- a test of the first n elements

module _ {A : Type 0} (test : A → Bool) (l : List A) (n : ℕ) (room : n ≤ length l) where
  abbrev first : List A
  first = take n l

  next_element : (i : ℕ) (d : A) → i < n → drop i first ≡ get_or l i d ∷ drop (i + 1) first
  next_element i d h =
      let k : i < length first = rw (length-take-le n l room) h in
      rw (add-one, drop-cons first i d, get_or-take) refl

  pub all_turn : (i : ℕ) (d : A) → i < n → test (get_or l i d) ≡ true → all test (drop (i + 1) first) ≡ all test (drop i first)
  unfolding all
  all_turn i d h e = ap (λ (b : Bool). b && all test (drop (i + 1) first)) (sym e) ∙ ap (all test) (sym (next_element i d h))

  pub all_stop : (i : ℕ) (d : A) → i < n → test (get_or l i d) ≡ false → false ≡ all test (drop i first)
  unfolding all
  all_stop i d h e = ap (λ (b : Bool). b && all test (drop (i + 1) first)) (sym e) ∙ ap (all test) (sym (next_element i d h))

  pub all_end : (i : ℕ) → i ≡ n → true ≡ all test (drop i first)
  unfolding all
  all_end i e =
      let k : length first ≡ i = length-take-le n l room ∙ sym e in
      rw (← k, drop-length)

-- where one of two tests fails of the elements at an index, they do not both hold of all
pub both_stop : {A B : Type 0} (f : A → Bool) (g : B → Bool) (l : List A) (m : List B) (n : ℕ) → n ≤ length l → n ≤ length m
    → (i : ℕ) (d : A) (e : B) → i < n → f (get_or l i d) && g (get_or m i e) ≡ false → false ≡ all f (drop i (take n l)) && all g (drop i (take n m))
both_stop f g l m n room more i d e h fails = by (f (get_or l i d)) refl fails
  where
    right_fails : (x : Bool) {y : Bool} → false ≡ y → false ≡ x && y
    right_fails true q = q
    right_fails false q = refl

    by : (x : Bool) → f (get_or l i d) ≡ x → x && g (get_or m i e) ≡ false → false ≡ all f (drop i (take n l)) && all g (drop i (take n m))
    by true p q = right_fails (all f (drop i (take n l))) (all_stop g m n more i e h q)
    by false p q = ap (λ (x : Bool). x && all g (drop i (take n m))) (all_stop f l n room i d h p)

-- where it holds of all of them, it holds of each
pub all_each : {A : Type 0} (test : A → Bool) (l : List A) (n i : ℕ) (d : A) → n ≤ length l → all test (take n l) ≡ true → i < n → test (get_or l i d) ≡ true
unfolding all
all_each test l zero i d room fit h = absurd (omega arith)
all_each test [] (suc n) i d room fit h = absurd (omega arith)
all_each test (a ∷ l) (suc n) zero d room fit h = (both_hold (test a) _ fit).0
all_each test (a ∷ l) (suc n) (suc i) d room fit h = all_each test l n i d (omega arith) (both_hold (test a) _ fit).1 (omega arith)
