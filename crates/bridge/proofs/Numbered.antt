-- The candidates of a state are those under the numbers 0 to 8, and in a lawful state every part of each has its bits.
use mathlib.Core.Path.{◌≡◌, sym, ap, ◌∙◌, subst}
use mathlib.Core.Bool.{Bool, true, false}
use mathlib.Core.List.Memᴰ
use mathlib.Core.List.{◌∷◌, ◌++◌, map, Memᴰ}
use mathlib.Core.Logic.{⊎_elim}
use Prim.Native.Nat.{ℕ, zero, suc, ◌+◌, ◌<◌, ◌≤◌}
use native.Mathlib.Nat.{zero-add, add-zero, suc-add}
use native.Mathlib.Omega.{arith}
use lib.Dec.{lit<}
use lib.ListN.{length, drop}
use lib.Seq.{drop-cons, drop-length}
use Rattle.std.proofs.Common.{Option, Some, None}
use Rattle.choice.specs.Choose.{candidate_of, own_candidate}
use Rattle.choice.specs.Rank.{CandidateFits}
use Rattle.choice.specs.declared.Announcement.{Announcement}
use Rattle.choice.specs.declared.Candidate.{Candidate}
use Rattle.port.specs.Record.{empty_port}
use Rattle.port.specs.Lawful.{LawfulAnnouncement}
use Rattle.bridge.specs.Table.{port_at, most_ports, candidates_from}
use Rattle.bridge.specs.State.{Lawful}
use Rattle.bridge.specs.Demands.{candidates}
use Rattle.bridge.specs.Board.{candidate_under_of, numbers_from_of, numbers_to}
use Rattle.bridge.specs.declared.Bridge.{Bridge}
use Rattle.port.proofs.PortLaws.{announced_fits}

-- ---- the numbers

-- some of them, and those that follow
pub numbers_parts : (n k r : ℕ) → numbers_from_of k (n + r) ≡ numbers_from_of k n ++ numbers_from_of (k + n) r
unfolding numbers_from_of
numbers_parts zero k r = rw (zero-add r, add-zero k)
numbers_parts (suc n) k r =
    let next : suc k + n ≡ k + suc n = omega arith in
    rw (suc-add n r) (λ i. k ∷ (numbers_parts n (suc k) r ∙ ap (λ (j : ℕ). numbers_from_of (suc k) n ++ numbers_from_of j r) next) i)

-- each is from k on, and below the end
pub numbers-from : (k n : ℕ) {x : ℕ} → Memᴰ x (numbers_from_of k n) → k ≤ x
unfolding numbers_from_of
numbers-from k zero m = absurd (Memᴰ.not-nil m)
numbers-from k (suc n) m = ⊎_elim (λ e. omega (arith, e)) (λ r. omega (arith, numbers-from (suc k) n r)) (Memᴰ.cases_cons m)

pub numbers_below : (k n : ℕ) {x : ℕ} → Memᴰ x (numbers_from_of k n) → x < k + n
unfolding numbers_from_of
numbers_below k zero m = absurd (Memᴰ.not-nil m)
numbers_below k (suc n) m = ⊎_elim (λ e. omega (arith, e)) (λ r. omega (arith, numbers_below (suc k) n r)) (Memᴰ.cases_cons m)

-- ---- the candidates are those under the numbers

from_numbers : (b : Bridge) (n k : ℕ) → k + n ≡ length b.ports → candidates_from (suc k) (drop k b.ports) ≡ map (candidate_under_of b) (numbers_from_of (suc k) n)
unfolding candidates_from candidate_under_of numbers_from_of
from_numbers b zero k e = let end : length b.ports ≡ k = omega (arith, e) in rw (← end, drop-length)
from_numbers b (suc n) k e =
    let within : k < length b.ports = omega (arith, e) in
    let rest : suc k + n ≡ length b.ports = omega (arith, e) in
    rw (drop-cons b.ports k empty_port within) (λ i. candidate_of (suc k) (port_at b.ports k).announcement ∷ from_numbers b n (suc k) rest i)

pub candidates_numbered : (b : Bridge) → length b.ports ≡ most_ports → candidates b ≡ map (candidate_under_of b) (numbers_to most_ports)
unfolding candidate_under_of
candidates_numbered b e = λ i. own_candidate b.setup.capable b.setup.own ∷ from_numbers b most_ports 0 (sym e) i

-- ---- their bits

module _ (b : Bridge) (lawful : Lawful b) where
  own_fits : (capable : Bool) → CandidateFits (own_candidate capable b.setup.own)
  unfolding own_candidate
  own_fits true = (lawful.setup_lawful.typed.own_fits, lit< tt, lit< tt)
  own_fits false = tt

  heard_fits : (number : ℕ) (x : Option Announcement) → number ≤ most_ports → LawfulAnnouncement x → CandidateFits (candidate_of number x)
  unfolding candidate_of
  heard_fits number None l h = tt
  heard_fits number (Some a) l h = announced_fits a number h (omega arith)

  -- under every number up to eight
  under_fits : (number : ℕ) → number ≤ most_ports → CandidateFits (candidate_under_of b number)
  unfolding candidate_under_of
  under_fits zero l = own_fits b.setup.capable
  under_fits (suc i) l = heard_fits (suc i) (port_at b.ports i).announcement l (lawful.ports_lawful i).announcement

  pub numbered_fits : (number : ℕ) → Memᴰ number (numbers_to most_ports) → CandidateFits (candidate_under_of b number)
  unfolding numbers_from_of
  numbered_fits number m = under_fits number (omega (arith, numbers_below 0 (suc most_ports) m))

  pub candidates_fit : (x : Option Candidate) → Memᴰ x (candidates b) → CandidateFits x
  candidates_fit x m =
      let (number, n, e) = Memᴰ.of_map (candidate_under_of b) (numbers_to most_ports) (subst (Memᴰ x) (candidates_numbered b lawful.records) m) in
      subst CandidateFits e (numbered_fits number n)
