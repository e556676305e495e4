-- A clock's samples by its number, where only the first ports are known.
use Rattle.std.proofs.Common.{◌≡◌, ◌<◌, ◌≤◌, ℕ, zero, suc, ◌+◌, refl, sym, ap, ◌∙◌, List, [], length, take, arith}
use Rattle.std.proofs.lemmas.List.{get_or-take, length-take-le, get_or_past}
use native.Mathlib.Decide.{dec_le}
use Rattle.samples.specs.declared.Samples.TheVariants.{Empty}
use Rattle.port.specs.Record.{empty_port}
use Rattle.port.specs.declared.Port.{Port}
use Rattle.port.specs.declared.OwnClock.{OwnClock}
use Rattle.bridge.specs.Table.{port_at, samples_at}

module _ (clock : OwnClock) (ports : List Port) (i : ℕ) (h : i < length ports) where
  -- one port more is that with the next number
  pub samples_next : (number : ℕ) → i + 1 ≡ number → (port_at ports i).samples ≡ samples_at number clock (take (i + 1) ports)
  unfolding samples_at
  samples_next zero e = absurd (omega (arith, e))
  samples_next (suc k) e =
      let same : i ≡ k = omega (arith, e) in
      ap (λ (p : Port). p.samples) (sym (get_or-take (i + 1) ports i empty_port (omega arith)))
      ∙ ap (λ (n : ℕ). (port_at (take (i + 1) ports) n).samples) same

  -- and those of another number stay
  pub samples_others : (number : ℕ) → (i + 1 ≡ number → ⊥) → samples_at number clock (take i ports) ≡ samples_at number clock (take (i + 1) ports)
  unfolding samples_at
  samples_others zero other = refl
  samples_others (suc k) other = ap (λ (p : Port). p.samples) (by (dec_le i k))
    where
      by : Dec (i ≤ k) → port_at (take i ports) k ≡ port_at (take (i + 1) ports) k
      by (yes past) =
          get_or_past (take i ports) k empty_port (omega (arith, length-take-le i ports (omega arith)))
          ∙ sym (get_or_past (take (i + 1) ports) k empty_port (omega (arith, length-take-le (i + 1) ports (omega arith), other)))
      by (no before) =
          get_or-take i ports k empty_port (omega (arith, before)) ∙ sym (get_or-take (i + 1) ports k empty_port (omega (arith, before)))

-- where no port is known, there are none under a number but 0
pub samples_none : (clock : OwnClock) (number : ℕ) → (number ≡ 0 → ⊥) → Empty ≡ samples_at number clock []
unfolding samples_at
samples_none clock zero e = absurd (e refl)
samples_none clock (suc k) e = refl
