-- Where no announcement is too old, the records age by staying as they are.
use Rattle.std.proofs.Common.{◌≡◌, ◌<◌, ◌≤◌, ℕ, zero, suc, Bool, true, false, ◌||◌, List, [], ◌∷◌, length, get_or, refl, subst, add-one, arith}
use Rattle.std.specs.List.{list_any}
use mathlib.Core.Bool.{true≢false}
use Rattle.port.specs.Record.{empty_port, too_old}
use Rattle.port.specs.declared.Port.{Port}
use Rattle.port.proofs.PortLaws.{aged_fresh}
use Rattle.bridge.specs.Table.{most_ports}
use Rattle.bridge.specs.State.{Lawful}
use Rattle.bridge.specs.declared.Bridge.{Bridge}
use Rattle.bridge.proofs.StateLaws.{Stored, stored_start, stored_same, ages_by}

neither : (a b : Bool) → (a || b) ≡ false → (a ≡ false) × (b ≡ false)
neither true b e = absurd (true≢false e)
neither false b e = (refl, e)

-- a test that holds of no element holds of none by its index
none_at : {A : Type 0} (test : A → Bool) (l : List A) (d : A) → list_any test l ≡ false → (i : ℕ) → i < length l → test (get_or l i d) ≡ false
none_at test [] d e i h = absurd (omega (arith, h))
none_at test (a ∷ l) d e zero h = (neither (test a) (list_any test l) e).0
none_at test (a ∷ l) d e (suc i) h = none_at test l d (neither (test a) (list_any test l) e).1 i (omega (arith, h))

module _ (b : Bridge) (at : ℕ) (lawful : Lawful b) where
  -- an announcement as old as the timeout
  abbrev pub old : Port → Bool
  old port = too_old port.announcement (record { 0 = at }) b.setup.timeout

  pub young : list_any old b.ports ≡ false → (i : ℕ) → i ≤ most_ports → Stored (ages_by b at) b i b
  young e zero h = stored_start (ages_by b at) b lawful
  young e (suc i) h =
      subst (λ (n : ℕ). Stored (ages_by b at) b n b) (add-one i)
      (stored_same (ages_by b at) b i b (young e i (omega arith)) (omega arith)
      (aged_fresh _ _ _ (none_at old b.ports empty_port e i (omega (arith, h, lawful.records)))))
