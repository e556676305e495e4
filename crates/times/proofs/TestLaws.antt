-- What tests in a row tell, and what refutes a test.
use Rattle.std.proofs.Common.{◌≡◌, Bool, true, false, ◌&&◌, refl}
use mathlib.Core.Bool.{false≢true}

-- tests in a row that hold
pub both_hold : (x y : Bool) → x && y ≡ true → (x ≡ true) × (y ≡ true)
both_hold true true e = (refl, refl)
both_hold true false e = absurd (false≢true e)
both_hold false y e = absurd (false≢true e)

pub three_hold : (x y z : Bool) → x && y && z ≡ true → (x ≡ true) × (y ≡ true) × (z ≡ true)
three_hold x y z e =
    let k = both_hold (x && y) z e in
    let l = both_hold x y k.0 in
    (l.0, l.1, k.1)

-- a test that cannot hold
pub refuted : (t : Bool) → (t ≡ true → ⊥) → t ≡ false
refuted true f = absurd (f refl)
refuted false f = refl
