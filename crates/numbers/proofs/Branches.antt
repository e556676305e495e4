-- A choice by a test: what stands where the test holds, and where it does not; and what holds of both holds of the choice.
use mathlib.Core.Path.{◌≡◌, refl, sym, ap}
use mathlib.Core.Bool.{Bool, true, false, cond}

module _ {A : Type 0} where
  pub if_true : (t : Bool) (x y : A) → t ≡ true → x ≡ cond t x y
  if_true t x y e = ap (λ (b : Bool). cond b x y) (sym e)

  pub if_false : (t : Bool) (x y : A) → t ≡ false → y ≡ cond t x y
  if_false t x y e = ap (λ (b : Bool). cond b x y) (sym e)

  -- what holds of each side where its test holds, holds of the choice
  pub if_when : (P : A → Type 0) (t : Bool) {x y : A} → (t ≡ true → P x) → (t ≡ false → P y) → P (cond t x y)
  if_when P true f g = f refl
  if_when P false f g = g refl

-- what holds of two things that one test decides holds by its branches
pub if_both : {A B : Type 0} (P : A → B → Type 0) (t : Bool) {x y : A} {u v : B} → (t ≡ true → P x u) → (t ≡ false → P y v) → P (cond t x y) (cond t u v)
if_both P true f g = f refl
if_both P false f g = g refl
