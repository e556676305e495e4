-- What is promised of one answer is promised of its equal.
use mathlib.Core.Path.{◌≡◌, subst}
use mathlib.Core.List.{List}
use Prim.Native.Nat.{ℕ}
use Rattle.answer.specs.Answer.{Answer, Says}
use Rattle.answer.specs.declared.Answered.{Answered}

pub as_says : {want other : Answer} {got : Answered} {was left : List ℕ} → want ≡ other → Says want got was left → Says other got was left
as_says {got = got} {was = was} {left = left} e s = subst (λ (w : Answer). Says w got was left) e s
