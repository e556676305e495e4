-- What an operation needs for order, grouping and repetition not to matter.
use Rattle.std.specs.Prelude.{◌≡◌}

-- a commutative, idempotent monoid over those elements that are In it, `none` its neutral one
pub record CommutativeIdempotentMonoid {A : Type 0} (In : A → Type 0) (op : A → A → A) (none : A) : Type 0 where
  pub none_in : In none
  pub op_in : (a b : A) → In a → In b → In (op a b)
  pub associative : (a b c : A) → In a → In b → In c → op (op a b) c ≡ op a (op b c)
  pub commutative : (a b : A) → In a → In b → op a b ≡ op b a
  pub idempotent : (a : A) → In a → op a a ≡ a
  pub neutral_left : (a : A) → In a → op none a ≡ a
  pub neutral_right : (a : A) → In a → op a none ≡ a
