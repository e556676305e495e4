-- What the theorems on kept samples speak of: the oldest and the newest of them, one alone, and how far a new one lies from the newest.
use Rattle.std.specs.Prelude.{◌≡◌, ℕ, ◌<◌}
use Rattle.samples.specs.Keep.{spread_of, how_many}
use Rattle.samples.specs.declared.Sample.{Sample}
use Rattle.samples.specs.declared.Samples.{Samples}
use Rattle.samples.specs.declared.Samples.TheVariants.{Empty, One, Two, Three}

-- the oldest of them is this one
abbrev pub OldestIs : Sample → Samples → Type 0
OldestIs old Empty = ⊥
OldestIs old (One a) = a ≡ old
OldestIs old (Two a b) = a ≡ old
OldestIs old (Three a b c) = a ≡ old

-- the newest of them is this one
abbrev pub NewestIs : Sample → Samples → Type 0
NewestIs new Empty = ⊥
NewestIs new (One a) = a ≡ new
NewestIs new (Two a b) = b ≡ new
NewestIs new (Three a b c) = c ≡ new

-- one sample is kept
abbrev pub Alone : Samples → Type 0
Alone samples = how_many samples ≡ 1

-- a new sample lies farther than n after the newest of those that are kept
abbrev pub Farther : ℕ → Samples → Sample → Type 0
Farther n Empty new = Unit {0}
Farther n (One a) new = n < spread_of a new
Farther n (Two a b) new = n < spread_of b new
Farther n (Three a b c) new = n < spread_of c new
