-- Step 4, which samples are kept, and the two of them that a line is read off.
use Rattle.std.specs.Prelude.{Bool, cond, ◌&&◌, ℕ, ◌^◌, ◌<◌, Option, Some, None, ℤ, pos, ◌-ℤ◌}
use Rattle.times.specs.Times.{circle, since_of, units, InRange}
use Rattle.samples.specs.Rate.{Limits, limits_hold, gain_of, rate_of}
use Rattle.samples.specs.declared.Sample.{Sample}
use Rattle.samples.specs.declared.Samples.{Samples}
use Rattle.samples.specs.declared.Samples.TheVariants.{Empty, One, Two, Three}
use Rattle.samples.specs.declared.Ends.{Ends}

-- from a sample a to a later one b: S, the spread of local time; the spread of grand time over all 80 bits; d, what grand time gained
abbrev pub spread_of : Sample → Sample → ℕ
spread_of a b = since_of b.local a.local

abbrev pub rise_of : Sample → Sample → ℤ
rise_of a b = pos (units b.grand) -ℤ pos (units a.grand)

abbrev pub gained_of : Sample → Sample → ℤ
gained_of a b = rise_of a b -ℤ pos (spread_of a b)

-- the gain between two samples, where the limits hold
abbrev pub gain_between : Sample → Sample → Option ℤ
gain_between a b = gain_of (rise_of a b) (spread_of a b)

-- the rate of a clock from one sample to a later one
abbrev pub rate_between : Sample → Sample → ℤ
rate_between a b = rate_of (gained_of a b) (spread_of a b)

-- whether the limits hold from one sample to a later one
abbrev pub limits_between : Sample → Sample → Bool
limits_between a b = limits_hold (gained_of a b) (spread_of a b)

-- a new sample beside the newest one where the limits hold from that to it, and alone otherwise
abbrev pub beside_one : Sample → Sample → Samples
beside_one a new = cond (limits_between a new) (Two a new) (One new)

-- and where three would then stand, only if the limits hold from the oldest that stays as well
abbrev pub beside_two : Sample → Sample → Sample → Samples
beside_two a b new = cond (limits_between b new && limits_between a new) (Three a b new) (One new)

-- a new sample beside up to the newest two of those that were kept
abbrev pub beside_of : Samples → Sample → Samples
beside_of Empty new = One new
beside_of (One a) new = beside_one a new
beside_of (Two a b) new = beside_two a b new
beside_of (Three z a b) new = beside_two a b new

-- what is kept with a new sample, which is of the same clock or not
unfoldable pub kept_of : Samples → Bool → Sample → Samples
kept_of old same new = cond same (beside_of old new) (One new)

-- how many samples there are
abbrev pub how_many : Samples → ℕ
how_many Empty = 0
how_many (One a) = 1
how_many (Two a b) = 2
how_many (Three a b c) = 3

-- too few samples to read a line off, or the oldest and the newest that are kept
unfoldable pub ends_of : Samples → Option Ends
ends_of Empty = None
ends_of (One a) = None
ends_of (Two a b) = Some (record { oldest = a; newest = b })
ends_of (Three a b c) = Some (record { oldest = a; newest = c })

-- a sample's numbers: a grand time of 40 bits and 40 bits, a local time of 48, an errorTime of 32
pub record LawfulSample (a : Sample) : Type 0 where
  pub grand : InRange a.grand
  pub local : a.local.0 < circle
  pub error : a.error.0 < 2 ^ 32

-- two samples that a line is read off: the limits hold between them
pub record LawfulEnds (a b : Sample) : Type 0 where
  pub oldest : LawfulSample a
  pub newest : LawfulSample b
  pub limits : Limits (gained_of a b) (spread_of a b)

-- samples that step 4 keeps: the limits hold between any two of them
pub record LawfulThree (a b c : Sample) : Type 0 where
  pub older : LawfulEnds a b
  pub newer : LawfulEnds b c
  pub ends : LawfulEnds a c

abbrev pub LawfulSamples : Samples → Type 0
LawfulSamples Empty = Unit {0}
LawfulSamples (One a) = LawfulSample a
LawfulSamples (Two a b) = LawfulEnds a b
LawfulSamples (Three a b c) = LawfulThree a b c
