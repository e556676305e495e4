-- What a call that takes no frame leaves of a record, field by field.
use Rattle.std.specs.Prelude.{◌≡◌, ℕ, ◌+◌, ◌%◌, None}
use Rattle.times.specs.declared.LocalTime.{LocalTime}
use Rattle.samples.specs.declared.Samples.TheVariants.{Empty}
use Rattle.port.specs.declared.Preceding.TheVariants.{Was}
use Rattle.port.specs.declared.Port.{Port}
use Rattle.port.specs.declared.OwnClock.{OwnClock}

-- a frame refused with 7, 8 or 9: its frameCount and arrival are the preceding frame's, and all else is as before; heard-at is a part of the announcement
pub record Noted (count : ℕ) (at : LocalTime) (held left : Port) : Type 0 where
  pub preceding : left.preceding ≡ Was count at
  pub announcement : left.announcement ≡ held.announcement
  pub samples : left.samples ≡ held.samples
  pub pair : left.pair ≡ held.pair
  pub echo : left.echo ≡ held.echo
  pub next : left.count ≡ held.count

-- a reading of the own clock refused with 8: its frameCount and now are stored, and the samples are as before
pub record NotedClock (count : ℕ) (now : LocalTime) (held left : OwnClock) : Type 0 where
  pub preceding : left.preceding ≡ Was count now
  pub samples : left.samples ≡ held.samples

-- a send: the next frameCount is used up, and all else is as before
pub record Used (held left : Port) : Type 0 where
  pub preceding : left.preceding ≡ held.preceding
  pub announcement : left.announcement ≡ held.announcement
  pub samples : left.samples ≡ held.samples
  pub pair : left.pair ≡ held.pair
  pub echo : left.echo ≡ held.echo
  pub next : left.count ≡ (held.count + 1) % 256

-- an announcement too old: it goes, with samples and echo, and all else is as before, the pair of step 1 included
pub record Aged (held left : Port) : Type 0 where
  pub preceding : left.preceding ≡ held.preceding
  pub announcement : left.announcement ≡ None
  pub samples : left.samples ≡ Empty
  pub pair : left.pair ≡ held.pair
  pub echo : left.echo ≡ None
  pub next : left.count ≡ held.count
