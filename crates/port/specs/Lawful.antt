-- What holds of every number in a record that a call hands back, and of the fields of a frame that was read: each is in the range that document 01
-- gives it, and samples are such as step 4 keeps.
use Rattle.std.specs.Prelude.{◌<◌, ◌≤◌, Option, Some, None}
use Rattle.times.specs.Times.{circle, counts, InRange}
use Rattle.samples.specs.Keep.{LawfulSamples}
use Rattle.samples.specs.declared.Pair.{Pair}
use Rattle.choice.specs.Hop.{last_hop}
use Rattle.choice.specs.Rank.{PrecedenceFits}
use Rattle.choice.specs.declared.Announcement.{Announcement}
use Rattle.frame.specs.Demands.{Typed}
use Rattle.frame.specs.declared.Mac.{Mac}
use Rattle.frame.specs.declared.Fields.{Fields}
use Rattle.port.specs.declared.Preceding.{Preceding}
use Rattle.port.specs.declared.Preceding.TheVariants.{Never, Was}
use Rattle.port.specs.declared.Port.{Port}
use Rattle.port.specs.declared.OwnClock.{OwnClock}

-- the frameCount and the arrival of the preceding frame: one of 256 counts, and a local time
abbrev pub LawfulPreceding : Preceding → Type 0
LawfulPreceding Never = Unit {0}
LawfulPreceding (Was count arrival) = (count < counts) × (arrival.0 < circle)

-- an announcement: a precedence whose parts have their bits, a held hop up to the last, and heard-at, a local time
abbrev pub LawfulAnnouncement : Option Announcement → Type 0
LawfulAnnouncement None = Unit {0}
LawfulAnnouncement (Some held) = PrecedenceFits held.precedence × (held.hop ≤ last_hop) × (held.heard_at.0 < circle)

-- a pair, and an echo: two local times
abbrev pub LawfulPair : Option Pair → Type 0
LawfulPair None = Unit {0}
LawfulPair (Some pair) = (pair.there.0 < circle) × (pair.here.0 < circle)

-- a port's record: every part of it, and the next frameCount
pub record LawfulPort (port : Port) : Type 0 where
  pub preceding : LawfulPreceding port.preceding
  pub announcement : LawfulAnnouncement port.announcement
  pub samples : LawfulSamples port.samples
  pub pair : LawfulPair port.pair
  pub echo : LawfulPair port.echo
  pub count : port.count < counts

-- the own clock's record
pub record LawfulClock (clock : OwnClock) : Type 0 where
  pub preceding : LawfulPreceding clock.preceding
  pub samples : LawfulSamples clock.samples

-- a station's address: six bytes
pub record LawfulMac (mac : Mac) : Type 0 where
  pub byte0 : mac.0 < 256
  pub byte1 : mac.1 < 256
  pub byte2 : mac.2 < 256
  pub byte3 : mac.3 < 256
  pub byte4 : mac.4 < 256
  pub byte5 : mac.5 < 256

-- the fields of a frame that was read: what their types say, and the times in range
pub record FieldsInRange (f : Fields) : Type 0 where
  pub typed : Typed f
  pub grand : InRange f.grand
  pub local : f.local.0 < circle
  pub tx : f.tx.0 < circle
  pub rx : f.rx.0 < circle
