-- What a call that takes no frame leaves of a record: each field by itself.
use mathlib.Core.Path.{◌≡◌, refl, subst}
use mathlib.Core.Bool.{true}
use Prim.Native.Nat.{ℕ}
use Rattle.refusals.specs.Answer.{answer_number}
use Rattle.times.specs.declared.LocalTime.{LocalTime}
use Rattle.times.specs.declared.GrandTime.{GrandTime}
use Rattle.frame.specs.declared.Fields.{Fields}
use Rattle.port.specs.Record.{too_old, aged_port, used_port}
use Rattle.port.specs.Own.{own_reading_of}
use Rattle.port.specs.Receive.{received_of}
use Rattle.port.specs.Leaves.{Noted, NotedClock, Used, Aged}
use Rattle.port.specs.declared.Setting.{Setting}
use Rattle.port.specs.declared.Port.{Port}
use Rattle.port.specs.declared.OwnClock.{OwnClock}
use Rattle.port.specs.declared.Outcome.{Outcome}
use Rattle.port.proofs.PortLaws.{aged_old, received_is, own_reading_is}

-- a frame that is not taken is noted
pub received_noted : (setting : Setting) (chosen : ℕ) (f : Fields) (at : LocalTime) (port : Port)
    → (answer_number (received_of setting chosen f at port).answer ≡ 0 → ⊥) → Noted f.count at port (received_of setting chosen f at port).after
received_noted setting chosen f at port =
    received_is setting chosen f at port (λ (d : Outcome Port). (answer_number d.answer ≡ 0 → ⊥) → Noted f.count at port d.after)
    (λ _ _ _ _. record { preceding = refl; announcement = refl; samples = refl; pair = refl; echo = refl; next = refl })
    (λ _ _ _ _ _ refused. absurd (refused refl))

-- a reading of the own clock that is not taken is noted
pub own_reading_noted : (count : ℕ) (grand : GrandTime) (now : LocalTime) (clock : OwnClock)
    → (answer_number (own_reading_of count grand now clock).answer ≡ 0 → ⊥) → NotedClock count now clock (own_reading_of count grand now clock).after
own_reading_noted count grand now clock =
    own_reading_is count grand now clock (λ (d : Outcome OwnClock). (answer_number d.answer ≡ 0 → ⊥) → NotedClock count now clock d.after)
    (λ _. record { preceding = refl; samples = refl })
    (λ _ _ _ refused. absurd (refused refl))

-- a send uses the next frameCount up
pub sent_used : (port : Port) → Used port (used_port port)
sent_used port = record { preceding = refl; announcement = refl; samples = refl; pair = refl; echo = refl; next = refl }

-- a port whose announcement is too old has aged
pub old_aged : (at : LocalTime) (timeout : ℕ) (port : Port) → too_old port.announcement at timeout ≡ true → Aged port (aged_port at timeout port)
old_aged at timeout port e =
    subst (Aged port) (aged_old at timeout port e) (record { preceding = refl; announcement = refl; samples = refl; pair = refl; echo = refl; next = refl })
