-- C-19's cases: the errorTime that a full bridge sends in each version, by rates of both signs and by backTime, and where it leaves its 32 bits; the version and
-- the errorTime of a listener's frames.
use Rattle.std.specs.Prelude.{List, [], ◌∷◌, ℕ, ◌+◌, ◌-◌, ◌*◌, ◌^◌, ℤ, pos, Option, Some, None, Result, Ok, Err}
use Rattle.std.specs.Int.{w32}
use Rattle.std.proofs.Common.{of_z}
use Rattle.refusals.specs.Literals.{Literal, literal}
use Rattle.refusals.specs.Answer.{answer_number}
use Rattle.refusals.specs.declared.Refusal.{Refusal}
use Rattle.times.specs.Times.{second, grand_of, error_of}
use Rattle.samples.specs.declared.Sample.{Sample}
use Rattle.samples.specs.declared.Samples.{Samples}
use Rattle.samples.specs.declared.Samples.TheVariants.{Two}
use Rattle.choice.specs.Precedence.{worst_precedence}
use Rattle.choice.specs.declared.Candidate.{Candidate}
use Rattle.frame.specs.declared.Fields.{Fields}
use Rattle.port.specs.Record.{empty_port}
use Rattle.port.specs.Send.{sending_of}
use Rattle.port.specs.Edges.{Row, row, minus, local}
use Rattle.port.specs.declared.Profile.{Profile}
use Rattle.port.specs.declared.Profile.TheVariants.{Full, Listener}

-- a sample of so many units of grand time and of local time, with this errorTime
abbrev sample : ℕ → ℕ → ℤ → Sample
sample g r error = record { grand = grand_of g; local = local r; error = record { 0 = of_z w32 error } }

-- two samples 2^34 apart, between which grand time rose by so much, the newer with this errorTime and the older with another: at a rise of 2^34 + 1 the rate is 2,
-- at 2^34 - 1 it is -2
abbrev line : ℕ → ℤ → Samples
line rise error = Two (sample second 0 (minus 1000)) (sample (second + rise) (2 ^ 34) error)

abbrev faster : ℕ
faster = 2 ^ 34 + 1

abbrev slower : ℕ
slower = 2 ^ 34 - 1

-- what a station with this backTime sends at the newer sample's local time, in a version
abbrev sending : Profile → Option Candidate → ℕ → ℕ → Samples → Result Fields Refusal
sending profile choice back version samples =
    sending_of choice samples (record { profile = profile; mac = record { 0 = 0; 1 = 0; 2 = 0; 3 = 0; 4 = 0; 5 = 0 }; back = back }) version (local (2 ^ 34)) empty_port

abbrev sent : ℕ → ℕ → ℕ → ℤ → Result Fields Refusal
sent version back rise error = sending Full (Some (record { precedence = worst_precedence; hop = 1; number = 1 })) back version (line rise error)

-- the errorTime in a frame, as a signed number; the version in it
abbrev error_in : Result Fields Refusal → ℤ
error_in (Err refusal) = pos 0
error_in (Ok f) = error_of f.error

abbrev version_in : Result Fields Refusal → ℕ
version_in (Err refusal) = 0
version_in (Ok f) = f.version

unfoldable pub version_errors_of : List Row
version_errors_of =
    -- version 1: the newer sample's errorTime, whatever the rate
    row (error_in (sent 1 (2 ^ 34) faster (pos 5))) (pos 5)
    ∷ row (error_in (sent 1 (2 ^ 34) slower (pos 5))) (pos 5)
    ∷ row (error_in (sent 1 (2 ^ 34) faster (pos (2 ^ 31 - 1)))) (pos (2 ^ 31 - 1))
    ∷ row (error_in (sent 1 (2 ^ 34) slower (minus (2 ^ 31)))) (minus (2 ^ 31))
    -- version 2: and the floor of a half, of one, of one and a half, for rates of both signs
    ∷ row (error_in (sent 2 (2 ^ 33) faster (pos 5))) (pos 5)
    ∷ row (error_in (sent 2 (2 ^ 34) faster (pos 5))) (pos 6)
    ∷ row (error_in (sent 2 (3 * 2 ^ 33) faster (pos 5))) (pos 6)
    ∷ row (error_in (sent 2 (2 ^ 33) slower (pos 5))) (pos 4)
    ∷ row (error_in (sent 2 (2 ^ 34) slower (pos 5))) (pos 4)
    ∷ row (error_in (sent 2 (3 * 2 ^ 33) slower (pos 5))) (pos 3)
    -- backTime 0 and 2^39 - 1
    ∷ row (error_in (sent 2 0 faster (pos 5))) (pos 5)
    ∷ row (error_in (sent 2 (2 ^ 39 - 1) faster (pos 5))) (pos 36)
    ∷ row (error_in (sent 2 (2 ^ 39 - 1) slower (pos 5))) (minus 27)
    -- across zero, and at the edges of 32 bits
    ∷ row (error_in (sent 2 (2 ^ 34) faster (minus 1))) (pos 0)
    ∷ row (error_in (sent 2 (2 ^ 34) slower (pos 0))) (minus 1)
    ∷ row (error_in (sent 2 (2 ^ 34) faster (pos (2 ^ 31 - 2)))) (pos (2 ^ 31 - 1))
    ∷ row (error_in (sent 2 (2 ^ 34) slower (minus (2 ^ 31 - 1)))) (minus (2 ^ 31))
    -- a listener's is zero in either
    ∷ row (error_in (sending Listener None 0 1 (line faster (pos 5)))) (pos 0)
    ∷ row (error_in (sending Listener None 0 2 (line faster (pos 5)))) (pos 0)
    ∷ []

unfoldable pub version_answers_of : List Literal
version_answers_of =
    -- 13 where errorTime would leave 32 signed bits, one beyond either edge, in version 2 alone
    literal (answer_number (sent 2 (2 ^ 34) faster (pos (2 ^ 31 - 2)))) 0
    ∷ literal (answer_number (sent 2 (2 ^ 34) faster (pos (2 ^ 31 - 1)))) 13
    ∷ literal (answer_number (sent 2 (2 ^ 34) slower (minus (2 ^ 31 - 1)))) 0
    ∷ literal (answer_number (sent 2 (2 ^ 34) slower (minus (2 ^ 31)))) 13
    ∷ literal (answer_number (sent 1 (2 ^ 34) faster (pos (2 ^ 31 - 1)))) 0
    ∷ literal (answer_number (sent 1 (2 ^ 34) slower (minus (2 ^ 31)))) 0
    -- the version that stands in the frame
    ∷ literal (version_in (sent 1 (2 ^ 34) faster (pos 5))) 1
    ∷ literal (version_in (sent 2 (2 ^ 34) faster (pos 5))) 2
    ∷ literal (version_in (sending Listener None 0 1 (line faster (pos 5)))) 1
    ∷ literal (version_in (sending Listener None 0 2 (line faster (pos 5)))) 2
    ∷ []
