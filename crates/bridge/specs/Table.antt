-- The table of records: each changed by its index, the candidates and the best of them, and whose samples are meant by a number.
use Rattle.std.specs.Prelude.{Option, Some, None, Bool, cond, ◌&&◌, ℕ, zero, suc, List, [], ◌∷◌, eqb, get_or}
use Rattle.samples.specs.declared.Samples.{Samples}
use Rattle.samples.specs.declared.Samples.TheVariants.{Empty}
use Rattle.choice.specs.declared.Precedence.{Precedence}
use Rattle.choice.specs.Choose.{candidate_of, own_candidate, best_of}
use Rattle.choice.specs.declared.Candidate.{Candidate}
use Rattle.port.specs.Record.{empty_port}
use Rattle.port.specs.declared.Port.{Port}
use Rattle.port.specs.declared.OwnClock.{OwnClock}
use Rattle.bridge.specs.Arguments.{bit}

-- the most ports
abbrev pub most_ports : ℕ
most_ports = 8

-- every element changed by f, the first at index k
unfoldable pub each : {A : Type 0} → (ℕ → A → A) → ℕ → List A → List A
each f k [] = []
each f k (a ∷ l) = f k a ∷ each f (suc k) l

-- the record at an index
abbrev pub port_at : List Port → ℕ → Port
port_at ports i = get_or ports i empty_port

-- the port at an index loses its link: its bit goes from 1 to 0
abbrev pub loses_link : ℕ → ℕ → ℕ → Bool
loses_link links mask i = eqb (bit links i) 1 && eqb (bit mask i) 0

-- a port that loses its link loses its whole record
unfoldable pub relinked_port : ℕ → ℕ → ℕ → Port → Port
relinked_port links mask i port = cond (loses_link links mask i) empty_port port

-- the candidates of the ports, the first of which has the number k
unfoldable pub candidates_from : ℕ → List Port → List (Option Candidate)
candidates_from k [] = []
candidates_from k (p ∷ ps) = candidate_of k p.announcement ∷ candidates_from (suc k) ps

-- all candidates: own clock first, then the ports
abbrev pub candidates_of : Bool → Precedence → List Port → List (Option Candidate)
candidates_of capable own ports = own_candidate capable own ∷ candidates_from 1 ports

-- the best of them
abbrev pub choice_of : Bool → Precedence → List Port → Option Candidate
choice_of capable own ports = best_of (own_candidate capable own) (candidates_from 1 ports)

-- the samples of the own clock, 0, or of the port with this number
unfoldable pub samples_at : ℕ → OwnClock → List Port → Samples
samples_at zero clock ports = clock.samples
samples_at (suc i) clock ports = (port_at ports i).samples

-- the samples of the chosen clock, none where no clock is chosen
unfoldable pub samples_of_choice : Option Candidate → OwnClock → List Port → Samples
samples_of_choice None clock ports = Empty
samples_of_choice (Some c) clock ports = samples_at c.number clock ports
