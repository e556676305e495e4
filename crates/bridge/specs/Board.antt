-- Boards that compare in an order and grouping of their own: what each chooses, and what its calls make of that.
use Rattle.std.specs.Prelude.{Option, List, [], ◌∷◌, ℕ, zero, suc}
use Rattle.choice.specs.Choose.{candidate_of, own_candidate}
use Rattle.choice.specs.Compare.{Comparison, outcome_of, ComparesEach}
use Rattle.choice.specs.declared.Candidate.{Candidate}
use Rattle.bridge.specs.Table.{port_at, most_ports}
use Rattle.bridge.specs.Receive.{receive_by}
use Rattle.bridge.specs.Send.{send_by_of}
use Rattle.bridge.specs.Demands.{Call, links, own_clock, receive, age, send, after}
use Rattle.bridge.specs.declared.Bridge.{Bridge}

-- the candidate under a number: the own clock's under 0, a port's under its own
unfoldable pub candidate_under_of : Bridge → ℕ → Option Candidate
candidate_under_of b zero = own_candidate b.setup.capable b.setup.own
candidate_under_of b (suc i) = candidate_of (suc i) (port_at b.ports i).announcement

-- so many numbers, from k on
unfoldable pub numbers_from_of : ℕ → ℕ → List ℕ
numbers_from_of k zero = []
numbers_from_of k (suc n) = k ∷ numbers_from_of (suc k) n

-- the own clock's number and those of n ports
abbrev pub numbers_to : ℕ → List ℕ
numbers_to n = 0 ∷ numbers_from_of 1 n

-- a board is the way in which it compares these numbers, each once; in a state it may leave out those that have no candidate
abbrev pub GoesThrough : Comparison ℕ → Bridge → Type 0
GoesThrough board b = ComparesEach (candidate_under_of b) (numbers_to most_ports) board

-- what it chooses
abbrev pub chosen_on : Comparison ℕ → Bridge → Option Candidate
chosen_on board b = outcome_of (candidate_under_of b) board

-- the state after a call, and after calls in a row
abbrev pub after_on : Comparison ℕ → Bridge → Call → Bridge
after_on board b (links mask) = after b (links mask)
after_on board b (own_clock count byte seconds fraction at) = after b (own_clock count byte seconds fraction at)
after_on board b (receive port frame bytes arrival) = (receive_by (chosen_on board b) b port frame arrival).next
after_on board b (age at) = after b (age at)
after_on board b (send port t room) = (send_by_of (chosen_on board b) b port t room).next

unfoldable pub run_on : Comparison ℕ → Bridge → List Call → Bridge
run_on board b [] = b
run_on board b (c ∷ cs) = run_on board (after_on board b c) cs
