-- The lines of a capture, and what is printed for each: the answer, and the clock that is chosen then.
use Rattle.std.specs.Prelude.{Bool, cond, List, ℕ, get_or, drop, Option, ⊤}
use Rattle.refusals.specs.Refusals.{bad_line}
use Rattle.refusals.specs.Answer.{answer_number}
use Rattle.numbers.specs.Bytes.{number_at}
use Rattle.choice.specs.Choose.{shown_port, shown_hop}
use Rattle.choice.specs.declared.Candidate.{Candidate}
use Rattle.bridge.specs.Fits.{plain_setup}
use Rattle.bridge.specs.Setup.{default_timeout, setup_of}
use Rattle.bridge.specs.Links.{links_of}
use Rattle.bridge.specs.Chosen.{chosen_of}
use Rattle.bridge.specs.Receive.{receive_of}
use Rattle.bridge.specs.declared.Bridge.{Bridge}
use Rattle.bridge.specs.declared.Done.{Done}
use Rattle.hexadecimal.specs.Digit.{exactly, pairs}
use Rattle.columns.specs.Columns.{line3}
use Rattle.answer.specs.Answer.{Answer, says}

-- the listing's bridge: two measured ports, both linked, not capable, the default timeout, a backTime of 10 ms; address and own precedence can't show
abbrev pub listing_ports : ℕ
listing_ports = 2

abbrev pub both_linked : ℕ
both_linked = 3

abbrev pub listing_back : ℕ
listing_back = 10995116278

unfoldable pub start_of : Bridge
start_of = (links_of (setup_of (plain_setup listing_ports default_timeout listing_back)).next both_linked).next

-- the digits of a line
abbrev pub line_digits : ℕ
line_digits = 142

-- s is 142 digits
abbrev pub is_line : List ℕ → Bool
is_line s = exactly line_digits s

-- an answer, with the port and the held hop of the clock that is chosen then
abbrev pub listed_text : ℕ → Option Candidate → List ℕ
listed_text answer choice = line3 answer (shown_port choice) (shown_hop choice)

abbrev pub listed_as : Bridge → ℕ → Answer
listed_as b answer = says b (listed_text answer (chosen_of b))

-- where the parts of a line's 71 bytes start: the port, the arrival, the frame
abbrev pub port_place : ℕ
port_place = 0

abbrev pub arrival_place : ℕ
arrival_place = 1

abbrev pub arrival_bytes : ℕ
arrival_bytes = 6

abbrev pub frame_place : ℕ
frame_place = 7

abbrev pub captured_from : Bridge → List ℕ → Done ⊤
captured_from b bytes = receive_of b (get_or bytes port_place 0) (drop frame_place bytes) (number_at bytes arrival_place arrival_bytes)

abbrev pub captured_of : Bridge → List ℕ → Done ⊤
captured_of b s = captured_from b (pairs s)

-- a call's answer, with the clock that is chosen after it
abbrev pub done_of : Done ⊤ → Answer
done_of done = listed_as done.next (answer_number done.answer)

-- a line is received, and a text that isn't one is refused
unfoldable pub listed_of : Bridge → List ℕ → Answer
listed_of b s = cond (is_line s) (done_of (captured_of b s)) (listed_as b bad_line)
