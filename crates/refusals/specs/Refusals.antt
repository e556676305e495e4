-- The number of each refusal, in document 01's order; 0 means done.
use Rattle.std.specs.Prelude.{ℕ}
use Rattle.refusals.specs.declared.Refusal.{Refusal}
use Rattle.refusals.specs.declared.Refusal.TheVariants.{BadSetup, OutOfRange, NoLink, WrongLength, WrongConstant, WrongVersion, LastHopHeard, NotNext, DelayTooLong, NoClock, FewSamples, TooLate, BeyondRange, BadLine}

abbrev pub done : ℕ
done = 0

abbrev pub bad_setup : ℕ
bad_setup = 1

abbrev pub out_of_range : ℕ
out_of_range = 2

abbrev pub no_link : ℕ
no_link = 3

abbrev pub wrong_length : ℕ
wrong_length = 4

abbrev pub wrong_constant : ℕ
wrong_constant = 5

abbrev pub wrong_version : ℕ
wrong_version = 6

abbrev pub last_hop_heard : ℕ
last_hop_heard = 7

abbrev pub not_next : ℕ
not_next = 8

abbrev pub delay_too_long : ℕ
delay_too_long = 9

abbrev pub no_clock : ℕ
no_clock = 10

abbrev pub few_samples : ℕ
few_samples = 11

abbrev pub too_late : ℕ
too_late = 12

abbrev pub beyond_range : ℕ
beyond_range = 13

abbrev pub bad_line : ℕ
bad_line = 14

-- the number of a refusal
abbrev pub number_of : Refusal → ℕ
number_of BadSetup = bad_setup
number_of OutOfRange = out_of_range
number_of NoLink = no_link
number_of WrongLength = wrong_length
number_of WrongConstant = wrong_constant
number_of WrongVersion = wrong_version
number_of LastHopHeard = last_hop_heard
number_of NotNext = not_next
number_of DelayTooLong = delay_too_long
number_of NoClock = no_clock
number_of FewSamples = few_samples
number_of TooLate = too_late
number_of BeyondRange = beyond_range
number_of BadLine = bad_line
