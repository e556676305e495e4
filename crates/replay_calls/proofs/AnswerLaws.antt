-- Laws of what a line is answered with: a drift is a number, K 0 prints what C does, which letters are Setup's, and which lines leave the state as it is.
use mathlib.Core.Path.{◌≡◌, refl, sym, ap, ◌∙◌}
use mathlib.Core.Bool.{Bool, true, false, cond, true≢false}
use mathlib.Core.List.{List}
use mathlib.Core.Logic.{inl, inr}
use Prim.Native.Nat.{ℕ, zero, suc, ◌+◌, ◌*◌, ◌^◌, ◌<◌}
use native.Mathlib.Omega.{arith}
use Rattle.std.proofs.Common.{Option, Some, None}
use borrow.Author.Tests.{lt-leb, ne_eqb}
use lib.ListN.{length}
use lib.Dec.{ltb, eqb}
use lib.Ieee.{Float, inf, is_nan, Format, prec, emax, low, round, units, odd}
use Rattle.numbers.proofs.Branches.{if_when}
use Rattle.samples.specs.declared.Samples.{Samples}
use Rattle.samples.specs.Keep.{ends_of}
use Rattle.samples.specs.declared.Ends.{Ends}
use Rattle.timeline.specs.Drift.{ppm_of, drift_through_of, drift_of}
use Rattle.bridge.specs.State.{Lawful}
use Rattle.bridge.specs.Table.{samples_at}
use Rattle.bridge.specs.Setup.{setup_of}
use Rattle.bridge.specs.Ranked.{ranked_of}
use Rattle.bridge.specs.Drift.{drift_at}
use Rattle.bridge.specs.declared.Bridge.{Bridge}
use Rattle.bridge.proofs.Ranking.{chosen_head}
use Rattle.answer.specs.Answer.{Answer, says, refused_line, done_says}
use Rattle.forms.specs.Value.{byte_in}
use Rattle.forms.specs.declared.Form.{Form}
use Rattle.replay_grammar.specs.Row.{letter_s, letter_p, letter_v, letter_l, letter_o, letter_r, letter_a, letter_c, letter_t, letter_k}
use Rattle.replay_grammar.specs.Line.{asks_by, longest_line, may_be_line, letter_of, form_for, asks}
use Rattle.replay_grammar.proofs.LineLaws.{SetupLetter, form_some, asks_letter}
use Rattle.replay_setup.specs.Argument.{setup_in}
use Rattle.replay_calls.specs.Answer.{chosen_text, IsNumber, asked_text, call_of, answer_with, answer_of}

-- ---- a drift is a number

odd_number : (d : ℕ) (s : Bool) (q k l : ℕ) → is_nan (odd d s q k l) ≡ false
unfolding odd is_nan
odd_number d s zero k l = refl
odd_number d s (suc q) k l = refl

inf_number : (s : Bool) → is_nan (inf s) ≡ false
unfolding is_nan
inf_number s = refl

units_number : (f : Format) (s : Bool) (q k : ℕ) → is_nan (units f s q k) ≡ false
unfolding units
units_number f s q k =
    if_when (λ (x : Float). is_nan x ≡ false) (ltb (q * 2 ^ k) (2 ^ (low f + suc (emax f)))) (λ t. odd_number (suc (prec f)) s q k (low f)) (λ t. inf_number s)

round_number : (f : Format) (s : Bool) (n d : ℕ) → is_nan (round f s n d) ≡ false
unfolding round
round_number f s n d = units_number f s _ _

samples_number : (s : Samples) → IsNumber (drift_of s)
unfolding drift_of ppm_of
samples_number s = by (ends_of s)
  where
    by : (e : Option Ends) → IsNumber (drift_through_of e)
    by None = tt
    by (Some e) = rw round_number tt

pub drift_number : (b : Bridge) (p : ℕ) → IsNumber (drift_at b p)
unfolding drift_at
drift_number b p = if_when IsNumber (ltb b.setup.n p) (λ t. tt) (λ t. samples_number (samples_at p b.clock b.ports))

-- ---- the candidate at place 0 is the chosen clock

pub ranked_first : (b : Bridge) (f : Form) → Lawful b → byte_in f 0 ≡ 0 → asked_text letter_k b f ≡ asked_text letter_c b f
unfolding asked_text
ranked_first b f lawful e = ap chosen_text (ap (ranked_of b) e ∙ chosen_head b lawful)

-- ---- a letter of Setup

pub call_setup : (letter : ℕ) (b : Bridge) (f : Form) → SetupLetter letter → done_says (setup_of (setup_in letter f)) ≡ call_of letter b f
unfolding call_of
call_setup letter b f (inl s) = rw s refl
call_setup letter b f (inr (inl p)) = rw p refl
call_setup letter b f (inr (inr v)) = rw v refl

-- ---- a letter that asks

-- is not the first of those that do not, so what stands for the rest stands for it
asks_other : (first rest : Bool) (x y : Answer) {z : Answer} → (rest ≡ true → y ≡ z) → cond first false rest ≡ true → cond first x y ≡ z
asks_other true rest x y f e = absurd (true≢false (sym e))
asks_other false rest x y f e = f e

-- leaves the state as it is
pub call_asks : (letter : ℕ) (b : Bridge) (f : Form) → asks_by letter ≡ true → call_of letter b f ≡ says b (asked_text letter b f)
unfolding call_of asks_by
call_asks letter b f =
    asks_other (eqb letter letter_s) _ _ _ (asks_other (eqb letter letter_p) _ _ _ (asks_other (eqb letter letter_v) _ _ _ (asks_other (eqb letter letter_l) _ _ _ (asks_other (eqb letter letter_o) _ _ _ (asks_other (eqb letter letter_r) _ _ _ (asks_other (eqb letter letter_a) _ _ _ (asks_other (eqb letter letter_t) _ _ _ (λ e. refl))))))))

module _ (b : Bridge) (s : List ℕ) where
  pub answer_call : {f : Form} → Some f ≡ form_for s → call_of (letter_of s) b f ≡ answer_of b s
  unfolding answer_of
  answer_call e = ap (answer_with b (letter_of s)) e

  pub answer_bad : None ≡ form_for s → refused_line b ≡ answer_of b s
  unfolding answer_of
  answer_bad e = ap (answer_with b (letter_of s)) e

  -- of a line that asks, what the letter's question prints
  pub answer_asked : {f : Form} → asks s ≡ true → Some f ≡ form_for s → says b (asked_text (letter_of s) b f) ≡ answer_of b s
  answer_asked {f} a e = sym (call_asks (letter_of s) b f (asks_letter s (form_some s e) ∙ a)) ∙ answer_call e

-- a line that asks leaves the state as it is
pub asks_stays : (b : Bridge) (s : List ℕ) → asks s ≡ true → (answer_of b s).next ≡ b
asks_stays b s a = by (form_for s) refl
  where
    by : (form : Option Form) → form ≡ form_for s → (answer_of b s).next ≡ b
    by (Some f) e = ap (λ (x : Answer). x.next) (sym (answer_asked b s a e))
    by None e = ap (λ (x : Answer). x.next) (sym (answer_bad b s e))

-- a text that is longer than any line is none
pub answer_long : (b : Bridge) (s : List ℕ) → longest_line < length s → refused_line b ≡ answer_of b s
unfolding answer_of form_for may_be_line
answer_long b s h = rw (ne_eqb (length s) 0 (λ e. omega arith), lt-leb (length s) longest_line h) refl
