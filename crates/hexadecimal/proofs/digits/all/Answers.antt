-- What is left has only digits, and no value so far was none's, just where the whole has only digits.
use Rattle.std.proofs.Common.{◌≡◌, ℕ, Bool, true, false, cond, ltb, length, drop, sym, ap, ◌∙◌, arith}
use lib.Seq.{drop-length}
use Rattle.hexadecimal.specs.Digit.{no_digit, all_digits}
use Rattle.hexadecimal.proofs.DigitLaws.{all_more, all_end, cond_itself}
use Rattle.hexadecimal.proofs.digits.all.Goals as goal

pub loop-c-preserved : goal.loop-c-preserved
loop-c-preserved c = all_more c.args.text.now c.loop-c.c-index c.loop-c.greatest c.value.result _ c.loop-c-test.true c.value.ensures c.max-greatest.ensures ∙ c.loop-c.invariant

pub returns : goal.returns
returns c =
    let l = c.loop-c in
    let s = c.args.text.now in
    let e : l.c-index ≡ length s = omega arith in
    let done : all_digits (drop l.c-index s) ≡ true = ap (λ (n : ℕ). all_digits (drop n s)) e ∙ ap all_digits (drop-length s) ∙ all_end in
    sym (cond_itself (ltb l.greatest no_digit)) ∙ sym (ap (λ (b : Bool). cond (ltb l.greatest no_digit) b false) done) ∙ l.invariant
