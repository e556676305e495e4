-- The first mark of what is left from here is the first from the start on.
use Rattle.std.proofs.Common.{◌≡◌, ℕ, ◌+◌, ◌-◌, ◌<◌, List, length, get_or, take, drop, sym, ap, ◌∙◌, arith, length-drop, length-take, get_or-take, get_or-drop}
use Rattle.hexadecimal.proofs.SearchLaws.{up_stop, up_end, found_next}
use Rattle.hexadecimal.proofs.search.found.Goals as goal

-- what is left from a place on, and a byte of it
left_at : (s : List ℕ) (from k : ℕ) → from + k < length s → get_or (take (length s - from) (drop from s)) k 0 ≡ get_or s (from + k) 0
left_at s from k h =
    let l : k < length s - from = omega arith in
    get_or-take (length s - from) (drop from s) k 0 l ∙ get_or-drop from s k 0

left_end : (s : List ℕ) (from : ℕ) → from < length s → length (take (length s - from) (drop from s)) ≡ length s - from
left_end s from h = simp (length-take, length-drop) (omega arith)

pub returns-then-bytes-start : goal.returns-then-bytes-start
returns-then-bytes-start c =
    let s = c.past_blocks-start in
    omega (arith, ap length (up_end c.args.mark c.args.bytes.now s.result c.if-bytes-start.true), s.ensures)

pub returns-then-b-mark : goal.returns-then-b-mark
returns-then-b-mark c =
    let a = c.args in
    let from = c.past_blocks-start.result in
    let k = c.loop-k.k in
    let h : from + k < length a.bytes.now = omega (arith, left_end a.bytes.now from c.if-bytes-start.false) in
    omega (arith, ap length (up_stop a.mark a.bytes.now (from + k) h (sym (left_at a.bytes.now from k h) ∙ c.if-b-mark.true)), c.loop-k.invariant)

pub loop-k-preserved : goal.loop-k-preserved
loop-k-preserved c =
    let a = c.args in
    let from = c.past_blocks-start.result in
    let k = c.loop-k.k in
    let h : from + k < length a.bytes.now = omega (arith, left_end a.bytes.now from c.if-bytes-start.false) in
    let z : from + (k + 1) ≡ from + k + 1 = omega arith in
    rw z (found_next a.mark a.bytes.now (from + k) h (λ e. c.if-b-mark.false (left_at a.bytes.now from k h ∙ e)) ∙ c.loop-k.invariant)

pub returns : goal.returns
returns c =
    let a = c.args in
    let from = c.past_blocks-start.result in
    let k = c.loop-k.k in
    let e : from + k ≡ length a.bytes.now = omega (arith, left_end a.bytes.now from c.if-bytes-start.false) in
    omega (arith, ap length (up_end a.mark a.bytes.now (from + k) (omega arith)), c.loop-k.invariant)
