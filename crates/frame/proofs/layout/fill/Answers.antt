-- Row by row, and at the end all of them.
use Rattle.std.proofs.Common.{◌≡◌, refl, sym, ap, ◌∙◌, ◌+◌, ◌<◌, ◌≤◌, [], ◌∷◌, ◌++◌, length, take, drop, get_or, arith, min}
use Rattle.std.proofs.lemmas.List.{take-append-drop, length-append}
use Rattle.std.proofs.lemmas.Slice.Zip.{zip_turn, zip_end}
use Rattle.numbers.specs.Table.{joined}
use Rattle.frame.specs.Frame.{frame_length, widths}
use Rattle.frame.proofs.RowLaws.{row_fits, row_ends, row_joined, row_after}
use Rattle.frame.proofs.layout.fill.Goals as goal
use Rattle.frame.proofs.layout.fill.Goals.{In-Some}

pub loop-value-init : goal.loop-value-init
unfolding joined
loop-value-init c =
    let e = c.into_iter-value-iterator.ensures.into_iter_gives in
    let zip = c.zip-value-items.ensures in
    record {
      can_next = (tt, tt);
      is_finite = tt;
      first = ap (λ z. z.a.rest.now) e ∙ ap (λ i. i.rest.now) zip.first ∙ c.iter.ensures.rest;
      second = ap (λ z. z.b.rest.now) e ∙ zip.second.0;
      rows = omega arith;
      room = c.requires;
      same_length = refl;
      left = refl;
      after = refl;
      so_far = refl;
    }

-- the value and the width of the row that is next
row : (c : In-Some)
    → (length c.loop-value.yielded < 24) × (c.in-Some.value.now ≡ get_or c.args.values (length c.loop-value.yielded) 0) × (c.in-Some.width.now ≡ get_or widths (length c.loop-value.yielded) 0)
row c =
    let l = c.loop-value in
    let z =
    zip_turn c.args.values widths l.yielded c.into_iter-value-iterator.result l.value-iterator c.next.new.self c.next.result l.invariant.first l.invariant.second l.yielded_by
    (c.in-Some.value, c.in-Some.width) c.in-Some.is c.next.ensures.steps in
    (z.1, z.2 0, z.3 0)

fits : (c : In-Some) → c.loop-value.at + c.in-Some.width.now ≤ frame_length
fits c =
    let r = row c in
    let l = c.loop-value in
    omega (arith, r.2, row_fits widths l.at (length l.yielded) r.0 l.invariant.left)

pub put_at-requires : goal.put_at-requires
put_at-requires c = omega (arith, fits (goal.at.put_at-requires c).In-Some)

pub overflow_add-at : goal.overflow_add-at
overflow_add-at c = omega (arith, fits (goal.at.overflow_add-at c).In-Some)

pub loop-value-preserved : goal.loop-value-preserved
loop-value-preserved c =
    let d = (goal.at.loop-value-preserved c).In-Some in
    let r = row d in
    let l = c.loop-value in
    let k = length l.yielded in
    let m : l.at + get_or widths k 0 ≤ length l.out = omega (arith, fits d, r.2) in
    let more : length (l.yielded ++ (c.in-Some.value, c.in-Some.width) ∷ []) ≡ k + 1 = length-append l.yielded _ in
    rw (c.put_at.ensures, more, r.1, r.2)
    record {
      can_next = (tt, tt);
      is_finite = tt;
      first = l.invariant.first;
      second = l.invariant.second;
      rows = l.invariant.rows;
      room = l.invariant.room;
      same_length = (rw (c.put_at.ensures, r.1, r.2) at (c.put_at.auto.out ∙ l.invariant.same_length));
      left = row_ends widths l.at k r.0 l.invariant.left;
      after = row_after widths l.at k r.0 l.invariant.left l.out c.args.out.now (get_or c.args.values k 0) m l.invariant.after;
      so_far = row_joined widths l.at k r.0 l.invariant.left c.args.values (drop frame_length c.args.out.now) l.out _ (omega arith) m l.invariant.so_far;
    }

pub returns : goal.returns
unfolding joined
returns c =
    let l = c.loop-value in
    let k : length l.yielded ≡ 24 =
    zip_end c.args.values widths l.yielded c.into_iter-value-iterator.result l.value-iterator c.next.new.self c.next.result l.invariant.first l.invariant.second l.yielded_by c.in-None.is c.next.ensures.steps
    ∙ ap (λ n. min n 24) l.invariant.rows in
    let a : l.at ≡ 64 = omega (arith, (rw k at l.invariant.left)) in
    sym (take-append-drop 64 l.out) ∙ ap (λ x. take 64 l.out ++ x) (rw a at l.invariant.after) ∙ (rw (k, a) at l.invariant.so_far)
