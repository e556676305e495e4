-- The walk over the fields that are left, with what is read so far, is the walk over all of them.
use Rattle.std.proofs.Common.{refl, ◌∙◌, ℕ, ◌+◌, ◌-◌, Bool, List, take, length, get_or, length-drop, length-set, arith}
use Rattle.std.proofs.lemmas.List.{drop_more}
use borrow.Rule.Slice.PartMut.{same_len_mid}
use Rattle.forms.specs.Field.{rule_of}
use Rattle.forms.specs.Form.{buffer_bytes, Taken}
use Rattle.forms.specs.declared.kind.Kind.TheVariants.{Byte}
use Rattle.forms.proofs.FieldLaws.{most_of, Within, within}
use Rattle.forms.proofs.FormLaws.{kinds_most, kinds_first, walk_all, walk_end, walk_rest, walk_bad, walk_more}
use Rattle.forms.proofs.read.Goals as goal
use Rattle.forms.proofs.read.Goals.{In_ok-next}

-- what is read so far
abbrev held : List ℕ → List Bool → List ℕ → ℕ → Taken
held numbers marked bytes used = record { numbers = numbers; marked = marked; bytes = bytes; used = used }

-- a field lies within the rest of the line, and in the room that is left
known : (c : In_ok-next)
    → Within (buffer_bytes - c.loop-i.used) (length c.args.rest.now - c.loop-i.at) (most_of (rule_of (get_or (take c.min.result c.args.row.now) c.loop-i.i Byte))) c.in_ok-next.next
known c = rw (← length-drop) (within _ _ _ c.in_ok-next.ensures)

pub loop-i-init : goal.loop-i-init
loop-i-init c =
    let k = kinds_first c.args.row.now c.min.result c.min.ensures in
    record {
      most = rw k (kinds_most c.args.row.now);
      numbers-room = refl;
      marked-room = refl;
      bytes-room = refl;
      used-most = omega arith;
      at_most = omega arith;
      walked = walk_all c.args.row.now _ c.args.rest.now k;
    }

pub returns-in_err-next : goal.returns-in_err-next
returns-in_err-next c =
    let l = c.loop-i in
    let kinds = take c.min.result c.args.row.now in
    c.from_residual.ensures
    ∙ walk_bad kinds c.args.rest.now l.i l.at (held l.numbers l.marked l.bytes l.used) _ (drop_more kinds l.i Byte c.loop-i-test.true) c.in_err-next.ensures
    ∙ l.invariant.walked

pub overflow_mul-next : goal.overflow_mul-next
overflow_mul-next c = let k = known (goal.at.overflow_mul-next c).In_ok-next in omega arith

pub overflow_add-start-in-loop-i : goal.overflow_add-start-in-loop-i
overflow_add-start-in-loop-i c = let k = known (goal.at.overflow_add-start-in-loop-i c).In_ok-next in omega arith

pub slice_bounds-bytes-end : goal.slice_bounds-bytes-end
slice_bounds-bytes-end c = let k = known (goal.at.slice_bounds-bytes-end c).In_ok-next in omega arith

pub slice_bounds-bytes-end-in-loop-i : goal.slice_bounds-bytes-end-in-loop-i
slice_bounds-bytes-end-in-loop-i c = let k = known (goal.at.slice_bounds-bytes-end-in-loop-i c).In_ok-next in omega arith

pub overflow_add-at : goal.overflow_add-at
overflow_add-at c = let k = known (goal.at.overflow_add-at c).In_ok-next in omega arith

pub loop-i-preserved : goal.loop-i-preserved
loop-i-preserved c =
    let k = known (goal.at.loop-i-preserved c).In_ok-next in
    let x = c.in_ok-next.next in
    let s = c.loop-i in
    let kinds = take c.min.result c.args.row.now in
    record {
      most = s.invariant.most;
      numbers-room = simp length-set s.invariant.numbers-room;
      marked-room = simp length-set s.invariant.marked-room;
      bytes-room = same_len_mid s.used (s.used + x.size - s.used) s.bytes c.bytes.new.out c.bytes.auto.out ∙ s.invariant.bytes-room;
      used-most = omega arith;
      at_most = omega arith;
      walked =
          walk_more kinds c.args.rest.now s.i s.at (held s.numbers s.marked s.bytes s.used) _ (drop_more kinds s.i Byte c.loop-i-test.true) x c.in_ok-next.ensures c.bytes.new.out c.bytes.ensures
          ∙ s.invariant.walked;
    }

pub returns-then-at-rest : goal.returns-then-at-rest
returns-then-at-rest c =
    let l = c.loop-i in
    walk_rest (take c.min.result c.args.row.now) c.args.rest.now l.i l.at (held l.numbers l.marked l.bytes l.used) (omega arith) (omega arith) ∙ l.invariant.walked

pub returns : goal.returns
returns c =
    let l = c.loop-i in
    walk_end (take c.min.result c.args.row.now) c.args.rest.now l.i l.at (held l.numbers l.marked l.bytes l.used) (omega arith) (omega arith) ∙ l.invariant.walked
