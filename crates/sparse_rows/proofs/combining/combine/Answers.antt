use Rattle.std.proofs.Common.{◌≡◌, ◌<◌, ◌+◌, length, arith, ◌∙◌}
use Rattle.std.specs.Prelude.{vec_capacity}
use Rattle.sparse_rows.proofs.LinesLemmas.{line_from, rest_empty, next_end}
use Rattle.sparse_rows.proofs.Merging.{pivot_wide, pivot_room, pivot_step, other_wide, other_room, other_step, both_wide, both_room, both_step, merging_ends}
use Rattle.sparse_rows.proofs.combining.combine.Goals as goal

pub returns-in_default-clause-err : goal.returns-in_default-clause-err
returns-in_default-clause-err g c =
    let m = c.loop-a.invariant.1.1.1 in
    let l : c.loop-a.a < length c.args.pivot.now = c.loop-a-test.true in
    let k : c.loop-a.b < length c.args.other.now = c.if-b-other.true in
    let behind = line_from g.W.Whole.meaning c.args.other.now c.loop-a.b m.column (vec_capacity c.args.out.now) m.other_rest c.index-other-b.result k c.index-other-b.is (c.index-pivot-a.result.column + 1) (omega arith) in
    pivot_wide _ _ _ _ _ _ _ _ _ _ m c.index-pivot-a.result l c.index-pivot-a.is behind _ (c.in_default.ensures.wide (g.T.Whole.meaning c.args.keep))

pub put-requires : goal.put-requires
put-requires g c =
    let m = c.loop-a.invariant.1.1.1 in
    let l : c.loop-a.a < length c.args.pivot.now = c.loop-a-test.true in
    let k : c.loop-a.b < length c.args.other.now = c.if-b-other.true in
    let behind = line_from g.W.Whole.meaning c.args.other.now c.loop-a.b m.column (vec_capacity c.args.out.now) m.other_rest c.index-other-b.result k c.index-other-b.is (c.index-pivot-a.result.column + 1) (omega arith) in
    let room = pivot_room _ _ _ _ _ _ _ _ _ _ m c.index-pivot-a.result l c.index-pivot-a.is behind in
    omega arith

pub loop-a-preserved-then-x-y : goal.loop-a-preserved-then-x-y
loop-a-preserved-then-x-y g c =
    let m = c.loop-a.invariant.1.1.1 in
    let l : c.loop-a.a < length c.args.pivot.now = c.loop-a-test.true in
    let k : c.loop-a.b < length c.args.other.now = c.if-b-other.true in
    let behind = line_from g.W.Whole.meaning c.args.other.now c.loop-a.b m.column (vec_capacity c.args.out.now) m.other_rest c.index-other-b.result k c.index-other-b.is (c.index-pivot-a.result.column + 1) (omega arith) in (
      c.put.ensures.capacity ∙ c.loop-a.invariant.0,
      (
        omega arith,
        (
          omega arith,
          pivot_step _ _ _ _ _ _ _ _ _ _ m c.index-pivot-a.result l c.index-pivot-a.is behind _ _ (c.in-Some.ensures.value (g.T.Whole.meaning c.args.keep)) c.put.ensures.filled,
        ),
      ),
    )

pub returns-in_default-kept_cell-clause-err : goal.returns-in_default-kept_cell-clause-err
returns-in_default-kept_cell-clause-err g c =
    let m = c.loop-a.invariant.1.1.1 in
    let l : c.loop-a.a < length c.args.pivot.now = c.loop-a-test.true in
    let k : c.loop-a.b < length c.args.other.now = c.if-b-other.true in
    let behind = line_from g.W.Whole.meaning c.args.pivot.now c.loop-a.a m.column (vec_capacity c.args.out.now) m.pivot_rest c.index-pivot-a.result l c.index-pivot-a.is (c.index-other-b.result.column + 1) (omega arith) in
    other_wide _ _ _ _ _ _ _ _ _ _ m c.index-other-b.result k c.index-other-b.is behind _ (c.in_default-kept_cell.ensures.wide (g.T.Whole.meaning c.args.take))

pub put-requires-then-y-x : goal.put-requires-then-y-x
put-requires-then-y-x g c =
    let m = c.loop-a.invariant.1.1.1 in
    let l : c.loop-a.a < length c.args.pivot.now = c.loop-a-test.true in
    let k : c.loop-a.b < length c.args.other.now = c.if-b-other.true in
    let behind = line_from g.W.Whole.meaning c.args.pivot.now c.loop-a.a m.column (vec_capacity c.args.out.now) m.pivot_rest c.index-pivot-a.result l c.index-pivot-a.is (c.index-other-b.result.column + 1) (omega arith) in
    let room = other_room _ _ _ _ _ _ _ _ _ _ m c.index-other-b.result k c.index-other-b.is behind in
    omega arith

pub loop-a-preserved-then-y-x : goal.loop-a-preserved-then-y-x
loop-a-preserved-then-y-x g c =
    let m = c.loop-a.invariant.1.1.1 in
    let l : c.loop-a.a < length c.args.pivot.now = c.loop-a-test.true in
    let k : c.loop-a.b < length c.args.other.now = c.if-b-other.true in
    let behind = line_from g.W.Whole.meaning c.args.pivot.now c.loop-a.a m.column (vec_capacity c.args.out.now) m.pivot_rest c.index-pivot-a.result l c.index-pivot-a.is (c.index-other-b.result.column + 1) (omega arith) in (
      c.put-then-y-x.ensures.capacity ∙ c.loop-a.invariant.0,
      (
        omega arith,
        (
          omega arith,
          other_step _ _ _ _ _ _ _ _ _ _ m c.index-other-b.result k c.index-other-b.is behind _ _ (c.in-Some-kept_cell.ensures.value (g.T.Whole.meaning c.args.take)) c.put-then-y-x.ensures.filled,
        ),
      ),
    )

pub returns-in_default-cell_of-clause-err : goal.returns-in_default-cell_of-clause-err
returns-in_default-cell_of-clause-err g c =
    let m = c.loop-a.invariant.1.1.1 in
    let same : c.index-other-b.result.column ≡ c.index-pivot-a.result.column = omega arith in
    both_wide _ _ _ _ _ _ _ _ _ _ m c.index-pivot-a.result c.index-other-b.result c.loop-a-test.true c.index-pivot-a.is c.if-b-other.true c.index-other-b.is same _ c.in_default-cell_of.ensures.wide

pub put-requires-else-y-x : goal.put-requires-else-y-x
put-requires-else-y-x g c =
    let m = c.loop-a.invariant.1.1.1 in
    let same : c.index-other-b.result.column ≡ c.index-pivot-a.result.column = omega arith in
    let room = both_room _ _ _ _ _ _ _ _ _ _ m c.index-pivot-a.result c.index-other-b.result c.loop-a-test.true c.index-pivot-a.is c.if-b-other.true c.index-other-b.is same in
    omega arith

pub loop-a-preserved : goal.loop-a-preserved
loop-a-preserved g c =
    let m = c.loop-a.invariant.1.1.1 in
    let same : c.index-other-b.result.column ≡ c.index-pivot-a.result.column = omega arith in
    let l : c.loop-a.a < length c.args.pivot.now = c.loop-a-test.true in
    let k : c.loop-a.b < length c.args.other.now = c.if-b-other.true in (
      c.put-else-y-x.ensures.capacity ∙ c.loop-a.invariant.0,
      (
        omega arith,
        (
          omega arith,
          both_step _ _ _ _ _ _ _ _ _ _ m c.index-pivot-a.result c.index-other-b.result l c.index-pivot-a.is k c.index-other-b.is same _ _ c.in-Some-cell_of.ensures.value c.put-else-y-x.ensures.filled,
        ),
      ),
    )

pub put-requires-in-loop-a-2 : goal.put-requires-in-loop-a-2
put-requires-in-loop-a-2 g c =
    let m = c.loop-a-2.invariant.1.1.1.1 in
    let x = c.index-pivot-a-in-loop-a-2.result in
    let last = next_end g.W.Whole.meaning c.args.pivot.now c.loop-a-2.a m.column (vec_capacity c.args.out.now) m.pivot_rest x c.loop-a-2-test.true c.index-pivot-a-in-loop-a-2.is in
    let behind = rest_empty g.W.Whole.meaning c.args.other.now c.loop-a.b m.column (vec_capacity c.args.out.now) (c.index-pivot-a-in-loop-a-2.result.column + 1) m.other_rest (c.loop-a-2.invariant.1.1.1.0 c.loop-a-2-test.true) (omega arith) in
    let room = pivot_room _ _ _ _ _ _ _ _ _ _ m x c.loop-a-2-test.true c.index-pivot-a-in-loop-a-2.is behind in
    omega arith

pub loop-a-2-preserved : goal.loop-a-2-preserved
loop-a-2-preserved g c =
    let m = c.loop-a-2.invariant.1.1.1.1 in
    let last = next_end g.W.Whole.meaning c.args.pivot.now c.loop-a-2.a m.column (vec_capacity c.args.out.now) m.pivot_rest c.index-pivot-a-in-loop-a-2.result c.loop-a-2-test.true c.index-pivot-a-in-loop-a-2.is in
    let behind = rest_empty g.W.Whole.meaning c.args.other.now c.loop-a.b m.column (vec_capacity c.args.out.now) (c.index-pivot-a-in-loop-a-2.result.column + 1) m.other_rest (c.loop-a-2.invariant.1.1.1.0 c.loop-a-2-test.true) (omega arith) in (
      c.put-in-loop-a-2.ensures.capacity ∙ c.loop-a-2.invariant.0,
      (
        omega arith,
        (
          c.loop-a-2.invariant.1.1.0,
          (
            (λ _. c.loop-a-2.invariant.1.1.1.0 c.loop-a-2-test.true),
            pivot_step _ _ _ _ _ _ _ _ _ _ m c.index-pivot-a-in-loop-a-2.result c.loop-a-2-test.true c.index-pivot-a-in-loop-a-2.is behind _ _ (c.in-Some-taken_cell.ensures.value (g.T.Whole.meaning c.args.keep)) c.put-in-loop-a-2.ensures.filled,
          ),
        ),
      ),
    )

pub returns-in_default-kept_cell-2-clause-err : goal.returns-in_default-kept_cell-2-clause-err
returns-in_default-kept_cell-2-clause-err g c =
    let m = c.loop-b.invariant.1.1.1 in
    let last = next_end g.W.Whole.meaning c.args.other.now c.loop-b.b m.column (vec_capacity c.args.out.now) m.other_rest c.index-other-b-in-loop-b.result c.loop-b-test.true c.index-other-b-in-loop-b.is in
    let behind = rest_empty g.W.Whole.meaning c.args.pivot.now c.loop-a-2.a m.column (vec_capacity c.args.out.now) (c.index-other-b-in-loop-b.result.column + 1) m.pivot_rest c.loop-b.invariant.1.0 (omega arith) in
    other_wide _ _ _ _ _ _ _ _ _ _ m c.index-other-b-in-loop-b.result c.loop-b-test.true c.index-other-b-in-loop-b.is behind _ (c.in_default-kept_cell-2.ensures.wide (g.T.Whole.meaning c.args.take))

pub put-requires-in-loop-b : goal.put-requires-in-loop-b
put-requires-in-loop-b g c =
    let m = c.loop-b.invariant.1.1.1 in
    let last = next_end g.W.Whole.meaning c.args.other.now c.loop-b.b m.column (vec_capacity c.args.out.now) m.other_rest c.index-other-b-in-loop-b.result c.loop-b-test.true c.index-other-b-in-loop-b.is in
    let behind = rest_empty g.W.Whole.meaning c.args.pivot.now c.loop-a-2.a m.column (vec_capacity c.args.out.now) (c.index-other-b-in-loop-b.result.column + 1) m.pivot_rest c.loop-b.invariant.1.0 (omega arith) in
    let room = other_room _ _ _ _ _ _ _ _ _ _ m c.index-other-b-in-loop-b.result c.loop-b-test.true c.index-other-b-in-loop-b.is behind in
    omega arith

pub loop-b-preserved : goal.loop-b-preserved
loop-b-preserved g c =
    let m = c.loop-b.invariant.1.1.1 in
    let last = next_end g.W.Whole.meaning c.args.other.now c.loop-b.b m.column (vec_capacity c.args.out.now) m.other_rest c.index-other-b-in-loop-b.result c.loop-b-test.true c.index-other-b-in-loop-b.is in
    let behind = rest_empty g.W.Whole.meaning c.args.pivot.now c.loop-a-2.a m.column (vec_capacity c.args.out.now) (c.index-other-b-in-loop-b.result.column + 1) m.pivot_rest c.loop-b.invariant.1.0 (omega arith) in (
      c.put-in-loop-b.ensures.capacity ∙ c.loop-b.invariant.0,
      (
        c.loop-b.invariant.1.0,
        (
          omega arith,
          other_step _ _ _ _ _ _ _ _ _ _ m c.index-other-b-in-loop-b.result c.loop-b-test.true c.index-other-b-in-loop-b.is behind _ _ (c.in-Some-kept_cell-2.ensures.value (g.T.Whole.meaning c.args.take)) c.put-in-loop-b.ensures.filled,
        ),
      ),
    )

pub returns-clause-ok : goal.returns-clause-ok
returns-clause-ok g c = merging_ends _ _ _ _ _ _ _ _ _ _ c.loop-b.invariant.1.1.1 c.loop-b.invariant.1.0 (omega arith)
