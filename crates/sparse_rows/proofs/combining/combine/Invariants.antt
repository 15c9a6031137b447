use Rattle.std.proofs.Common.{length, ◌-◌, ◌≡◌, ◌≤◌, ◌<◌, ◌+◌, vec_capacity}
use Rattle.sparse_rows.proofs.Merging.{IsMerging}
use Rattle.sparse_rows.proofs.combining.combine.Given as goal

abbrev pub invariant-loop-a : goal.invariant-loop-a
invariant-loop-a g l =
    (vec_capacity l.out ≡ vec_capacity l.fn.out)
    × ((l.a ≤ length l.pivot) × ((l.b ≤ length l.other)
    × IsMerging g.W.Whole.meaning g.T.Whole.meaning (g.T.Whole.meaning l.fn.keep) (g.T.Whole.meaning l.fn.take) l.pivot l.other (vec_capacity l.fn.out) l.a l.b l.out.items))

abbrev pub decreases-loop-a : goal.decreases-loop-a
decreases-loop-a g l = (length l.pivot - l.a) + (length l.other - l.b)

abbrev pub invariant-loop-a-2 : goal.invariant-loop-a-2
invariant-loop-a-2 g l =
    (vec_capacity l.out ≡ vec_capacity l.fn.out)
    × ((l.a ≤ length l.pivot) × ((l.b ≤ length l.other) × ((l.a < length l.pivot → length l.other ≤ l.b)
    × IsMerging g.W.Whole.meaning g.T.Whole.meaning (g.T.Whole.meaning l.fn.keep) (g.T.Whole.meaning l.fn.take) l.pivot l.other (vec_capacity l.fn.out) l.a l.b l.out.items)))

abbrev pub decreases-loop-a-2 : goal.decreases-loop-a-2
decreases-loop-a-2 g l = length l.pivot - l.a

abbrev pub invariant-loop-b : goal.invariant-loop-b
invariant-loop-b g l =
    (vec_capacity l.out ≡ vec_capacity l.fn.out)
    × ((length l.pivot ≤ l.a) × ((l.b ≤ length l.other)
    × IsMerging g.W.Whole.meaning g.T.Whole.meaning (g.T.Whole.meaning l.fn.keep) (g.T.Whole.meaning l.fn.take) l.pivot l.other (vec_capacity l.fn.out) l.a l.b l.out.items))

abbrev pub decreases-loop-b : goal.decreases-loop-b
decreases-loop-b g l = length l.other - l.b
