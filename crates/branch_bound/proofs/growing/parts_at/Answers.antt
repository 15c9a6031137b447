use Rattle.std.proofs.Common.{arith}
use Rattle.branch_bound.specs.inside.Grown.{grown_of}
use Rattle.branch_bound.proofs.SearchLemmas.{few_waiting, waiting_box, no_parts}
use Rattle.branch_bound.proofs.growing.parts_at.Goals as goal

pub waiting_at-leaf-requires-clause-count : goal.waiting_at-leaf-requires-clause-count
waiting_at-leaf-requires-clause-count c = let f = few_waiting (grown_of c.args.search.now.work) in omega (arith, f, c.requires.few)

pub parts-requires-clause-fits : goal.parts-requires-clause-fits
parts-requires-clause-fits c =
    (waiting_box c.args.road.now c.args.search.now c.args.at c.waiting_at-leaf.result.now c.requires.accepted c.requires.search c.waiting_at-leaf.ensures).fits

pub unreachable-requires : goal.unreachable-requires
unreachable-requires c =
    let leaf = c.waiting_at-leaf.result.now in
    let w = waiting_box c.args.road.now c.args.search.now c.args.at leaf c.requires.accepted c.requires.search c.waiting_at-leaf.ensures in
    no_parts c.args.road.now leaf.range leaf.split c.in_ok-parts.field-0 c.in-None.is c.in_ok-parts.ensures.parts w.waiting.splits
