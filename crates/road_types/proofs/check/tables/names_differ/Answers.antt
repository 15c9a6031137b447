use Rattle.std.proofs.Common.{◌+◌, sym, ◌∙◌, arith}
use Rattle.std.proofs.lemmas.List.{take_rest}
use Rattle.road_types.specs.RecordFaults.{differs_from}
use Rattle.road_types.proofs.Neighbours.{all_pairs-end, pairs_fail, pairs_go}
use Rattle.road_types.proofs.check.tables.names_differ.Goals as goal

pub returns-then-not-all_differ_from : goal.returns-then-not-all_differ_from
returns-then-not-all_differ_from c =
    pairs_fail differs_from c.args.pits.now _ c.loop-i.i c.index-pits-i.result (omega arith) c.loop-i.invariant (take_rest c.args.pits.now (c.loop-i.i + 1)) (rw (← c.index-pits-i.is) (sym c.all_differ_from.ensures ∙ c.if-not-all_differ_from.true))

pub loop-i-preserved : goal.loop-i-preserved
loop-i-preserved c =
    pairs_go differs_from c.args.pits.now _ c.loop-i.i c.index-pits-i.result (omega arith) c.loop-i.invariant (take_rest c.args.pits.now (c.loop-i.i + 1)) (rw (← c.index-pits-i.is) (sym c.all_differ_from.ensures ∙ c.if-not-all_differ_from.false))

pub returns : goal.returns
returns c = sym (all_pairs-end differs_from c.args.pits.now c.loop-i.i (omega arith)) ∙ c.loop-i.invariant
