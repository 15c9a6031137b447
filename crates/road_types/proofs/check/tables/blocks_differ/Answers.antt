use Rattle.std.proofs.Common.{◌+◌, sym, ◌∙◌, arith}
use Rattle.std.proofs.lemmas.List.{take_rest}
use Rattle.road_types.specs.RecordFaults.{stands_elsewhere}
use Rattle.road_types.proofs.Neighbours.{all_pairs-end, pairs_fail, pairs_go}
use Rattle.road_types.proofs.check.tables.blocks_differ.Goals as goal

pub returns-then-not-all_stand_elsewhere : goal.returns-then-not-all_stand_elsewhere
returns-then-not-all_stand_elsewhere c =
    pairs_fail stands_elsewhere c.args.blocks.now _ c.loop-i.i _ (omega arith) c.loop-i.invariant (take_rest c.args.blocks.now (c.loop-i.i + 1)) ((sym c.all_stand_elsewhere.ensures ∙ c.if-not-all_stand_elsewhere.true))

pub loop-i-preserved : goal.loop-i-preserved
loop-i-preserved c =
    pairs_go stands_elsewhere c.args.blocks.now _ c.loop-i.i _ (omega arith) c.loop-i.invariant (take_rest c.args.blocks.now (c.loop-i.i + 1)) ((sym c.all_stand_elsewhere.ensures ∙ c.if-not-all_stand_elsewhere.false))

pub returns : goal.returns
returns c = sym (all_pairs-end stands_elsewhere c.args.blocks.now c.loop-i.i (omega arith)) ∙ c.loop-i.invariant
