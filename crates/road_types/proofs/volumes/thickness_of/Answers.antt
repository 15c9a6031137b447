use Rattle.std.proofs.Common.{arith}
use Rattle.std.specs.Prelude.{pos}
use Rattle.std.proofs.lemmas.Int.{ints}
use Rattle.road_types.specs.declared.road.Slab.{Slab}
use Rattle.road_types.proofs.ListRests.{solid_at, thickness_more, thickness_none}
use Rattle.road_types.proofs.volumes.thickness_of.Goals as goal

other : Slab
other = record { thick = pos 0; area = pos 0 }

pub overflow_add-thickness : goal.overflow_add-thickness
unfolding other
overflow_add-thickness c =
    let solid = solid_at c.args.slabs.now c.requires c.loop-slab.slab-index other (omega arith) in
    omega (arith, ints, solid.thick.at_least, solid.thick.at_most, c.requires.few)

pub loop-slab-preserved : goal.loop-slab-preserved
unfolding other
loop-slab-preserved c =
    let solid = solid_at c.args.slabs.now c.requires c.loop-slab.slab-index other (omega arith) in
    let more = thickness_more c.args.slabs.now c.loop-slab.slab-index other (omega arith) in
    record {
      thickness_is = omega (arith, ints, more, solid.thick.at_least, solid.thick.at_most, c.requires.few);
      from = omega (arith, ints, solid.thick.at_least, solid.thick.at_most, c.requires.few);
      to = omega (arith, ints, solid.thick.at_least, solid.thick.at_most, c.requires.few);
    }

pub returns-clause-value : goal.returns-clause-value
returns-clause-value c =
    omega (arith, ints, thickness_none c.args.slabs.now c.loop-slab.slab-index (omega arith))
