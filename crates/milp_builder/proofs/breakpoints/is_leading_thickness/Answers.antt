use Rattle.std.proofs.Common.{arith, ◌≡◌, below_more, sym, ap, ◌∙◌, to_z, of_z}
use Rattle.std.specs.Prelude.{pos}
use Rattle.std.proofs.lemmas.Int.{ints, to_z-of_z}
use Rattle.std.proofs.Math.Facts.{of_z-to_z}
use Rattle.std.specs.Int.{w128}
use Rattle.road_types.specs.Breakpoints.{leading_thickness}
use Rattle.road_types.specs.declared.road.Slab.{Slab}
use Rattle.milp_builder.proofs.LeadingSlabs.{solid_at, leading_none, leading_more}
use Rattle.milp_builder.proofs.breakpoints.is_leading_thickness.Goals as goal

other : Slab
other = record { thick = pos 0; area = pos 0 }

pub loop-slab-init : goal.loop-slab-init
loop-slab-init c = record {
  depth_is = omega (arith, ints, leading_none c.args.slabs.now);
  from = omega (arith, ints);
  to = omega (arith, ints);
  not_before = λ k below same. omega arith;
}

pub loop-slab-preserved : goal.loop-slab-preserved
unfolding other
loop-slab-preserved c =
    let solid = solid_at c.args.slabs.now c.requires.solid c.loop-slab.slab-index other (omega arith) in
    let more = leading_more c.args.slabs.now c.loop-slab.slab-index other (omega arith) in
    let thick = solid.thick in
    let few = c.requires.few in
    let bits = of_z-to_z c.loop-slab.auto.depth in
    let thickness = to_z-of_z w128 c.args.thickness c.ranges.thickness in
    let here : to_z w128 (of_z w128 c.args.thickness) ≡ leading_thickness c.args.slabs.now c.loop-slab.slab-index → ⊥ =
    λ e. c.if-depth-thickness.false (sym bits ∙ ap (of_z w128) (c.loop-slab.invariant.depth_is ∙ sym e ∙ thickness)) in
    record {
      depth_is = omega (arith, ints, more, c.from-depth.ensures);
      from = omega (arith, ints, c.from-depth.ensures);
      to = omega (arith, ints, c.from-depth.ensures);
      not_before = below_more _ _ c.loop-slab.invariant.not_before here;
    }
