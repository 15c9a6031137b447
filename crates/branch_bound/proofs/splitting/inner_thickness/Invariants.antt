use Rattle.std.proofs.Common.{◌≡◌, ℕ, ◌*◌, ◌<◌}
use Rattle.std.specs.Prelude.{pos, ◌≤ℤ◌, ◌<ℤ◌}
use Rattle.road_types.specs.Breakpoints.{leading_thickness}
use Rattle.branch_bound.proofs.splitting.inner_thickness.Given as goal

abbrev pub invariant-loop-slab : goal.invariant-loop-slab
invariant-loop-slab l = record {
  depth_is : l.depth ≡ leading_thickness l.slabs l.slab-index;
  from : pos 0 ≤ℤ l.depth;
  to : l.depth ≤ℤ pos (l.slab-index * 10000000);
  not_before : (k : ℕ) → k < l.slab-index → l.low <ℤ leading_thickness l.slabs k → leading_thickness l.slabs k <ℤ l.high → ⊥;
}
