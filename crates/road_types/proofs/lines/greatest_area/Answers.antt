use Rattle.std.proofs.Common.{to_z, ◌≡◌, ℕ, ◌+◌, ◌<◌, ◌≤◌, List, length, map, get_or, drop, arith, sym, ◌∙◌, ap, FitsSigned, rules}
use Rattle.std.specs.Prelude.{ℤ, pos, fold}
use Rattle.std.specs.Int.{int_max, w64}
use Rattle.std.proofs.lemmas.Int.{ints, clamps, to_z-of_z}
use Rattle.std.proofs.lemmas.List.{at_drop_more, at_drop_all}
use Rattle.road_types.specs.declared.road.Slab.{Slab}
use Rattle.road_types.proofs.ListRests.{solid_at}
use Rattle.road_types.proofs.lines.greatest_area.Goals as goal

other : Slab
other = record { thick = pos 0; area = pos 0 }

greatest_more : (first : ℤ) (slabs : List Slab) (i : ℕ) → i < length slabs
    → fold int_max first (map (λ (slab : Slab). slab.area) (drop i slabs))
    ≡ fold int_max (int_max first (get_or slabs i other).area) (map (λ (slab : Slab). slab.area) (drop (i + 1) slabs))
greatest_more first slabs i l = at_drop_more (λ (xs : List Slab). fold int_max first (map (λ (slab : Slab). slab.area) xs)) slabs i other l

greatest_none : (first : ℤ) (slabs : List Slab) (i : ℕ) → length slabs ≤ i → fold int_max first (map (λ (slab : Slab). slab.area) (drop i slabs)) ≡ first
greatest_none first slabs i l = at_drop_all (λ (xs : List Slab). fold int_max first (map (λ (slab : Slab). slab.area) xs)) slabs i l

pub loop-slab-preserved : goal.loop-slab-preserved
unfolding other
loop-slab-preserved c =
    let slabs = c.args.slabs.now in
    let at = c.loop-slab.slab-index in
    let so_far = to_z w64 c.loop-slab.greatest-bits in
    let solid = solid_at slabs c.requires.slabs at other (omega arith) in
    let fits : FitsSigned w64 c.max-greatest.result = search rules in
    let area : FitsSigned w64 (get_or slabs at other).area = record { sfits = omega (arith, ints, solid.area.at_least, solid.area.at_most) } in
    let step : c.max-greatest.result ≡ int_max so_far (get_or slabs at other).area = simp to_z-of_z at c.max-greatest.ensures.value in
    let more = greatest_more so_far slabs at (omega arith) in
    let rest : ℤ → ℤ = λ first. fold int_max first (map (λ (slab : Slab). slab.area) (drop (at + 1) slabs)) in
    record {
      value = ap rest (to_z-of_z w64 c.max-greatest.result fits ∙ step) ∙ sym more ∙ c.loop-slab.invariant.value;
      from = simp to_z-of_z (omega (arith, ints, clamps, step, solid.area.at_least, c.loop-slab.invariant.from));
      to = simp to_z-of_z (omega (arith, ints, clamps, step, solid.area.at_most, c.loop-slab.invariant.to));
    }

pub returns-clause-value : goal.returns-clause-value
returns-clause-value c =
    let first = c.ranges.first in
    let none = greatest_none (to_z w64 c.loop-slab.greatest-bits) c.args.slabs.now c.loop-slab.slab-index (omega arith) in
    sym none ∙ simp to_z-of_z at c.loop-slab.invariant.value
