-- A road's budgets as counts.
use Rattle.std.proofs.Common.{ℕ, ◌≡◌, ◌≤◌, None, arith}
use Rattle.std.specs.Prelude.{pos, unsigned_abs, FitsSigned}
use Rattle.std.specs.Int.{w64}
use Rattle.std.proofs.lemmas.Int.{ints, fits_signed_from_abs}
use Rattle.road_types.specs.Faults.{road_fault}
use Rattle.road_types.specs.WellFormed.{IsBetween}
use Rattle.road_types.proofs.AcceptedRoad.{IsAccepted-from_fault}
use Rattle.road_types.specs.declared.road.Road.{Road}

nodes_between : (road : Road) → road_fault road ≡ None → IsBetween (pos 1) (pos 4999) road.nodes
nodes_between road h = (IsAccepted-from_fault road h).well_formed.nodes

pub nodes_fit : (road : Road) → road_fault road ≡ None → FitsSigned w64 road.nodes
nodes_fit road h = let b = nodes_between road h in fits_signed_from_abs w64 road.nodes (omega (arith, ints, b.at_least, b.at_most))

pub nodes_value : (road : Road) → road_fault road ≡ None → pos (unsigned_abs road.nodes) ≡ road.nodes
nodes_value road h = let b = nodes_between road h in omega (arith, ints, b.at_least, b.at_most)

pub nodes_few : (road : Road) → road_fault road ≡ None → unsigned_abs road.nodes ≤ 4999
nodes_few road h = let b = nodes_between road h in omega (arith, ints, b.at_least, b.at_most)

pub nodes_some : (road : Road) → road_fault road ≡ None → (most : ℕ) → pos most ≡ road.nodes → 1 ≤ most
nodes_some road h most e = let b = nodes_between road h in omega (arith, ints, e, b.at_least)

pivots_between : (road : Road) → road_fault road ≡ None → IsBetween (pos 1) (pos 20000) road.pivots
pivots_between road h = (IsAccepted-from_fault road h).well_formed.pivots

pub pivots_fit : (road : Road) → road_fault road ≡ None → FitsSigned w64 road.pivots
pivots_fit road h = let b = pivots_between road h in fits_signed_from_abs w64 road.pivots (omega (arith, ints, b.at_least, b.at_most))

pub pivots_few : (road : Road) → road_fault road ≡ None → unsigned_abs road.pivots ≤ 20000
pivots_few road h = let b = pivots_between road h in omega (arith, ints, b.at_least, b.at_most)

pub pivots_some : (road : Road) → road_fault road ≡ None → 1 ≤ unsigned_abs road.pivots
pivots_some road h = let b = pivots_between road h in omega (arith, ints, b.at_least, b.at_most)
