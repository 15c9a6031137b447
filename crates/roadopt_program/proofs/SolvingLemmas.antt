-- What a search finds has few nodes.
use Rattle.std.proofs.Common.{◌≡◌, ◌^◌, ◌≤◌, None, arith}
use Rattle.std.proofs.lemmas.Int.{ints}
use Rattle.road_types.specs.declared.road.Road.{Road}
use Rattle.road_types.specs.Faults.{road_fault}
use Rattle.road_types.proofs.AcceptedRoad.{IsAccepted-from_fault}
use Rattle.cert_tree.specs.Trees.{box_tree_of, node_count}
use Rattle.branch_bound.specs.Found.{IsFound}
use Rattle.branch_bound.specs.declared.finding.Found.{Found}

pub few_nodes : (road : Road) (found : Found) → road_fault road ≡ None → IsFound road found → node_count (box_tree_of found.cert.tree) ≤ 2 ^ 63
few_nodes road found accepted f =
    let counted = f.searched.counted in
    let within = f.searched.within_budget in
    let most = (IsAccepted-from_fault road accepted).well_formed.nodes.at_most in
    omega (arith, ints, counted, within, most)
