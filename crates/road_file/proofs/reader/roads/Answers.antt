use Rattle.std.proofs.Common.{◌≡◌, ◌∙◌, ap, arith}
use Rattle.road_file.specs.Names.{pit_number}
use Rattle.road_file.specs.RoadOf.{access_to, access_from}
use Rattle.road_file.proofs.ItemsLemmas.{map_more}
use Rattle.road_file.proofs.reader.roads.Goals as goal

pub loop-road-preserved : goal.loop-road-preserved
loop-road-preserved c =
    let pits = c.args.pits.now in
    let road = c.road-item.result in
    let number : c.pit_number-pit.result ≡ pit_number road.pit pits = rw (← c.as_str.ensures) (c.pit_number-pit.ensures ∙ c.in_ok-numbers.ensures c.as_str.result.now) in
    rw c.in-Ok.ensures.items (map_more (access_from pits) c.args.roads.now c.loop-road.built.items c.loop-road.road-index road c.access.result (omega arith) c.road-item.is c.loop-road.invariant
    (c.access.ensures ∙ ap (λ n. access_to n road) number))
