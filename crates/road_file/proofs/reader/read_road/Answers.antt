use Rattle.std.proofs.Common.{◌≡◌, Option, List, ℕ, option_map, Ok, rules}
use Rattle.road_file.specs.RoadOf.{contents_of, completed, road_from}
use Rattle.road_file.proofs.RoadLemmas.{road_due}
use Rattle.road_file.proofs.reader.read_road.Goals as goal

pub returns-clause-answers : goal.returns-clause-answers
unfolding road_from
returns-clause-answers c =
    let csv : Option (List ℕ) = option_map (λ bytes. bytes.now) c.args.csv in
    let file = c.in_ok-file.file in
    let whole = c.in_ok-file-2.file in
    let said : contents_of c.args.bytes.now ≡ Ok file = search rules in
    let filled : completed file csv ≡ Ok whole = search rules in
    let built : c.in_ok-road.field-0 ≡ road_from whole = search rules in
    rw (road_due c.args.bytes.now csv file whole c.in_ok-road.field-0 said filled built) c.accepted.ensures.answers
