-- The road of a file by the steps of its definition.
use Rattle.std.proofs.Common.{◌≡◌, ℕ, List, Option, Ok}
use Rattle.road_types.specs.Faults.{road_fault}
use Rattle.road_types.specs.declared.road.Road.{Road}
use Rattle.road_file.specs.declared.file.RoadFile.{RoadFile}
use Rattle.road_file.specs.RoadOf.{contents_of, completed, road_from, of_fault, road_of}

pub road_due : (bytes : List ℕ) (csv : Option (List ℕ)) (file whole : RoadFile) (road : Road) → contents_of bytes ≡ Ok file → completed file csv ≡ Ok whole → road ≡ road_from whole
    → road_of bytes csv ≡ of_fault road (road_fault road)
unfolding road_of
road_due bytes csv file whole road said filled built = rw (said, filled, built)
