-- What a plan of a road is, and its numbers by stage and by number, both from 1: pieces, amounts and openings; 0 where there is
-- none, so that a hop past an end carries nothing.
use Rattle.std.specs.Prelude.{◌≡◌, ℕ, ◌-◌, List, [], length, ℤ, pos, ◌≤ℤ◌}
use Rattle.road_types.specs.Numbered.{numbered, IsNumber}
use Rattle.road_types.specs.declared.road.Road.{Road}
use Rattle.road_types.specs.Road.{section_count, segment_count, access_count, block_count}
use Rattle.plan_rules.specs.declared.plan.Piece.{Piece}
use Rattle.plan_rules.specs.declared.plan.Plan.{Plan}

abbrev pub no_piece : Piece
no_piece = record { a = pos 0; b = pos 0; c = pos 0 }

-- the three numbers of segment g
abbrev pub piece_of : Plan → ℕ → Piece
piece_of plan g = numbered no_piece plan.pieces g

-- entry i of stage t
abbrev pub amount : List (List ℤ) → ℕ → ℕ → ℤ
amount stages t i = numbered (pos 0) (numbered [] stages t) i

-- the stage from which block k is open
abbrev pub opening : Plan → ℕ → ℕ
opening plan k = numbered 0 plan.opens k

-- so many stages of so many entries
pub record IsTableOf (stages entries : ℕ) (rows : List (List ℤ)) : Type 0 where
  pub length_is : length rows ≡ stages
  pub each_length : (t : ℕ) → IsNumber t stages → length (numbered [] rows t) ≡ entries

-- a plan of the road: a denominator of at least 1, and lists of the road's lengths
pub record IsPlanOf (road : Road) (plan : Plan) : Type 0 where
  pub den : pos 1 ≤ℤ plan.den
  pub pieces : length plan.pieces ≡ segment_count road
  pub cut : IsTableOf road.stages (section_count road) plan.cut
  pub fill : IsTableOf road.stages (section_count road) plan.fill
  pub right : IsTableOf road.stages (section_count road - 1) plan.right
  pub left : IsTableOf road.stages (section_count road - 1) plan.left
  pub roads : IsTableOf road.stages (access_count road) plan.roads
  pub opens : length plan.opens ≡ block_count road
