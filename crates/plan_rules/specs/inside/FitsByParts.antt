-- What a plan of a road whose numbers are moderate has, in two parts: its pieces and openings, and its tables.
use Rattle.std.specs.Prelude.{◌≡◌, ℕ, ◌-◌, List, length, ℤ, pos}
use Rattle.algebra.specs.Scale.{IsScale}
use Rattle.road_types.specs.Numbered.{numbered}
use Rattle.road_types.specs.declared.road.Road.{Road}
use Rattle.road_types.specs.Road.{section_count, segment_count, access_count, block_count}
use Rattle.plan_rules.specs.declared.plan.Plan.{Plan}
use Rattle.plan_rules.specs.Plans.{IsTableOf, piece_of, amount}
use Rattle.plan_rules.specs.Fits.{IsModerate, IsModeratePiece}

pub record HasModeratePieces (road : Road) (plan : Plan) : Type 0 where
  pub den : IsScale plan.den
  pub pieces_count : length plan.pieces ≡ segment_count road
  pub pieces : (g : ℕ) → IsModeratePiece (piece_of plan g)
  pub opens : length plan.opens ≡ block_count road

-- so many moderate numbers
pub record IsModerateRow (entries : ℕ) (row : List ℤ) : Type 0 where
  pub length_is : length row ≡ entries
  pub moderate : (i : ℕ) → IsModerate (numbered (pos 0) row i)

-- so many stages of so many moderate numbers
pub record IsModerateTable (stages entries : ℕ) (rows : List (List ℤ)) : Type 0 where
  pub is_table : IsTableOf stages entries rows
  pub moderate : (t i : ℕ) → IsModerate (amount rows t i)

pub record HasModerateTables (road : Road) (plan : Plan) : Type 0 where
  pub cut : IsModerateTable road.stages (section_count road) plan.cut
  pub fill : IsModerateTable road.stages (section_count road) plan.fill
  pub right : IsModerateTable road.stages (section_count road - 1) plan.right
  pub left : IsModerateTable road.stages (section_count road - 1) plan.left
  pub roads : IsModerateTable road.stages (access_count road) plan.roads

-- every amount is moderate
pub record HasModerateAmounts (plan : Plan) : Type 0 where
  pub cut : (t i : ℕ) → IsModerate (amount plan.cut t i)
  pub fill : (t i : ℕ) → IsModerate (amount plan.fill t i)
  pub right : (t h : ℕ) → IsModerate (amount plan.right t h)
  pub left : (t h : ℕ) → IsModerate (amount plan.left t h)
  pub roads : (t q : ℕ) → IsModerate (amount plan.roads t q)
