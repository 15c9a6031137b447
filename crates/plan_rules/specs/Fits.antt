-- Which plans of a road are of a moderate size: a denominator within the greatest scale, numbers of at most 30 digits.
use Rattle.std.specs.Prelude.{ℕ, ◌^◌, ◌<◌, ℤ, unsigned_abs}
use Rattle.algebra.specs.Scale.{IsScale}
use Rattle.road_types.specs.declared.road.Road.{Road}
use Rattle.plan_rules.specs.declared.plan.Piece.{Piece}
use Rattle.plan_rules.specs.declared.plan.Plan.{Plan}
use Rattle.plan_rules.specs.Plans.{IsPlanOf, piece_of, amount}

-- a number of at most 30 digits
abbrev pub IsModerate : ℤ → Type 0
IsModerate x = unsigned_abs x < 10 ^ 30

pub record IsModeratePiece (p : Piece) : Type 0 where
  pub a : IsModerate p.a
  pub b : IsModerate p.b
  pub c : IsModerate p.c

-- a plan of the road whose denominator is at most the greatest scale and whose numbers have at most 30 digits
pub record Fits (road : Road) (plan : Plan) : Type 0 where
  pub is_plan : IsPlanOf road plan
  pub den : IsScale plan.den
  pub pieces : (g : ℕ) → IsModeratePiece (piece_of plan g)
  pub cut : (t i : ℕ) → IsModerate (amount plan.cut t i)
  pub fill : (t i : ℕ) → IsModerate (amount plan.fill t i)
  pub right : (t h : ℕ) → IsModerate (amount plan.right t h)
  pub left : (t h : ℕ) → IsModerate (amount plan.left t h)
  pub roads : (t q : ℕ) → IsModerate (amount plan.roads t q)
