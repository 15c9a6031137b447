-- What it means that values of kinds show a plan: four facts, on its pieces, offsets, amounts and openings. The laws that plans
-- are points and that points are plans meet here: one proves these facts of the point of a plan, the other of the plan of a point.
use Rattle.std.specs.Prelude.{◌≡◌, ℕ, ◌≤◌, nat_le, if◌then◌else◌, ℤ, pos}
use Rattle.road_types.specs.Numbered.{IsNumber}
use Rattle.road_types.specs.Road.{section_count, block_count}
use Rattle.road_types.specs.declared.road.Road.{Road}
use Rattle.road_types.specs.declared.column.Column.{Column}
use Rattle.road_types.specs.declared.column.Column.TheVariants.{A, B, C, Offset, Cut, Fill, Right, Left, Access, Opened}
use Rattle.plan_rules.specs.declared.plan.Plan.{Plan}
use Rattle.plan_rules.specs.Plans.{piece_of, amount, opening}
use Rattle.plan_rules.specs.Rules.{offset_of}

-- the three numbers of each segment
pub record ShowsPieces (plan : Plan) (f : Column → ℤ) : Type 0 where
  pub a : (g : ℕ) → f (A g) ≡ (piece_of plan g).a
  pub b : (g : ℕ) → f (B g) ≡ (piece_of plan g).b
  pub c : (g : ℕ) → f (C g) ≡ (piece_of plan g).c

-- the offset at each section
pub record ShowsOffsets (road : Road) (plan : Plan) (f : Column → ℤ) : Type 0 where
  pub each : (i : ℕ) → IsNumber i (section_count road) → f (Offset i) ≡ offset_of road plan i

-- every amount, and 0 where there is none
pub record ShowsAmounts (plan : Plan) (f : Column → ℤ) : Type 0 where
  pub cut : (i t : ℕ) → f (Cut i t) ≡ amount plan.cut t i
  pub fill : (i t : ℕ) → f (Fill i t) ≡ amount plan.fill t i
  pub right : (h t : ℕ) → f (Right h t) ≡ amount plan.right t h
  pub left : (h t : ℕ) → f (Left h t) ≡ amount plan.left t h
  pub access : (q t : ℕ) → f (Access q t) ≡ amount plan.roads t q

-- the denominator where a block is opened by a stage, and else 0
abbrev pub opened_by : Plan → ℕ → ℕ → ℤ
opened_by plan k t = if nat_le (opening plan k) t then plan.den else pos 0

pub record ShowsOpenings (road : Road) (plan : Plan) (f : Column → ℤ) : Type 0 where
  pub each : (k t : ℕ) → IsNumber k (block_count road) → t ≤ road.stages → f (Opened k t) ≡ opened_by plan k t
