-- The point of a plan: the plan's numbers, one for each column of the road's program, over the plan's denominator.
use Rattle.std.specs.Prelude.{nat_le, if◌then◌else◌, List, map, ℤ, pos}
use Rattle.road_types.specs.Columns.{columns_of}
use Rattle.road_types.specs.declared.road.Road.{Road}
use Rattle.road_types.specs.declared.column.Column.{Column}
use Rattle.road_types.specs.declared.column.Column.TheVariants.{A, B, C, Offset, Cut, Fill, Right, Left, Access, Opened}
use Rattle.plan_rules.specs.declared.plan.Plan.{Plan}
use Rattle.plan_rules.specs.Plans.{piece_of, amount, opening}
use Rattle.plan_rules.specs.Rules.{offset_of}

-- the plan's number in a column; a block that is opened by a stage counts as the denominator there, and else as 0
abbrev pub value_in : Road → Plan → Column → ℤ
value_in road plan (A g) = (piece_of plan g).a
value_in road plan (B g) = (piece_of plan g).b
value_in road plan (C g) = (piece_of plan g).c
value_in road plan (Offset i) = offset_of road plan i
value_in road plan (Cut i t) = amount plan.cut t i
value_in road plan (Fill i t) = amount plan.fill t i
value_in road plan (Right h t) = amount plan.right t h
value_in road plan (Left h t) = amount plan.left t h
value_in road plan (Access q t) = amount plan.roads t q
value_in road plan (Opened k t) = if nat_le (opening plan k) t then plan.den else pos 0

-- the plan's numbers in the order of the columns
abbrev pub point_of : Road → Plan → List ℤ
point_of road plan = map (value_in road plan) (columns_of road)
