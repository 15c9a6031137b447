-- Reading a certificate line by line.
use Rattle.std.specs.Prelude.{ℕ, ◌+◌, List, [], ◌∷◌, Option, Some, None, if◌then◌else◌, codes, Result, Ok, Err}
use Rattle.text_parts.specs.Lines.{TextLine, Reading}
use Rattle.road_types.specs.RoadPrograms.{row_count}
use Rattle.road_types.specs.declared.road.Road.{Road}
use Rattle.plan_text.specs.inside.LineReading.{Read, ◌>>=◌, give}
use Rattle.plan_text.specs.inside.PlanReading.{plan_due, start_of}
use Rattle.cert_tree.specs.Trees.{BoxTree}
use Rattle.cert_text.specs.NodeText.{most_levels}
use Rattle.cert_text.specs.declared.heading.PricedPlan.{PricedPlan}
use Rattle.cert_text.specs.declared.heading.Heading.{Heading}
use Rattle.cert_text.specs.CertText.{Certificate}
use Rattle.cert_text.specs.WordForms.{is_next}
use Rattle.cert_text.specs.StatedForms.{keyword_form, cost_form, bound_form}
use Rattle.cert_text.specs.inside.NodeReading.{line_due, tree_due}

-- a plan and its cost
unfoldable pub priced_due : Road → Read PricedPlan
priced_due road = do
  plan ← plan_due road
  cost ← line_due cost_form
  give (record { plan = plan; cost = cost })

-- no plan
abbrev pub unplanned_due : Read (Option PricedPlan)
unplanned_due = do
  nothing ← line_due (keyword_form (codes "unplanned"))
  give None

abbrev pub planned_with : Road → Read (Option PricedPlan)
planned_with road = do
  priced ← priced_due road
  give (Some priced)

-- no plan where the next line says so, else a plan and its cost
unfoldable pub planned_due : Road → Read (Option PricedPlan)
planned_due road lines = if is_next (keyword_form (codes "unplanned")) lines.left then unplanned_due lines else planned_with road lines

-- what stands before the tree
unfoldable pub heading_due : Road → Read Heading
heading_due road = do
  start ← line_due (keyword_form (codes "certificate"))
  planned ← planned_due road
  bound ← line_due bound_form
  give (record { planned = planned; bound = bound })

-- the tree and the last line
unfoldable pub tree_end_due : Road → Read BoxTree
tree_end_due road = do
  tree ← tree_due (row_count road) most_levels
  last ← line_due (keyword_form (codes "end"))
  give tree

unfoldable pub cert_due : Road → Read Certificate
cert_due road = do
  heading ← heading_due road
  tree ← tree_end_due road
  give (record { planned = heading.planned; bound = heading.bound; tree = tree })

-- a value, where no line is left behind it, else the number of the first of these
abbrev pub value_with_nothing_left : {A : Type 0} → A → ℕ → List TextLine → Result A ℕ
value_with_nothing_left value number [] = Ok value
value_with_nothing_left value number (line ∷ lines) = Err (number + 1)

abbrev pub whole_value : {A : Type 0} → Result (A × Reading) ℕ → Result A ℕ
whole_value (Err line) = Err line
whole_value (Ok read) = value_with_nothing_left read.0 read.1.number read.1.left

-- the certificate whose text the bytes are, or the number of the line that is refused
unfoldable pub cert_of_text : Road → List ℕ → Result Certificate ℕ
cert_of_text road bytes = whole_value (cert_due road (start_of bytes))
