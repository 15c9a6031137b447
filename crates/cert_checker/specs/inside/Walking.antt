-- Going through the nodes of trees that are due, one after another, with the boxes of those trees.
use Rattle.std.specs.Prelude.{ℕ, ◌≡◌, ◌+◌, ◌<◌, ◌⊎◌, Bool, true, false, ◌||◌, List, [], ◌∷◌, length, Option, Some, None, Result, Ok, Err, ℤ}
use Rattle.numbers.specs.Fractions.{Fraction}
use Rattle.text_parts.specs.Lines.{Reading}
use Rattle.plan_text.specs.inside.LineReading.{Read, ◌>>=◌, give}
use Rattle.plan_text.specs.declared.error.TextErr.{TextErr}
use Rattle.plan_text.specs.declared.error.TextErr.TheVariants.{Bad, NoMemory}
use Rattle.road_types.specs.declared.road.Road.{Road}
use Rattle.road_types.specs.RoadPrograms.{row_count}
use Rattle.milp_builder.specs.Boxes.{IsBoxOf, root_box}
use Rattle.milp_builder.specs.BoxPrograms.{box_program}
use Rattle.milp_builder.specs.Parts.{IsSplitOf, first_part, second_part}
use Rattle.milp_builder.specs.declared.boxes.BoxRange.{BoxRange}
use Rattle.milp_builder.specs.declared.boxes.Split.{Split}
use Rattle.cert_tree.specs.Trees.{BoxTree}
use Rattle.cert_text.specs.declared.step.Step.{Step}
use Rattle.cert_text.specs.declared.step.Step.TheVariants.{Low, Dead, Split as SplitStep, End}
use Rattle.cert_text.specs.NodeText.{Root, low_leaf, dead_leaf, split_at, most_levels}
use Rattle.cert_text.specs.inside.NodeReading.{tree_due}
use Rattle.cert_checker.specs.declared.refusal.CertRule.TheVariants.{C5}
use Rattle.cert_checker.specs.declared.refusal.Refusal.{Refusal}
use Rattle.cert_checker.specs.declared.walk.Walked.{Walked}
use Rattle.cert_tree.specs.Soundness.{has_low}
use Rattle.cert_checker.specs.Refusals.{line_count, refused, low_refusal, dead_refusal, IsTreeRefusal}

-- the trees that are due on these levels
abbrev pub forest_due : ℕ → List ℕ → Read (List BoxTree)
forest_due rows [] = give []
forest_due rows (level ∷ levels) = do
  tree ← tree_due rows level
  trees ← forest_due rows levels
  give (tree ∷ trees)

-- what is first refused in these trees on these boxes, behind what was found before; then boxes don't matter
abbrev pub FindsIn : Road → Option Fraction → List BoxTree → List BoxRange → ℕ → Option Refusal → Option Refusal → Type 0
FindsIn road bound trees boxes line (Some refusal) found = found ≡ Some refusal
FindsIn road bound [] boxes line None found = found ≡ None
FindsIn road bound (tree ∷ trees) [] line None found = ⊥
FindsIn road bound (tree ∷ trees) (box ∷ boxes) line None found =
    (sooner : Option Refusal) × (IsTreeRefusal road bound tree box line sooner × FindsIn road bound trees boxes (line + line_count tree) sooner found)

-- some leaf of these trees is low
abbrev pub has_low_in : List BoxTree → Bool
has_low_in [] = false
has_low_in (tree ∷ trees) = has_low tree || has_low_in trees

-- where one is in a tree: the boxes of the trees that are due, the next first, the first refusal so far, and whether a low leaf was seen
pub record Place : Type 0 where
  pub boxes : List BoxRange
  pub found : Option Refusal
  pub seen_low : Bool

-- as long as nothing is found, there is a box of the road for each tree that is due
abbrev pub AreBoxesDue : Road → List ℕ → List BoxRange → Type 0
AreBoxesDue road [] [] = Unit {0}
AreBoxesDue road (level ∷ levels) (box ∷ boxes) = IsBoxOf road box × AreBoxesDue road levels boxes
AreBoxesDue road _ _ = ⊥

abbrev pub HasBoxes : Road → List ℕ → Place → Type 0
HasBoxes road levels place = place.found ≡ None → AreBoxesDue road levels place.boxes

-- a node was a split: its box was replaced by its parts, or it doesn't fit
abbrev pub AtSplit : Road → Split → BoxRange → List BoxRange → ℕ → List BoxRange → Option Refusal → Type 0
AtSplit road split box others line boxes found =
    ((¬ IsSplitOf road box split) × (found ≡ refused C5 line))
    ⊎ (IsSplitOf road box split × ((found ≡ None) × (boxes ≡ first_part box split ∷ second_part box split ∷ others)))

-- what is found at a node on this line, and the boxes behind it
abbrev pub AtNode : Road → Option Fraction → Root → BoxRange → List BoxRange → ℕ → List BoxRange → Option Refusal → Type 0
AtNode road bound (low_leaf scale mults cause) box others line boxes found =
    (boxes ≡ others) × (found ≡ low_refusal (box_program road box) bound line scale mults)
AtNode road bound (dead_leaf mults) box others line boxes found =
    (boxes ≡ others) × (found ≡ dead_refusal (box_program road box) line mults)
AtNode road bound (split_at split) box others line boxes found = AtSplit road split box others line boxes found

-- the node's box is the first
abbrev pub AtFirst : Road → Option Fraction → Root → List BoxRange → ℕ → List BoxRange → Option Refusal → Type 0
AtFirst road bound root [] line boxes found = ⊥
AtFirst road bound root (box ∷ others) line boxes found = AtNode road bound root box others line boxes found

-- a node was passed: once something is found it stays so
abbrev pub PassesBy : Road → Option Fraction → Root → ℕ → List BoxRange → Option Refusal → List BoxRange → Option Refusal → Type 0
PassesBy road bound root line before (Some refusal) boxes found = found ≡ Some refusal
PassesBy road bound root line before None boxes found = AtFirst road bound root before line boxes found

abbrev pub is_low_leaf : Root → Bool
is_low_leaf (low_leaf scale mults cause) = true
is_low_leaf (dead_leaf mults) = false
is_low_leaf (split_at split) = false

pub record Passes (road : Road) (bound : Option Fraction) (root : Root) (line : ℕ) (before after : Place) : Type 0 where
  pub passes_by : PassesBy road bound root line before.boxes before.found after.boxes after.found
  pub low_is : after.seen_low ≡ (before.seen_low || is_low_leaf root)

-- the trees that are due are read to their ends, and this is what was found in them
pub record Ends (road : Road) (bound : Option Fraction) (rows : ℕ) (levels : List ℕ) (lines : Reading) (place : Place) (found : Option Refusal) (seen_low : Bool) (after : Reading) : Type 0 where
  pub trees : List BoxTree
  pub read : forest_due rows levels lines ≡ Ok (trees, after)
  pub finds : FindsIn road bound trees place.boxes (lines.number + 1) place.found found
  pub low_is : seen_low ≡ (place.seen_low || has_low_in trees)

-- what the rest of the trees comes to is what the whole comes to
pub record GoesOn (road : Road) (bound : Option Fraction) (rows : ℕ) (first : List ℕ) (start : Reading) (begun : Place) (levels : List ℕ) (lines : Reading) (place : Place) : Type 0 where
  pub ends : (found : Option Refusal) (seen_low : Bool) (after : Reading) → Ends road bound rows levels lines place found seen_low after
      → Ends road bound rows first start begun found seen_low after
  pub refused : (line : ℕ) → forest_due rows levels lines ≡ Err line → forest_due rows first start ≡ Err line

-- a tree on all its levels was read, and this is what was found in it on the road's root box
pub record IsWalked (road : Road) (bound : Option Fraction) (lines : Reading) (walked : Walked) (after : Reading) : Type 0 where
  pub tree : BoxTree
  pub read : tree_due (row_count road) most_levels lines ≡ Ok (tree, after)
  pub finds : IsTreeRefusal road bound tree (root_box road) (lines.number + 1) walked.found
  pub low_is : walked.has_low ≡ has_low tree

-- a tree was walked, or the line is told that isn't of its form
abbrev pub Walks : Road → Option Fraction → Reading → Result Walked TextErr → Reading → Type 0
Walks road bound lines (Ok walked) after = IsWalked road bound lines walked after
Walks road bound lines (Err (Bad line)) after = tree_due (row_count road) most_levels lines ≡ Err line
Walks road bound lines (Err NoMemory) after = Unit {0}

-- as long as nothing is found, a box of the road is the first
abbrev pub HasFirstBox : Road → Place → Type 0
HasFirstBox road place = place.found ≡ None → (box : BoxRange) × (others : List BoxRange) × (place.boxes ≡ box ∷ others) × IsBoxOf road box

-- the node of a step, a leaf's with the multipliers that were read
abbrev pub root_at : Step → List (ℕ × ℤ) → Root
root_at (Low scale cause) mults = low_leaf scale mults cause
root_at Dead mults = dead_leaf mults
root_at (SplitStep split) mults = split_at split
root_at End mults = dead_leaf mults

-- a node was passed
pub record IsPassed (road : Road) (bound : Option Fraction) (rows : ℕ) (levels : List ℕ) (lines : Reading) (place : Place) (levels_after : List ℕ) (after : Reading) (place_after : Place) : Type 0 where
  pub goes_on : GoesOn road bound rows levels lines place levels_after after place_after
  pub boxes : HasBoxes road levels_after place_after
  pub fewer : length after.left < length lines.left

-- no node was due, and nothing changes
pub record IsOver (levels : List ℕ) (lines : Reading) (place : Place) (after : Reading) (place_after : Place) : Type 0 where
  pub none_due : levels ≡ []
  pub lines_are : after ≡ lines
  pub place_is : place_after ≡ place

abbrev pub Turns : Road → Option Fraction → ℕ → List ℕ → Reading → Place → Result Bool TextErr → List ℕ → Reading → Place → Type 0
Turns road bound rows levels lines place (Ok true) levels_after after place_after =
    IsPassed road bound rows levels lines place levels_after after place_after
Turns road bound rows levels lines place (Ok false) levels_after after place_after = IsOver levels lines place after place_after
Turns road bound rows levels lines place (Err (Bad line)) levels_after after place_after = forest_due rows levels lines ≡ Err line
Turns road bound rows levels lines place (Err NoMemory) levels_after after place_after = Unit {0}
