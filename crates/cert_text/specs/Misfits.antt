-- The forms that are due for the lines of a certificate, and the first line that isn't of the form due at its place: the line for which
-- a text is refused. Which form is due depends on the lines before: a leaf's line says how many multipliers follow it, each row behind
-- the one before, and a split is followed by two trees, which stand one level further on.
use Rattle.std.specs.Prelude.{ℕ, ◌≡◌, ◌+◌, zero, suc, List, [], ◌∷◌, Option, Some, None, if◌then◌else◌, codes}
use Rattle.text_parts.specs.Lines.{TextLine, Reading, lines_of}
use Rattle.road_types.specs.RoadPrograms.{row_count}
use Rattle.road_types.specs.declared.road.Road.{Road}
use Rattle.plan_text.specs.Misfits.{forms_due, misfit_or, nothing}
use Rattle.cert_text.specs.declared.head.Head.{Head}
use Rattle.cert_text.specs.declared.head.Head.TheVariants.{Low, Dead, Parted}
use Rattle.cert_text.specs.NodeText.{most_levels}
use Rattle.cert_text.specs.WordForms.{WordForm, line_value, is_next, head_form, mult_form}
use Rattle.cert_text.specs.StatedForms.{keyword_form, cost_form, bound_form}

-- the number of the first of these lines, behind so many, that isn't of the form due at its place
abbrev pub Misfit : Type 0
Misfit = ℕ → List TextLine → Option ℕ

-- what is due behind a line that has this number, if it has a value; else the line is the first misfit
abbrev pub value_or : {A : Type 0} → Option A → (A → Misfit) → Misfit
value_or None behind number lines = Some number
value_or (Some value) behind number lines = behind value number lines

-- a line of this form is due, and behind it what its value says; where no line is left the missing one is the first misfit
abbrev pub line_or : {A : Type 0} → WordForm A → (A → Misfit) → Misfit
line_or form behind number [] = Some (number + 1)
line_or form behind number (line ∷ lines) = value_or (line_value form line) behind (number + 1) lines

-- so many multipliers of rows behind one are due
abbrev pub mults_or : ℕ → ℕ → ℕ → Misfit → Misfit
mults_or rows before zero behind = behind
mults_or rows before (suc count) behind = line_or (mult_form rows before) (λ mult. mults_or rows mult.0 count behind)

-- what is due behind the first line of a node, a part of a split being due so
abbrev pub node_or : ℕ → (Misfit → Misfit) → Misfit → Head → Misfit
node_or rows part behind (Low scale cause count) = mults_or rows 0 count behind
node_or rows part behind (Dead count) = mults_or rows 0 count behind
node_or rows part behind (Parted split) = part (part behind)

-- a tree on so many levels is due; where no level is left its first line is the first misfit
abbrev pub tree_or : ℕ → ℕ → Misfit → Misfit
tree_or rows zero behind number lines = Some (number + 1)
tree_or rows (suc levels) behind number lines =
    line_or (head_form rows) (node_or rows (tree_or rows levels) behind) number lines

-- trees on these levels are due, one after another
abbrev pub trees_or : ℕ → List ℕ → Misfit → Misfit
trees_or rows [] behind = behind
trees_or rows (level ∷ levels) behind = tree_or rows level (trees_or rows levels behind)

-- the first line that isn't of the form due where trees on these levels are, whatever is due behind them
abbrev pub IsMisfitOfTrees : ℕ → List ℕ → Reading → ℕ → Type 0
IsMisfitOfTrees rows levels lines line = (behind : Misfit) → trees_or rows levels behind lines.number lines.left ≡ Some line

-- a plan with its cost is due, or that there is no plan
abbrev pub planned_or : Road → Misfit → Misfit
planned_or road behind number lines =
    if is_next (keyword_form (codes "unplanned")) lines then line_or (keyword_form (codes "unplanned")) (λ unplanned. behind) number lines
    else misfit_or (forms_due road) (line_or cost_form (λ cost. behind)) number lines

-- the first line of the bytes that isn't of the form due, or stands behind a whole text
unfoldable pub refused_line : Road → List ℕ → Option ℕ
refused_line road bytes =
    line_or (keyword_form (codes "certificate")) (λ start.
    planned_or road (line_or bound_form (λ bound.
    tree_or (row_count road) most_levels (line_or (keyword_form (codes "end")) (λ last. nothing)))))
    0 (lines_of 0 bytes)
