-- Trees of boxes with a note at each node, and what it means that a note is shown: it can be done again from the node's box, and it is the
-- reason for which the node was closed, split or left open.
use Rattle.std.specs.Prelude.{◌≡◌, ℕ, ◌+◌, List, [], ◌∷◌, ◌++◌, Option, Some, None, ℤ, pos, ◌<ℤ◌}
use Rattle.numbers.specs.Fractions.{Fraction}
use Rattle.programs.specs.Programs.{Program}
use Rattle.road_types.specs.declared.road.Road.{Road}
use Rattle.milp_builder.specs.BoxPrograms.{box_program}
use Rattle.milp_builder.specs.Parts.{first_part, second_part}
use Rattle.milp_builder.specs.declared.boxes.BoxRange.{BoxRange}
use Rattle.milp_builder.specs.declared.boxes.Split.{Split}
use Rattle.cert_tree.specs.Trees.{BoxTree, low, dead, fork}
use Rattle.cert_tree.specs.Soundness.{box_value, IsAtLeastBound}
use Rattle.cert_tree.specs.declared.tree.Why.{Why}
use Rattle.cert_tree.specs.declared.tree.Why.TheVariants.{Nodes as ForNodes, Pivots as ForPivots, Width as ForWidth}
use Rattle.best_first.specs.KeyTrees.{KeyTree, ended, open_leaf, parted}
use Rattle.tableau.specs.Tableaux.{Tableau}
use Rattle.tableau.specs.OwnNumbers.{scale_of, multipliers_of}
use Rattle.simplex.specs.Ends.{IsOptimum}
use Rattle.branch_bound.specs.Optima.{exchange_budget, AsksFor, AsksForSplit}
use Rattle.branch_bound.specs.Stops.{IsStop}
use Rattle.branch_bound.specs.NoteKeys.{KeepsBound, IsKeyOf}
use Rattle.branch_bound.specs.declared.notes.NodeNote.{NodeNote}
use Rattle.branch_bound.specs.declared.notes.NodeNote.TheVariants.{Fractional, Closed, Dead, Pivots, Wide, Limit, Nodes}

-- a leaf, a dead leaf, or a split, with its note
pub data Noted : Type 0 where
  low_with : ℤ → List (ℕ × ℤ) → Option Why → NodeNote → Noted
  dead_with : List (ℕ × ℤ) → NodeNote → Noted
  fork_with : Split → NodeNote → Noted → Noted → Noted

-- the tree without its notes
abbrev pub tree_of : Noted → BoxTree
tree_of (low_with scale mults cause note) = low scale mults cause
tree_of (dead_with mults note) = dead mults
tree_of (fork_with split note first second) = fork split (tree_of first) (tree_of second)

-- the notes in preorder: a split's, then those of its first part, then those of its second
abbrev pub notes_of : Noted → List NodeNote
notes_of (low_with scale mults cause note) = note ∷ []
notes_of (dead_with mults note) = note ∷ []
notes_of (fork_with split note first second) = note ∷ (notes_of first ++ notes_of second)

-- the simplex stopped as the note says, and the bound is no less than what it had reached
abbrev pub IsShownStop : Road → Option Fraction → Program → NodeNote → ℤ × ℤ → Type 0
IsShownStop road cost program note bound =
    (t : Tableau) × (IsStop road cost program note t × KeepsBound program (scale_of t) (multipliers_of t) bound)

-- the note of a leaf with a bound, value over scale: it is closed, its bound reaching the cost of the plan; or open for want of nodes, its
-- optimum asking for a split for which no two nodes are left; or open since its simplex stopped. An open leaf keeps its note's bound
abbrev pub IsShownLow : Road → Option Fraction → ℕ → Program → ℤ × ℤ → Option Why → NodeNote → Type 0
IsShownLow road cost count program bound cause Closed = (cause ≡ None) × IsAtLeastBound bound.0 bound.1 cost
IsShownLow road cost count program bound cause (Nodes trail den point scale mults) =
    (cause ≡ Some ForNodes)
    × IsOptimum program (exchange_budget road) trail den point scale mults
    × AsksForSplit road den point
    × (road.nodes <ℤ pos (count + 2))
    × KeepsBound program scale mults bound
IsShownLow road cost count program bound cause (Pivots trail) = (cause ≡ Some ForPivots) × IsShownStop road cost program (Pivots trail) bound
IsShownLow road cost count program bound cause (Wide trail op) = (cause ≡ Some ForWidth) × IsShownStop road cost program (Wide trail op) bound
IsShownLow road cost count program bound cause (Limit trail number) = (cause ≡ Some ForWidth) × IsShownStop road cost program (Limit trail number) bound
IsShownLow road cost count program bound cause Dead = ⊥
IsShownLow road cost count program bound cause (Fractional trail den point scale mults) = ⊥

-- the note of a split: an optimum that asks for it, or a stop of the simplex; a closed or dead leaf's note and that of a leaf left open for
-- want of nodes are no stop
abbrev pub IsShownSplit : Road → Option Fraction → Program → Split → NodeNote → Type 0
IsShownSplit road cost program split (Fractional trail den point scale mults) =
    IsOptimum program (exchange_budget road) trail den point scale mults × AsksFor road den point split
IsShownSplit road cost program split note = (t : Tableau) × IsStop road cost program note t

-- every node shows its note, in a certificate with a plan of this cost, or without one, whose tree has so many nodes
abbrev pub AreShown : Road → Option Fraction → ℕ → Noted → BoxRange → Type 0
AreShown road cost count (low_with scale mults cause note) box =
    IsShownLow road cost count (box_program road box) (box_value road box scale mults, scale) cause note
AreShown road cost count (dead_with mults note) box = note ≡ Dead
AreShown road cost count (fork_with split note first second) box =
    IsShownSplit road cost (box_program road box) split note
    × AreShown road cost count first (first_part box split)
    × AreShown road cost count second (second_part box split)

-- the keys of the splits and of the leaves that were left open for want of nodes: by the leaf's cause, which is that of its note where the
-- notes are shown
abbrev pub HaveKeys : Road → Noted → BoxRange → KeyTree → Type 0
HaveKeys road (low_with scale mults (Some ForNodes) note) box keys =
    (key : ℤ × ℤ) × (IsKeyOf (box_program road box) note key × (keys ≡ open_leaf key))
HaveKeys road (low_with scale mults cause note) box keys = keys ≡ ended
HaveKeys road (dead_with mults note) box keys = keys ≡ ended
HaveKeys road (fork_with split note first second) box (parted key x y) =
    IsKeyOf (box_program road box) note key
    × HaveKeys road first (first_part box split) x
    × HaveKeys road second (second_part box split) y
HaveKeys road (fork_with split note first second) box keys = ⊥
