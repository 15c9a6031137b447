-- The tree while it grows, as plain data: what holds of each node, which keys and notes it has, and the tree that it becomes.
use Rattle.std.specs.Prelude.{◌≡◌, ℕ, ◌+◌, ◌-◌, nat_lt, int_le, Bool, true, false, if◌then◌else◌, List, [], ◌∷◌, ◌++◌, Option, Some, None, ℤ, pos, ◌*ℤ◌, ◌^◌, ◌≤◌, ◌⊎◌, ◌<ℤ◌, unsigned_abs}
use Rattle.algebra.specs.Scale.{IsScale}
use Rattle.numbers.specs.Fractions.{Fraction}
use Rattle.programs.specs.Programs.{Program}
use Rattle.road_types.specs.declared.road.Road.{Road}
use Rattle.milp_builder.specs.BoxPrograms.{box_program}
use Rattle.milp_builder.specs.Parts.{IsSplitOf, first_part, second_part}
use Rattle.milp_builder.specs.declared.boxes.BoxRange.{BoxRange}
use Rattle.milp_builder.specs.declared.boxes.Split.{Split}
use Rattle.cert_tree.specs.Soundness.{box_value, AreSound, IsSoundDead, IsAtLeastBound}
use Rattle.cert_tree.specs.declared.tree.Why.{Why}
use Rattle.cert_tree.specs.declared.tree.Why.TheVariants.{Nodes as ForNodes, Pivots as ForPivots, Width as ForWidth}
use Rattle.best_first.specs.Keys.{IsKey}
use Rattle.best_first.specs.KeyTrees.{KeyTree, ended, open_leaf, parted}
use Rattle.tableau.specs.Tableaux.{Tableau}
use Rattle.tableau.specs.OwnNumbers.{scale_of, multipliers_of}
use Rattle.simplex.specs.Ends.{IsOptimum}
use Rattle.branch_bound.specs.Optima.{exchange_budget, AsksFor}
use Rattle.branch_bound.specs.Stops.{IsStop}
use Rattle.branch_bound.specs.NoteKeys.{IsNarrowKey, IsKeyOf}
use Rattle.branch_bound.specs.Noted.{Noted, low_with, dead_with, fork_with, IsShownStop, IsShownSplit}
use Rattle.branch_bound.specs.declared.notes.NodeNote.{NodeNote}
use Rattle.branch_bound.specs.declared.notes.NodeNote.TheVariants.{Fractional, Closed, Dead as DeadNote, Pivots, Nodes}
use Rattle.branch_bound.specs.declared.work.Work.{Work}
use Rattle.branch_bound.specs.declared.work.Work.TheOpen.{Work-F}
use Rattle.branch_bound.specs.declared.work.Work.TheFolds.{fold-Work}
use Rattle.branch_bound.specs.declared.work.Proved.{Proved}
use Rattle.branch_bound.specs.declared.work.Optimum.{Optimum}
use Rattle.branch_bound.specs.declared.work.Waiting.{Waiting}
use Rattle.branch_bound.specs.declared.work.Reason.{Reason}
use Rattle.branch_bound.specs.declared.work.Reason.TheVariants.{Asked, Stop}

pub data Grown : Type 0 where
  dead_leaf : List (ℕ × ℤ) → Grown
  whole_leaf : Proved → Grown
  stopped_leaf : Proved → NodeNote → Grown
  waiting_leaf : Waiting → Grown
  grown_fork : Split → NodeNote → ℤ × ℤ → Grown → Grown → Grown

-- one node, with what its children are in their places
abbrev pub node_grown : Work-F Grown → Grown
node_grown (Work-F.Dead mults) = dead_leaf mults
node_grown (Work-F.Whole proved) = whole_leaf proved
node_grown (Work-F.Stopped proved note) = stopped_leaf proved note
node_grown (Work-F.Waiting leaf) = waiting_leaf leaf
node_grown (Work-F.Parted split note key first second) = grown_fork split note key first second

abbrev pub grown_of : Work → Grown
grown_of = fold-Work Grown node_grown

-- the number of nodes
abbrev pub node_total : Grown → ℕ
node_total (grown_fork split note key first second) = 1 + node_total first + node_total second
node_total leaf = 1

-- the key of what is proved
abbrev pub proved_key : Proved → ℤ × ℤ
proved_key proved = (proved.value, proved.scale)

-- the keys of splits and waiting leaves
abbrev pub keys_of : Grown → KeyTree
keys_of (waiting_leaf leaf) = open_leaf (proved_key leaf.proved)
keys_of (grown_fork split note key first second) = parted key (keys_of first) (keys_of second)
keys_of leaf = ended

-- the note of a split for which an optimum asks, and that of a leaf left open for want of nodes
abbrev pub fractional_note : Optimum → NodeNote
fractional_note o = Fractional o.trail o.den o.point o.scale o.mults

abbrev pub nodes_note : Optimum → NodeNote
nodes_note o = Nodes o.trail o.den o.point o.scale o.mults

-- the note of a leaf's split, by the reason for which it waits
abbrev pub split_note : Reason → NodeNote
split_note (Asked o) = fractional_note o
split_note (Stop note) = note

-- the note of a leaf that is left open, by the reason for which it waits
abbrev pub left_note : Reason → NodeNote
left_note (Asked o) = nodes_note o
left_note (Stop note) = note

-- scale, multipliers and value belong to the box
pub record IsProvedOfBox (road : Road) (box : BoxRange) (proved : Proved) : Type 0 where
  pub scale_within : IsScale proved.scale
  pub mults_sound : AreSound road box proved.mults
  pub value_is : proved.value ≡ box_value road box proved.scale proved.mults
  pub value_within : unsigned_abs proved.value ≤ 2 ^ 86

-- the program's optimum asks for the split, and the key is the optimum's
pub record IsAskedReason (road : Road) (program : Program) (split : Split) (key : ℤ × ℤ) (o : Optimum) : Type 0 where
  pub optimum : IsOptimum program (exchange_budget road) o.trail o.den o.point o.scale o.mults
  pub asks : AsksFor road o.den o.point split
  pub narrow_key : IsNarrowKey program o.scale o.mults key

-- the simplex stopped at a tableau as the note says, and the key is that of the tableau
pub record IsStopReason (road : Road) (cost : Option Fraction) (program : Program) (key : ℤ × ℤ) (note : NodeNote) : Type 0 where
  pub tableau : Tableau
  pub stop : IsStop road cost program note tableau
  pub narrow_key : IsNarrowKey program (scale_of tableau) (multipliers_of tableau) key

-- why a leaf waits to be split so: its optimum asks for the split, or its simplex stopped
abbrev pub IsReason : Road → Option Fraction → Program → Split → ℤ × ℤ → Reason → Type 0
IsReason road cost program split key (Asked o) = IsAskedReason road program split key o
IsReason road cost program split key (Stop note) = IsStopReason road cost program key note

-- the leaf is of this box, its split can be made, its reason is as it says, and what is proved is the reason's key
pub record IsWaiting (road : Road) (cost : Option Fraction) (box : BoxRange) (leaf : Waiting) : Type 0 where
  pub range : leaf.range ≡ box
  pub splits : IsSplitOf road box leaf.split
  pub reason : IsReason road cost (box_program road box) leaf.split (proved_key leaf.proved) leaf.reason
  pub own_bound : IsProvedOfBox road box leaf.proved

-- each node is what it says, where the best plan has this cost, or there is none
abbrev pub IsGoodNode : Road → Option Fraction → Grown → BoxRange → Type 0
IsGoodNode road cost (dead_leaf mults) box = IsSoundDead road box mults
IsGoodNode road cost (whole_leaf proved) box = IsProvedOfBox road box proved × IsAtLeastBound proved.value proved.scale cost
IsGoodNode road cost (stopped_leaf proved note) box = IsProvedOfBox road box proved × IsShownStop road cost (box_program road box) note (proved_key proved)
IsGoodNode road cost (waiting_leaf leaf) box = IsWaiting road cost box leaf
IsGoodNode road cost (grown_fork split note key first second) box =
    IsSplitOf road box split
    × IsShownSplit road cost (box_program road box) split note
    × IsKeyOf (box_program road box) note key
    × IsGoodNode road cost first (first_part box split)
    × IsGoodNode road cost second (second_part box split)

-- what is proved of each leaf is a key
abbrev pub AreKeys : Grown → Type 0
AreKeys (dead_leaf mults) = Unit {0}
AreKeys (whole_leaf proved) = IsKey (proved_key proved)
AreKeys (stopped_leaf proved note) = IsKey (proved_key proved)
AreKeys (waiting_leaf leaf) = IsKey (proved_key leaf.proved)
AreKeys (grown_fork split note key first second) = AreKeys first × AreKeys second

-- the keys of the leaves that aren't dead, in preorder
abbrev pub low_keys : Grown → List (ℤ × ℤ)
low_keys (dead_leaf mults) = []
low_keys (whole_leaf proved) = proved_key proved ∷ []
low_keys (stopped_leaf proved note) = proved_key proved ∷ []
low_keys (waiting_leaf leaf) = proved_key leaf.proved ∷ []
low_keys (grown_fork split note key first second) = low_keys first ++ low_keys second

-- numerator and denominator of a cost are those of a key
abbrev pub IsCostKey : Option Fraction → Type 0
IsCostKey None = Unit {0}
IsCostKey (Some cost) = IsKey (cost.num, cost.den)

-- value over scale is at least the cost; without a plan nothing is
abbrev pub reaches : Option Fraction → Proved → Bool
reaches None proved = false
reaches (Some cost) proved = int_le (cost.num *ℤ proved.scale) (proved.value *ℤ cost.den)

-- the cause of a stop
abbrev pub cause_of : NodeNote → Why
cause_of (Pivots trail) = ForPivots
cause_of note = ForWidth

-- the cause of a leaf that is left open, by the reason for which it waits
abbrev pub left_cause : Reason → Why
left_cause (Asked o) = ForNodes
left_cause (Stop note) = cause_of note

-- a leaf that is closed where its bound reaches the cost, and else left open
abbrev pub closed_or : Option Fraction → Proved → Why → NodeNote → Noted
closed_or cost proved cause note =
    if reaches cost proved then low_with proved.scale proved.mults None Closed else low_with proved.scale proved.mults (Some cause) note

-- the tree with its notes at the end
abbrev pub noted_of : Option Fraction → Grown → Noted
noted_of cost (dead_leaf mults) = dead_with mults DeadNote
noted_of cost (whole_leaf proved) = low_with proved.scale proved.mults None Closed
noted_of cost (stopped_leaf proved note) = closed_or cost proved (cause_of note) note
noted_of cost (waiting_leaf leaf) = closed_or cost leaf.proved (left_cause leaf.reason) (left_note leaf.reason)
noted_of cost (grown_fork split note key first second) = fork_with split note (noted_of cost first) (noted_of cost second)

-- the waiting leaves, in preorder: how many, and the one with a number counted from 0
abbrev pub waiting_count : Grown → ℕ
waiting_count (waiting_leaf leaf) = 1
waiting_count (grown_fork split note key first second) = waiting_count first + waiting_count second
waiting_count leaf = 0

abbrev pub waiting_at : Grown → ℕ → Option Waiting
waiting_at (waiting_leaf leaf) at = Some leaf
waiting_at (grown_fork split note key first second) at =
    if nat_lt at (waiting_count first) then waiting_at first at else waiting_at second (at - waiting_count first)
waiting_at leaf at = None

-- the tree with that leaf split into two others
abbrev pub parted_at : Grown → ℕ → Grown → Grown → Grown
parted_at (waiting_leaf leaf) at one two =
    grown_fork leaf.split (split_note leaf.reason) (proved_key leaf.proved) one two
parted_at (grown_fork split note key first second) at one two =
    if nat_lt at (waiting_count first)
    then grown_fork split note key (parted_at first at one two) second
    else grown_fork split note key first (parted_at second (at - waiting_count first) one two)
parted_at leaf at one two = leaf

-- a leaf of the tree
abbrev pub IsGrownLeaf : Grown → Type 0
IsGrownLeaf (grown_fork split note key first second) = ⊥
IsGrownLeaf leaf = Unit {0}

-- every waiting leaf is closed at the end
abbrev pub AllReach : Option Fraction → Grown → Type 0
AllReach cost (waiting_leaf leaf) = reaches cost leaf.proved ≡ true
AllReach cost (grown_fork split note key first second) = AllReach cost first × AllReach cost second
AllReach cost leaf = Unit {0}

-- the nodes for another split are spent, or every waiting leaf is closed
abbrev pub IsFinished : Road → Option Fraction → ℕ → Grown → Type 0
IsFinished road cost count grown = (road.nodes <ℤ pos (count + 2)) ⊎ AllReach cost grown
