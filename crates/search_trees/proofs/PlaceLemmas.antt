-- A tree in whose place of a leaf another one stands.
use Rattle.std.proofs.Common.{◌≡◌, ℕ, ◌+◌, ◌-◌, ◌==◌, Bool, true, false, if◌then◌else◌, arith}
use Rattle.std.proofs.lemmas.Bool.{false≢true}
use Rattle.std.specs.Prelude.{nat_le}
use Rattle.road_types.specs.declared.road.Road.{Road}
use Rattle.milp_builder.specs.Parts.{first_part, second_part}
use Rattle.milp_builder.specs.declared.boxes.BoxRange.{BoxRange}
use Rattle.cert_tree.specs.Trees.{BoxTree, low, dead, fork, node_count, IsWithinWidths}
use Rattle.cert_tree.specs.Soundness.{SplitsFit}
use Rattle.search_trees.specs.Places.{is_leaf_at, box_at, with_tree_at}

-- what holds of both choices holds of the chosen ones
one_of : (P : BoxTree → Type 0) (b : Bool) (t u : BoxTree) → P t → P u → P (if b then t else u)
one_of P true t u p q = p
one_of P false t u p q = q

both_of : (P : Bool → BoxTree → Type 0) (b : Bool) (l m : Bool) (t u : BoxTree) → P l t → P m u → P (if b then l else m) (if b then t else u)
both_of P true l m t u p q = p
both_of P false l m t u p q = q

all_of : (P : Bool → BoxRange → BoxTree → Type 0) (b : Bool) (l m : Bool) (x y : BoxRange) (t u : BoxTree) → P l x t → P m y u
    → P (if b then l else m) (if b then x else y) (if b then t else u)
all_of P true l m x y t u p q = p
all_of P false l m x y t u p q = q

-- the other tree's nodes are counted in place of the leaf
pub node_count-with : (tree : BoxTree) (place : ℕ) (other : BoxTree) → is_leaf_at tree place ≡ true → node_count (with_tree_at tree place other) + 1 ≡ node_count tree + node_count other
node_count-with (low scale mults cause) place other h = omega arith
node_count-with (dead mults) place other h = omega arith
node_count-with (fork split first second) place other h =
    let total = node_count (fork split first second) + node_count other in
    let P : Bool → BoxTree → Type 0 = λ l t. l ≡ true → node_count t + 1 ≡ total in
    let at_first = with_tree_at first (place - 1) other in
    let at_second = with_tree_at second (place - 1 - node_count first) other in
    both_of P (place == 0)
    false (if nat_le place (node_count first) then is_leaf_at first (place - 1) else is_leaf_at second (place - 1 - node_count first))
    other (if nat_le place (node_count first) then fork split at_first second else fork split first at_second)
    (λ e. absurd (false≢true e))
    (both_of P (nat_le place (node_count first)) (is_leaf_at first (place - 1)) (is_leaf_at second (place - 1 - node_count first)) (fork split at_first second) (fork split first at_second)
    (λ e. let n = node_count-with first (place - 1) other e in omega arith)
    (λ e. let n = node_count-with second (place - 1 - node_count first) other e in omega arith))
    h

-- widths stay
pub within-with : (rows : ℕ) (tree : BoxTree) (place : ℕ) (other : BoxTree) → IsWithinWidths rows tree → IsWithinWidths rows other → IsWithinWidths rows (with_tree_at tree place other)
within-with rows (low scale mults cause) place other h o = o
within-with rows (dead mults) place other h o = o
within-with rows (fork split first second) place other h o =
    let at_first = with_tree_at first (place - 1) other in
    let at_second = with_tree_at second (place - 1 - node_count first) other in
    one_of (IsWithinWidths rows) (place == 0) other (if nat_le place (node_count first) then fork split at_first second else fork split first at_second)
    o
    (one_of (IsWithinWidths rows) (nat_le place (node_count first)) (fork split at_first second) (fork split first at_second)
    (within-with rows first (place - 1) other h.0 o, h.1)
    (h.0, within-with rows second (place - 1 - node_count first) other h.1 o))

-- splits fit where the other tree's fit the leaf's box
pub fit-with : (road : Road) (tree : BoxTree) (place : ℕ) (other : BoxTree) (box : BoxRange) → is_leaf_at tree place ≡ true → SplitsFit road tree box
    → SplitsFit road other (box_at tree box place) → SplitsFit road (with_tree_at tree place other) box
fit-with road (low scale mults cause) place other box l h o = o
fit-with road (dead mults) place other box l h o = o
fit-with road (fork split first second) place other box l h o =
    let P : Bool → BoxRange → BoxTree → Type 0 = λ l x t. l ≡ true → SplitsFit road other x → SplitsFit road t box in
    let at_first = with_tree_at first (place - 1) other in
    let at_second = with_tree_at second (place - 1 - node_count first) other in
    let first_box = box_at first (first_part box split) (place - 1) in
    let second_box = box_at second (second_part box split) (place - 1 - node_count first) in
    all_of P (place == 0)
    false (if nat_le place (node_count first) then is_leaf_at first (place - 1) else is_leaf_at second (place - 1 - node_count first))
    box (if nat_le place (node_count first) then first_box else second_box)
    other (if nat_le place (node_count first) then fork split at_first second else fork split first at_second)
    (λ e f. f)
    (all_of P (nat_le place (node_count first)) (is_leaf_at first (place - 1)) (is_leaf_at second (place - 1 - node_count first)) first_box second_box
    (fork split at_first second) (fork split first at_second)
    (λ e f. (h.0, fit-with road first (place - 1) other (first_part box split) e h.1 f, h.2))
    (λ e f. (h.0, h.1, fit-with road second (place - 1 - node_count first) other (second_part box split) e h.2 f)))
    l o
