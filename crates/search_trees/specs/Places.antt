-- Places in a tree: its nodes are counted in preorder from 0, a split before its parts and the first part before the second.
use Rattle.std.specs.Prelude.{ℕ, ◌-◌, ◌==◌, nat_le, Bool, false, if◌then◌else◌}
use Rattle.milp_builder.specs.Parts.{first_part, second_part}
use Rattle.milp_builder.specs.declared.boxes.BoxRange.{BoxRange}
use Rattle.cert_tree.specs.Trees.{BoxTree, low, dead, fork, node_count}

-- a leaf stands at the place
abbrev pub is_leaf_at : BoxTree → ℕ → Bool
is_leaf_at (low scale mults cause) place = place == 0
is_leaf_at (dead mults) place = place == 0
is_leaf_at (fork split first second) place =
    if place == 0 then false
    else if nat_le place (node_count first) then is_leaf_at first (place - 1)
    else is_leaf_at second (place - 1 - node_count first)

-- the box of the node at the place, where the root has this box
abbrev pub box_at : BoxTree → BoxRange → ℕ → BoxRange
box_at (low scale mults cause) box place = box
box_at (dead mults) box place = box
box_at (fork split first second) box place =
    if place == 0 then box
    else if nat_le place (node_count first) then box_at first (first_part box split) (place - 1)
    else box_at second (second_part box split) (place - 1 - node_count first)

-- the tree with another one in place of the node at the place and what stands under it
abbrev pub with_tree_at : BoxTree → ℕ → BoxTree → BoxTree
with_tree_at (low scale mults cause) place other = other
with_tree_at (dead mults) place other = other
with_tree_at (fork split first second) place other =
    if place == 0 then other
    else if nat_le place (node_count first) then fork split (with_tree_at first (place - 1) other) second
    else fork split first (with_tree_at second (place - 1 - node_count first) other)
