use Rattle.std.proofs.Common.{◌≡◌, ℕ, List, ◌-◌, drop, slice_get, Err, Ok, ap, subst, ◌∙◌, FitsSigned, arith, rules}
use Rattle.std.specs.Int.{w128}
use Rattle.std.proofs.lemmas.Int.{to_z-of_z}
use Rattle.std.proofs.lemmas.Result.{err_from_is_err_and}
use Rattle.cert_tree.specs.Trees.{box_tree_of}
use Rattle.cert_text.specs.declared.step.Step.{Step}
use Rattle.cert_text.specs.inside.NodeReading.{tree_due}
use Rattle.cert_text.specs.inside.StepReading.{TakesNode}
use Rattle.cert_text.specs.inside.WholeReading.{GivesTree}
use Rattle.cert_text.proofs.ReadLaws.{has_level, split_levels, node_stops, low_read, dead_read, first_failed, second_failed, split_read, tree_made}
use Rattle.cert_text.proofs.read.+tree.Goals as goal

pub returns-in_err-step-clause-tree : goal.returns-in_err-step-clause-tree
returns-in_err-step-clause-tree t c =
    let p = err_from_is_err_and c.from_residual.result c.from_residual.ensures.1 in
    rw (p.1, p.2)
    (node_stops c.args.reader.now.rows c.args.level (drop 1 c.args.reader.now.levels) c.args.lines.now c.next_node.new.lines c.next_node.new.lines c.args.leaf.now.mults c.next_node.new.leaf.mults c.next_node.new.reader.levels c.in_err-step.field-0.0 c.in_err-step.ensures.node)

pub returns-in-Low-clause-tree : goal.returns-in-Low-clause-tree
returns-in-Low-clause-tree t c =
    let fits : FitsSigned w128 c.in-Low.scale = search rules in
    tree_made _ _ c.low_leaf.result c.next_node.new.lines c.low_leaf.ensures.made c.low_leaf.ensures.wanting (λ tree made.
    low_read c.args.reader.now.rows c.args.level (drop 1 c.args.reader.now.levels) c.args.lines.now c.next_node.new.lines c.in-Low.scale c.in-Low.cause c.args.leaf.now.mults c.next_node.new.leaf.mults c.next_node.new.reader.levels tree (simp (to_z-of_z w128 c.in-Low.scale fits) at made)
    (subst (λ (s : Step). TakesNode c.args.reader.now.rows c.args.level (drop 1 c.args.reader.now.levels) c.args.lines.now c.next_node.new.lines s c.args.leaf.now.mults c.next_node.new.leaf.mults c.next_node.new.reader.levels) c.in-Low.is c.in_ok-step.ensures.node))

pub returns-in-Dead-clause-tree : goal.returns-in-Dead-clause-tree
returns-in-Dead-clause-tree t c =
    tree_made _ _ c.dead_leaf.result c.next_node.new.lines c.dead_leaf.ensures.made c.dead_leaf.ensures.wanting (λ tree made.
    dead_read c.args.reader.now.rows c.args.level (drop 1 c.args.reader.now.levels) c.args.lines.now c.next_node.new.lines c.args.leaf.now.mults c.next_node.new.leaf.mults c.next_node.new.reader.levels tree made
    (subst (λ (s : Step). TakesNode c.args.reader.now.rows c.args.level (drop 1 c.args.reader.now.levels) c.args.lines.now c.next_node.new.lines s c.args.leaf.now.mults c.next_node.new.leaf.mults c.next_node.new.reader.levels) c.in-Dead.is c.in_ok-step.ensures.node))

pub overflow_sub-level : goal.overflow_sub-level
overflow_sub-level t c =
    let some = has_level c.args.reader.now.rows c.args.level (drop 1 c.args.reader.now.levels) c.args.lines.now c.next_node.new.lines c.in_ok-step.step c.args.leaf.now.mults c.next_node.new.leaf.mults c.next_node.new.reader.levels c.in_ok-step.ensures.node in
    omega (arith, some)

pub tree-requires : goal.tree-requires
tree-requires t c =
    let some = has_level c.args.reader.now.rows c.args.level (drop 1 c.args.reader.now.levels) c.args.lines.now c.next_node.new.lines c.in_ok-step.step c.args.leaf.now.mults c.next_node.new.leaf.mults c.next_node.new.reader.levels c.in_ok-step.ensures.node in
    let node = subst (λ (s : Step). TakesNode c.args.reader.now.rows c.args.level (drop 1 c.args.reader.now.levels) c.args.lines.now c.next_node.new.lines s c.args.leaf.now.mults c.next_node.new.leaf.mults c.next_node.new.reader.levels) c.in-Split.is c.in_ok-step.ensures.node in
    let rows = c.next_node.ensures.rows in
    let room = c.next_node.ensures.room in
    let few = c.requires.rows in
    let fits = c.requires.room in
    let decreases = c.decreases in (
      omega (arith, some, decreases),
      (
        omega (arith, rows, few),
        (
          omega (arith, rows, room, fits),
          ap (λ (levels : List ℕ). slice_get levels 0) (split_levels c.args.reader.now.rows c.args.level (drop 1 c.args.reader.now.levels) c.args.lines.now c.next_node.new.lines c.in-Split.split c.args.leaf.now.mults c.next_node.new.leaf.mults c.next_node.new.reader.levels node),
        ),
      ),
    )

pub returns-in_err-first-in-Split-clause-tree : goal.returns-in_err-first-in-Split-clause-tree
returns-in_err-first-in-Split-clause-tree t c =
    let node = subst (λ (s : Step). TakesNode c.args.reader.now.rows c.args.level (drop 1 c.args.reader.now.levels) c.args.lines.now c.next_node.new.lines s c.args.leaf.now.mults c.next_node.new.leaf.mults c.next_node.new.reader.levels) c.in-Split.is c.in_ok-step.ensures.node in
    let p = err_from_is_err_and c.from_residual-in_err-first-in-Split.result c.from_residual-in_err-first-in-Split.ensures.1 in
    rw (p.1, p.2)
    (first_failed c.args.reader.now.rows c.args.level (drop 1 c.args.reader.now.levels) c.args.lines.now c.next_node.new.lines c.tree.new.lines c.tree.new.lines c.in-Split.split c.args.leaf.now.mults c.next_node.new.leaf.mults c.next_node.new.reader.levels c.in_err-first-in-Split.field-0.0 node
    (subst (λ rows. GivesTree (tree_due rows (c.args.level - 1) c.next_node.new.lines) (Err c.in_err-first-in-Split.field-0.0) c.tree.new.lines) c.next_node.ensures.rows c.in_err-first-in-Split.ensures.tree))

pub overflow_sub-level-in-Split : goal.overflow_sub-level-in-Split
overflow_sub-level-in-Split t c =
    let some = has_level c.args.reader.now.rows c.args.level (drop 1 c.args.reader.now.levels) c.args.lines.now c.next_node.new.lines c.in_ok-step.step c.args.leaf.now.mults c.next_node.new.leaf.mults c.next_node.new.reader.levels c.in_ok-step.ensures.node in
    omega (arith, some)

pub tree-requires-in-Split : goal.tree-requires-in-Split
tree-requires-in-Split t c =
    let some = has_level c.args.reader.now.rows c.args.level (drop 1 c.args.reader.now.levels) c.args.lines.now c.next_node.new.lines c.in_ok-step.step c.args.leaf.now.mults c.next_node.new.leaf.mults c.next_node.new.reader.levels c.in_ok-step.ensures.node in
    let node = subst (λ (s : Step). TakesNode c.args.reader.now.rows c.args.level (drop 1 c.args.reader.now.levels) c.args.lines.now c.next_node.new.lines s c.args.leaf.now.mults c.next_node.new.leaf.mults c.next_node.new.reader.levels) c.in-Split.is c.in_ok-step.ensures.node in
    let rows = c.next_node.ensures.rows in
    let room = c.next_node.ensures.room in
    let more_rows = c.tree.ensures.rows in
    let more_room = c.tree.ensures.room in
    let few = c.requires.rows in
    let fits = c.requires.room in
    let decreases = c.decreases in (
      omega (arith, some, decreases),
      (
        omega (arith, rows, more_rows, few),
        (
          omega (arith, rows, room, more_rows, more_room, fits),
          ap (λ (levels : List ℕ). slice_get levels 0) (c.in_ok-first-in-Split.ensures.levels ∙ ap (drop 1) (split_levels c.args.reader.now.rows c.args.level (drop 1 c.args.reader.now.levels) c.args.lines.now c.next_node.new.lines c.in-Split.split c.args.leaf.now.mults c.next_node.new.leaf.mults c.next_node.new.reader.levels node)),
        ),
      ),
    )

pub returns-in-Err-clause-tree : goal.returns-in-Err-clause-tree
returns-in-Err-clause-tree t c =
    let node = subst (λ (s : Step). TakesNode c.args.reader.now.rows c.args.level (drop 1 c.args.reader.now.levels) c.args.lines.now c.next_node.new.lines s c.args.leaf.now.mults c.next_node.new.leaf.mults c.next_node.new.reader.levels) c.in-Split.is c.in_ok-step.ensures.node in
    second_failed c.args.reader.now.rows c.args.level (drop 1 c.args.reader.now.levels) c.args.lines.now c.next_node.new.lines c.tree.new.lines c.tree-in-Split.new.lines c.tree-in-Split.new.lines c.in-Split.split c.args.leaf.now.mults c.next_node.new.leaf.mults c.next_node.new.reader.levels (box_tree_of c.in_ok-first-in-Split.first) c.in-Err.error node
    (subst (λ rows. tree_due rows (c.args.level - 1) c.next_node.new.lines ≡ Ok (box_tree_of c.in_ok-first-in-Split.first, c.tree.new.lines)) c.next_node.ensures.rows c.in_ok-first-in-Split.ensures.tree)
    (subst (λ rows. GivesTree (tree_due rows (c.args.level - 1) c.tree.new.lines) (Err c.in-Err.error) c.tree-in-Split.new.lines) (c.tree.ensures.rows ∙ c.next_node.ensures.rows) c.in-Err.ensures.tree)

pub returns-in-Ok-clause-tree : goal.returns-in-Ok-clause-tree
returns-in-Ok-clause-tree t c =
    let node = subst (λ (s : Step). TakesNode c.args.reader.now.rows c.args.level (drop 1 c.args.reader.now.levels) c.args.lines.now c.next_node.new.lines s c.args.leaf.now.mults c.next_node.new.leaf.mults c.next_node.new.reader.levels) c.in-Split.is c.in_ok-step.ensures.node in
    tree_made _ _ c.parted.result c.tree-in-Split.new.lines c.parted.ensures.made c.parted.ensures.wanting (λ made is.
    split_read c.args.reader.now.rows c.args.level (drop 1 c.args.reader.now.levels) c.args.lines.now c.next_node.new.lines c.tree.new.lines c.tree-in-Split.new.lines c.in-Split.split c.args.leaf.now.mults c.next_node.new.leaf.mults c.next_node.new.reader.levels (box_tree_of c.in_ok-first-in-Split.first) (box_tree_of c.in-Ok.second) made is node
    (subst (λ rows. tree_due rows (c.args.level - 1) c.next_node.new.lines ≡ Ok (box_tree_of c.in_ok-first-in-Split.first, c.tree.new.lines)) c.next_node.ensures.rows c.in_ok-first-in-Split.ensures.tree)
    (subst (λ rows. tree_due rows (c.args.level - 1) c.tree.new.lines ≡ Ok (box_tree_of c.in-Ok.second, c.tree-in-Split.new.lines)) (c.tree.ensures.rows ∙ c.next_node.ensures.rows) c.in-Ok.ensures.tree))
