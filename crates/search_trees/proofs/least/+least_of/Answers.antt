use Rattle.std.proofs.Common.{Option, sym, subst}
use Rattle.std.specs.Prelude.{ℤ}
use Rattle.road_types.specs.RoadPrograms.{row_count}
use Rattle.milp_builder.specs.Parts.{AreParts}
use Rattle.milp_builder.specs.declared.boxes.BoxRange.{BoxRange}
use Rattle.cert_tree.specs.Trees.{BoxTree, fork, box_tree_of, IsWithinWidths}
use Rattle.cert_tree.specs.declared.tree.Tree.{Tree}
use Rattle.search_trees.specs.inside.LeastPairs.{IsLeastPair}
use Rattle.search_trees.proofs.LeastLemmas.{split_least, split_tree}
use Rattle.search_trees.proofs.least.+least_of.Goals as goal

pub returns-in_ok-other-in-Split : goal.returns-in_ok-other-in-Split
returns-in_ok-other-in-Split t c =
    let road = c.args.road.now in
    let range = c.args.range.now in
    let split = c.in-Split.split in
    let e = split_tree c.args.tree.now split c.in-Split.first c.in-Split.second c.in-Split.is in
    let within = subst (IsWithinWidths (row_count road)) e c.requires.within in
    let parts = subst (λ (p : Option (BoxRange × BoxRange)). AreParts road range split p) c.in-Some.is c.in_ok-first_part-in-Split.ensures.parts in
    let p = subst (λ (t : Tree). IsLeastPair road (box_tree_of t) c.in-Some.first_part c.in_ok-least-in-Split.least) c.get.ensures c.in_ok-least-in-Split.ensures in
    let q = subst (λ (t : Tree). IsLeastPair road (box_tree_of t) c.in-Some.second_part c.in_ok-other-in-Split.other) c.get-in-Split.ensures c.in_ok-other-in-Split.ensures in
    let both = split_least road (row_count road) split (box_tree_of c.in-Split.first) (box_tree_of c.in-Split.second) range c.in-Some.first_part c.in-Some.second_part
    c.in_ok-least-in-Split.least c.in_ok-other-in-Split.other parts within p q in
    let there = subst (λ (r : Option (ℤ × ℤ)). IsLeastPair road (fork split (box_tree_of c.in-Split.first) (box_tree_of c.in-Split.second)) range r) (sym c.lesser.ensures) both in
    subst (λ (x : BoxTree). IsLeastPair road x range c.lesser.result) (sym e) there
