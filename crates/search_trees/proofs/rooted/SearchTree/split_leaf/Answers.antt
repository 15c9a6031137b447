use Rattle.std.proofs.Common.{◌≡◌, ap, sym, subst, ◌∙◌, arith}
use Rattle.road_types.specs.RoadPrograms.{row_count}
use Rattle.milp_builder.specs.declared.boxes.BoxRange.{BoxRange}
use Rattle.cert_tree.specs.Trees.{box_tree_of, node_count}
use Rattle.search_trees.specs.RootedTrees.{RootedTree, FitsRoad}
use Rattle.search_trees.proofs.RootedLemmas.{narrow, made_of, split_fits, split_count}
use Rattle.search_trees.proofs.rooted.SearchTree.split_leaf.Goals as goal

pub invariant_of-self : goal.invariant_of-self
invariant_of-self c =
    let made =
    made_of c.args.place c.args.split c.with_split_at.result c.replace-old.result c.args.self.now.tree c.in_ok-first.first c.in_ok-second.second c.args.first c.args.second
    c.with_split_at.ensures (c.replace-old.ensures.value ∙ ap (λ (r : RootedTree). r.tree) c.self.view_is) c.in_ok-first.ensures.ok c.in_ok-second.ensures.ok in
    let fits =
    split_fits c.args.road.now c.args.self.now c.with_split_at.result c.args.place c.args.split c.args.first c.args.second made
    c.requires.fits c.requires.leaf c.requires.first c.requires.second c.requires.split in
    let count =
    split_count c.args.road.now c.args.self.now.tree c.with_split_at.result c.args.place c.args.split c.args.first c.args.second made
    c.requires.leaf c.requires.first c.requires.second in
    let kept : c.self.inside.count ≡ node_count (box_tree_of c.self.inside.tree) = c.self.invariant.1 in
    let same : node_count (box_tree_of c.self.inside.tree) ≡ node_count (box_tree_of c.args.self.now.tree)
    = ap (λ (r : RootedTree). node_count (box_tree_of r.tree)) c.self.view_is in
    (narrow (row_count c.args.road.now) (box_tree_of c.with_split_at.result) fits.within, omega (arith, count, kept, same))

pub returns-clause-count : goal.returns-clause-count
returns-clause-count c =
    let made =
    made_of c.args.place c.args.split c.with_split_at.result c.replace-old.result c.args.self.now.tree c.in_ok-first.first c.in_ok-second.second c.args.first c.args.second
    c.with_split_at.ensures (c.replace-old.ensures.value ∙ ap (λ (r : RootedTree). r.tree) c.self.view_is) c.in_ok-first.ensures.ok c.in_ok-second.ensures.ok in
    split_count c.args.road.now c.args.self.now.tree c.with_split_at.result c.args.place c.args.split c.args.first c.args.second made
    c.requires.leaf c.requires.first c.requires.second

pub returns-clause-fits : goal.returns-clause-fits
returns-clause-fits c =
    let made =
    made_of c.args.place c.args.split c.with_split_at.result c.replace-old.result c.args.self.now.tree c.in_ok-first.first c.in_ok-second.second c.args.first c.args.second
    c.with_split_at.ensures (c.replace-old.ensures.value ∙ ap (λ (r : RootedTree). r.tree) c.self.view_is) c.in_ok-first.ensures.ok c.in_ok-second.ensures.ok in
    let fits =
    split_fits c.args.road.now c.args.self.now c.with_split_at.result c.args.place c.args.split c.args.first c.args.second made
    c.requires.fits c.requires.leaf c.requires.first c.requires.second c.requires.split in
    subst (λ (r : BoxRange). FitsRoad c.args.road.now (record { tree = c.with_split_at.result; root = r })) (sym (ap (λ (r : RootedTree). r.root) c.self.view_is)) fits
