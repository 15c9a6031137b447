-- the rule is kept by the elements that are left exactly where it is kept by all
use Rattle.std.proofs.Common.{◌≡◌, drop, map}
use Rattle.toml.specs.View.{items_view, array_view}
use Rattle.road_file.specs.Keys.{each_keeps}
use Rattle.road_file.proofs.keys.KeyRule.is_kept_by_each.Given as goal

abbrev pub invariant-loop-item : goal.invariant-loop-item
invariant-loop-item l =
    each_keeps l.self (map (λ k. k.now) l.keys) (items_view (drop l.item-index l.items.items)) ≡ each_keeps l.self (map (λ k. k.now) l.keys) (array_view l.items)
