-- what was read so far, before what is still to be read, is what all items give
use Rattle.std.proofs.Common.{◌≡◌, drop}
use Rattle.toml.specs.View.{items_view, array_view}
use Rattle.road_file.specs.Kinds.{each_of}
use Rattle.road_file.proofs.ItemsLemmas.{after}
use Rattle.road_file.proofs.kinds.each.Given as goal

abbrev pub invariant-loop-item : goal.invariant-loop-item
invariant-loop-item g l =
    after l.values.items (each_of g.T.FromValue.reads (items_view (drop l.item-index l.items.items))) ≡ each_of g.T.FromValue.reads (array_view l.items)
