use Rattle.std.proofs.Common.{arith}
use Rattle.std.proofs.lemmas.Result.{err_from_is_err_and}
use Rattle.toml.specs.View.{array_view}
use Rattle.road_file.specs.Kinds.{each_of}
use Rattle.road_file.proofs.ItemsLemmas.{each_of-more, each_of-answers, each_of-end}
use Rattle.road_file.proofs.kinds.each.Goals as goal

pub returns-in_err-from_value : goal.returns-in_err-from_value
returns-in_err-from_value g c =
    let p = err_from_is_err_and c.from_residual.result c.from_residual.ensures.1 in
    let due = each_of g.T.FromValue.reads (array_view c.args.items.now) in
    let at = rw c.deref-item-items.ensures.value at c.item-item.is in
    rw (p.1, p.2) (each_of-answers g.T.FromValue.reads c.loop-item.values.items c.args.items.now.items c.loop-item.item-index c.item-item.result c.in_err-from_value.field-0.0 due (omega arith) at c.loop-item.invariant c.in_err-from_value.ensures)

pub loop-item-preserved : goal.loop-item-preserved
loop-item-preserved g c =
    let due = each_of g.T.FromValue.reads (array_view c.args.items.now) in
    let at = rw c.deref-item-items.ensures.value at c.item-item.is in
    rw c.in_ok-push.ensures.items (each_of-more g.T.FromValue.reads c.loop-item.values.items c.args.items.now.items c.loop-item.item-index c.item-item.result c.in_ok-from_value.field-0 due (omega arith) at c.loop-item.invariant c.in_ok-from_value.ensures)

pub returns : goal.returns
returns g c =
    rw c.new.ensures (each_of-end g.T.FromValue.reads c.loop-item.values.items c.args.items.now.items c.loop-item.item-index _ (omega arith) c.loop-item.invariant)
