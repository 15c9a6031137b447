use Rattle.std.proofs.Common.{◌∙◌, sym, map, arith}
use Rattle.toml.specs.View.{table_view}
use Rattle.road_file.proofs.KeysLemmas.{each_keeps-more, each_keeps-stop, each_keeps-skip, each_keeps-end}
use Rattle.road_file.proofs.keys.KeyRule.is_kept_by_each.Goals as goal
use Rattle.road_file.proofs.keys.KeyRule.is_kept_by_each.Goals.{in-Some+else-not-is_kept, in_default}

pub returns-then-not-is_kept : goal.returns-then-not-is_kept
returns-then-not-is_kept c =
    let at = rw c.deref-item-items.ensures.value at c.item-item.is in
    each_keeps-stop c.args.self (map (λ k. k.now) c.args.keys.now) c.args.items.now.items c.loop-item.item-index c.item-item.result (table_view c.in-Some.table.now) _ (omega arith) at c.in-Some.ensures
    (sym c.is_kept.ensures ∙ c.if-not-is_kept.true) c.loop-item.invariant

pub loop-item-preserved : goal.loop-item-preserved
loop-item-preserved c =
    let at = rw c.deref-item-items.ensures.value at c.item-item.is in
    let rule = c.args.self in
    let keys = map (λ k. k.now) c.args.keys.now in
    let vs = c.args.items.now.items in
    let i = c.loop-item.item-index in
    elim c.match-as_table.branch [
      | in-Some+else-not-is_kept w ↦
          each_keeps-more rule keys vs i c.item-item.result (table_view w.in-Some.table.now) _ (omega arith) at w.in-Some.ensures (sym w.is_kept.ensures ∙ w.if-not-is_kept.false) c.loop-item.invariant
      | in_default w ↦ each_keeps-skip rule keys vs i c.item-item.result _ (omega arith) at w.in_default.ensures c.loop-item.invariant
    ]

pub returns : goal.returns
returns c =
    each_keeps-end c.args.self (map (λ k. k.now) c.args.keys.now) c.args.items.now.items c.loop-item.item-index _ (omega arith) c.loop-item.invariant
