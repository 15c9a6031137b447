use Rattle.std.proofs.Common.{◌++◌, arith}
use Rattle.road_types.specs.HaulForms.{balance_forms, pit_forms, transit_forms, stop_forms, order_forms}
use Rattle.road_types.proofs.FormCounts.{length-balance_forms, length-pit_forms, length-transit_forms, length-stop_forms}
use Rattle.form_rows.proofs.GrewLemmas.{grew_groups, group_count}
use Rattle.haul_rows.proofs.rows.put_rows.Goals as goal

pub balance_rows-requires-clause-free : goal.balance_rows-requires-clause-free
balance_rows-requires-clause-free c = omega (arith)

pub balance_rows-requires-clause-width : goal.balance_rows-requires-clause-width
balance_rows-requires-clause-width c = omega (arith)

pub pit_rows-requires-clause-free : goal.pit_rows-requires-clause-free
pit_rows-requires-clause-free c = omega (arith, group_count c.args.road.now (balance_forms c.args.road.now) c.args.rows.now c.balance_rows.new.rows c.balance_rows.ensures, length-balance_forms c.args.road.now, c.balance_rows.ensures.room)

pub pit_rows-requires-clause-width : goal.pit_rows-requires-clause-width
pit_rows-requires-clause-width c = omega (arith, c.balance_rows.ensures.width)

pub transit_rows-requires-clause-free : goal.transit_rows-requires-clause-free
transit_rows-requires-clause-free c = omega (arith, group_count c.args.road.now (balance_forms c.args.road.now) c.args.rows.now c.balance_rows.new.rows c.balance_rows.ensures, group_count c.args.road.now (pit_forms c.args.road.now) c.balance_rows.new.rows c.pit_rows.new.rows c.pit_rows.ensures, length-balance_forms c.args.road.now, length-pit_forms c.args.road.now, c.balance_rows.ensures.room, c.pit_rows.ensures.room)

pub transit_rows-requires-clause-width : goal.transit_rows-requires-clause-width
transit_rows-requires-clause-width c = omega (arith, c.balance_rows.ensures.width, c.pit_rows.ensures.width)

pub stop_rows-requires-clause-free : goal.stop_rows-requires-clause-free
stop_rows-requires-clause-free c = omega (arith, group_count c.args.road.now (balance_forms c.args.road.now) c.args.rows.now c.balance_rows.new.rows c.balance_rows.ensures, group_count c.args.road.now (pit_forms c.args.road.now) c.balance_rows.new.rows c.pit_rows.new.rows c.pit_rows.ensures, group_count c.args.road.now (transit_forms c.args.road.now) c.pit_rows.new.rows c.transit_rows.new.rows c.transit_rows.ensures, length-balance_forms c.args.road.now, length-pit_forms c.args.road.now, length-transit_forms c.args.road.now, c.balance_rows.ensures.room, c.pit_rows.ensures.room, c.transit_rows.ensures.room)

pub stop_rows-requires-clause-width : goal.stop_rows-requires-clause-width
stop_rows-requires-clause-width c = omega (arith, c.balance_rows.ensures.width, c.pit_rows.ensures.width, c.transit_rows.ensures.width)

pub order_rows-requires-clause-free : goal.order_rows-requires-clause-free
order_rows-requires-clause-free c = omega (arith, group_count c.args.road.now (balance_forms c.args.road.now) c.args.rows.now c.balance_rows.new.rows c.balance_rows.ensures, group_count c.args.road.now (pit_forms c.args.road.now) c.balance_rows.new.rows c.pit_rows.new.rows c.pit_rows.ensures, group_count c.args.road.now (transit_forms c.args.road.now) c.pit_rows.new.rows c.transit_rows.new.rows c.transit_rows.ensures, group_count c.args.road.now (stop_forms c.args.road.now) c.transit_rows.new.rows c.stop_rows.new.rows c.stop_rows.ensures, length-balance_forms c.args.road.now, length-pit_forms c.args.road.now, length-transit_forms c.args.road.now, length-stop_forms c.args.road.now, c.balance_rows.ensures.room, c.pit_rows.ensures.room, c.transit_rows.ensures.room, c.stop_rows.ensures.room)

pub order_rows-requires-clause-width : goal.order_rows-requires-clause-width
order_rows-requires-clause-width c = omega (arith, c.balance_rows.ensures.width, c.pit_rows.ensures.width, c.transit_rows.ensures.width, c.stop_rows.ensures.width)

pub returns : goal.returns
returns c =
    let road = c.args.road.now in
    let g3 = grew_groups road (stop_forms c.args.road.now) (order_forms c.args.road.now) c.transit_rows.new.rows c.stop_rows.new.rows c.order_rows.new.rows c.stop_rows.ensures c.order_rows.ensures in
    let g2 = grew_groups road (transit_forms c.args.road.now) (stop_forms c.args.road.now ++ (order_forms c.args.road.now)) c.pit_rows.new.rows c.transit_rows.new.rows c.order_rows.new.rows c.transit_rows.ensures g3 in
    let g1 = grew_groups road (pit_forms c.args.road.now) (transit_forms c.args.road.now ++ (stop_forms c.args.road.now ++ (order_forms c.args.road.now))) c.balance_rows.new.rows c.pit_rows.new.rows c.order_rows.new.rows c.pit_rows.ensures g2 in
    let g0 = grew_groups road (balance_forms c.args.road.now) (pit_forms c.args.road.now ++ (transit_forms c.args.road.now ++ (stop_forms c.args.road.now ++ (order_forms c.args.road.now)))) c.args.rows.now c.balance_rows.new.rows c.order_rows.new.rows c.balance_rows.ensures g1 in
    g0
