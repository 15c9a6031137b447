use Rattle.std.proofs.Common.{arith, rules, sym}
use Rattle.road_types.specs.RoadPrograms.{row_count}
use Rattle.road_types.proofs.AcceptedRoad.{IsAccepted-from_fault}
use Rattle.cert_checker.proofs.WalkLaws.{step_root, step_box, node_passed, node_refused}
use Rattle.cert_checker.proofs.walk.Walk.turn.Goals as goal

pub next-requires-clause-rows : goal.next-requires-clause-rows
next-requires-clause-rows c = let few = (IsAccepted-from_fault c.args.road.now c.requires.accepted).rows in omega (arith, few, c.requires.rows)

pub pass-requires : goal.pass-requires
pass-requires c =
    let few = (IsAccepted-from_fault c.args.road.now c.requires.accepted).rows in
    record {
      accepted = c.requires.accepted;
      bound = c.requires.bound;
      line = omega (arith, c.number-line.ensures.small);
      some = search rules;
      root = rw (sym c.requires.rows, c.mults.ensures) (step_root c.args.reader.now.rows c.args.reader.now.levels c.args.lines.now c.next.new.lines c.in-Ok.step c.args.leaf.now.mults c.next.new.leaf.mults c.next.new.self.levels (omega (arith, few, c.requires.rows)) (search rules) c.in-Ok.ensures.due);
      boxes = step_box c.args.road.now c.args.self.now c.args.reader.now.rows c.args.reader.now.levels c.args.lines.now c.next.new.lines c.in-Ok.step c.args.leaf.now.mults c.next.new.leaf.mults c.next.new.self.levels (search rules) c.in-Ok.ensures.due c.requires.boxes;
    }

pub returns-in_ok-pass-in-Ok : goal.returns-in_ok-pass-in-Ok
returns-in_ok-pass-in-Ok c = record {
  turns =
      node_passed c.args.road.now c.args.bound.now (row_count c.args.road.now) c.args.reader.now.levels c.args.lines.now c.next.new.lines c.in-Ok.step c.args.leaf.now.mults c.next.new.leaf.mults c.next.new.self.levels c.args.self.now c.pass.new.self (search rules)
      (rw (sym c.requires.rows) c.in-Ok.ensures.due) c.requires.boxes
      (rw (sym c.number-line.ensures.value, sym c.mults.ensures) c.in_ok-pass-in-Ok.ensures);
  rows = c.in-Ok.ensures.rows;
  room = c.in-Ok.ensures.room;
}

pub returns-in-Err-clause-turns : goal.returns-in-Err-clause-turns
returns-in-Err-clause-turns c =
    rw (sym c.requires.rows) (node_refused c.args.reader.now.rows c.args.reader.now.levels c.args.lines.now c.next.new.lines c.in-Err.line c.args.leaf.now.mults c.next.new.leaf.mults c.next.new.self.levels c.in-Err.ensures.due)
