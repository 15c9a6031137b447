use Rattle.std.proofs.Common.{ℕ, List, ◌++◌, ap, ◌∙◌}
use Rattle.algebra.specs.Lists.{list_to}
use Rattle.road_types.specs.Road.{section_count, hop_count, access_count}
use Rattle.road_types.specs.declared.column.Column.{Column}
use Rattle.road_types.specs.declared.column.Column.TheVariants.{Cut, Fill, Right, Left, Access}
use Rattle.milp_builder.proofs.PointLemmas.{five_appends}
use Rattle.milp_builder.proofs.kinds.push_stage.Goals as goal

pub returns : goal.returns
returns c =
    let road = c.args.road.now in
    let t = c.args.stage in
    let cut : ℕ → List Column = list_to (λ i. Cut i t) in
    let fill : ℕ → List Column = list_to (λ i. Fill i t) in
    let right : ℕ → List Column = list_to (λ h. Right h t) in
    let left : ℕ → List Column = list_to (λ h. Left h t) in
    let roads : ℕ → List Column = list_to (λ q. Access q t) in
    five_appends c.args.kinds.now.items (cut (section_count road)) (fill (section_count road)) (right (hop_count road)) (left (hop_count road)) (roads (access_count road))
    c.push_amounts.new.kinds.items c.push_amounts-2.new.kinds.items c.push_amounts-3.new.kinds.items c.push_amounts-4.new.kinds.items c.push_amounts-5.new.kinds.items
    (c.in_ok-push_amounts.ensures ∙ ap (λ n. c.args.kinds.now.items ++ cut n) c.len.ensures)
    (c.in_ok-push_amounts-2.ensures ∙ ap (λ n. c.push_amounts.new.kinds.items ++ fill n) c.len-2.ensures)
    (c.in_ok-push_amounts-3.ensures ∙ ap (λ n. c.push_amounts-2.new.kinds.items ++ right n) c.len-3.ensures)
    (c.in_ok-push_amounts-4.ensures ∙ ap (λ n. c.push_amounts-3.new.kinds.items ++ left n) c.len-4.ensures)
    (c.in_ok-push_amounts-5.ensures ∙ ap (λ n. c.push_amounts-4.new.kinds.items ++ roads n) c.len-5.ensures)
