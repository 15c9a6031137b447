use Rattle.std.proofs.Common.{◌≡◌, rules}
use Rattle.plan_text.specs.inside.PlanReading.{start_of}
use Rattle.cert_tree.specs.Trees.{box_tree_of}
use Rattle.cert_text.proofs.ReadLaws.{more_stops}
use Rattle.cert_text.proofs.read.whole.Goals as goal

pub returns-in-Err-read_nothing : goal.returns-in-Err-read_nothing
returns-in-Err-read_nothing c =
    let start : c.over-lines.result ≡ start_of c.args.bytes.now = search rules in
    more_stops c.args.road.now c.args.bytes.now c.over-lines.result c.read_heading.new.lines c.tree_end.new.lines c.in_ok-heading.heading (box_tree_of c.in-Ok.tree) c.in-Err-read_nothing.error start c.in_ok-heading.ensures c.in-Ok.ensures c.in-Err-read_nothing.ensures
