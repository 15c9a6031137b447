use Rattle.std.proofs.Common.{arith, rules, ap, sym, subst}
use Rattle.road_types.proofs.AcceptedRoad.{IsAccepted-from_fault}
use Rattle.cert_text.specs.declared.heading.Heading.{Heading}
use Rattle.cert_text.specs.NodeText.{IsSpelledTree, most_levels}
use Rattle.cert_report.proofs.StatingLemmas.{end_text, heading_read, heading_failed, not_counted}
use Rattle.cert_report.proofs.replaying.read_stated.Goals as goal

pub returns-in-Err : goal.returns-in-Err
returns-in-Err c = λ cert h.
    heading_failed c.args.road.now c.args.bytes.now c.over-lines.result c.read_heading.new.lines c.in-Err.error cert (search rules) c.in-Err.ensures h

pub row_count-requires : goal.row_count-requires
row_count-requires c = (IsAccepted-from_fault c.args.road.now c.requires).well_formed.counted

pub count_open-requires : goal.count_open-requires
count_open-requires c = omega (arith, (IsAccepted-from_fault c.args.road.now c.requires).rows, c.row_count.ensures.value)

pub returns-in-Ok-count_open : goal.returns-in-Ok-count_open
returns-in-Ok-count_open c = λ cert h.
    let read = heading_read c.args.road.now c.args.bytes.now c.over-lines.result c.read_heading.new.lines c.in-Ok.heading cert (search rules) c.in-Ok.ensures h in
    let tree = subst (λ n. IsSpelledTree n most_levels cert.tree) (sym c.row_count.ensures.value) h.has_text.tree in
    record {
      planned_is = ap (λ (heading : Heading). heading.planned) read.heading_is;
      bound_is = ap (λ (heading : Heading). heading.bound) read.heading_is;
      leaves_are = c.in-Ok-count_open.ensures cert.tree end_text tree read.text_is;
    }

pub returns-in-Err-count_open : goal.returns-in-Err-count_open
returns-in-Err-count_open c = λ cert h.
    let read = heading_read c.args.road.now c.args.bytes.now c.over-lines.result c.read_heading.new.lines c.in-Ok.heading cert (search rules) c.in-Ok.ensures h in
    let tree = subst (λ n. IsSpelledTree n most_levels cert.tree) (sym c.row_count.ensures.value) h.has_text.tree in
    not_counted cert c.in-Err-count_open.error (c.in-Err-count_open.ensures cert.tree end_text tree read.text_is)
