use Rattle.std.proofs.Common.{◌∙◌, inr}
use Rattle.csv.specs.Reading.{strip_bom}
use Rattle.section_tables.proofs.ProgressLemmas.{nothing_read}
use Rattle.section_tables.proofs.table.sections.Goals as goal

pub returns : goal.returns
returns c =
    let fr = c.from_reader-rdr.ensures in
    let e = c.has_headers.ensures in
    let g = c.flexible.ensures in
    let trim = rw (g, e) at fr.trim ∙ c.new.ensures.trim in
    let config = rw (g, e) at fr.config ∙ c.new.ensures.config in
    let text = strip_bom c.args.bytes.now in
    c.sections_read-sections.ensures text (nothing_read text c.from_reader-rdr.result trim (inr (inr (rw (g, e) at fr.has_headers, fr.headers))) config fr.source fr.state)
