use Rattle.std.proofs.Common.{◌∙◌, sym}
use Rattle.std.proofs.lemmas.Bool.{false≢true}
use Rattle.csv.specs.Records.{fields_of}
use Rattle.section_tables.proofs.ProgressLemmas.{named_first, other_first, none_first}
use Rattle.section_tables.proofs.table.begins_with_header.Goals as goal
use Rattle.section_tables.proofs.table.begins_with_header.Goals.{then-is_there, else-is_there}

pub returns-clause-named : goal.returns-clause-named
returns-clause-named c is text before =
    elim c.if-is_there.branch [
      | then-is_there w ↦
          let read = rw w.if-is_there.true at (c.in-Ok.ensures.reads before.trim before.ready) in
          named_first text c.args.rdr.now c.read_byte_record.new.self (fields_of c.read_byte_record.new.row) before (c.in-Ok.ensures.ready before.trim) read (sym w.is_header.ensures ∙ sym w.result-is ∙ is)
      | else-is_there w ↦ absurd (false≢true (sym w.if-is_there.false ∙ (sym w.result-is ∙ is)))
    ]

pub returns-clause-unnamed : goal.returns-clause-unnamed
returns-clause-unnamed c is text before =
    elim c.if-is_there.branch [
      | then-is_there w ↦
          let read = rw w.if-is_there.true at (c.in-Ok.ensures.reads before.trim before.ready) in
          other_first text c.args.rdr.now c.read_byte_record.new.self (fields_of c.read_byte_record.new.row) before (c.in-Ok.ensures.ready before.trim) read (sym w.is_header.ensures ∙ sym w.result-is ∙ is)
      | else-is_there w ↦
          let read = rw w.if-is_there.false at (c.in-Ok.ensures.reads before.trim before.ready) in
          none_first text c.args.rdr.now c.read_byte_record.new.self (fields_of c.read_byte_record.new.row) before read
    ]
