use Rattle.section_tables.proofs.ProgressLemmas.{put_on, stopped, all_put, more_left}
use Rattle.section_tables.proofs.table.sections_under.Goals as goal

pub loop-record-preserved : goal.loop-record-preserved
loop-record-preserved c text before =
    let (now, left) = c.loop-record.invariant text before in
    let step = rw c.in-Some.is at ((c.next.ensures.steps left now.read.trim).0 now.read.ready) in
    let put = c.in_default.ensures.put in
    let a = c.loop-record.record-iterator.rdr.now in
    let b = c.next.new.self.rdr.now in
    let found = c.loop-record.sections.items in
    let more = c.put_section.new.sections.items in
    (put_on text found a b c.next.new.self.left now c.in-Some.record more step put, more_left a b c.next.new.self.left c.in-Some.record found more step put)

pub returns-in-Err : goal.returns-in-Err
returns-in-Err c text before =
    let (now, left) = c.loop-record.invariant text before in
    let step = rw c.in-Some.is at ((c.next.ensures.steps left now.read.trim).0 now.read.ready) in
    stopped text c.loop-record.sections.items c.loop-record.record-iterator.rdr.now c.next.new.self.rdr.now c.next.new.self.left now c.in-Some.record c.in-Err.error step c.in-Err.ensures.stopped

pub returns : goal.returns
returns c text before =
    let (now, left) = c.loop-record.invariant text before in
    let step = rw c.in-None.is at ((c.next.ensures.steps left now.read.trim).0 now.read.ready) in
    rw c.new.ensures (all_put text c.loop-record.sections.items c.loop-record.record-iterator.rdr.now c.next.new.self.rdr.now c.next.new.self.left now step)
