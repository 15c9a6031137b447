use Rattle.std.proofs.Common.{arith}
use Rattle.road_file.proofs.DocumentLemmas.{too_long, is_text, no_text}
use Rattle.road_file.proofs.document.text.Goals as goal

pub returns-then-bytes-gt-LONGEST_FILE : goal.returns-then-bytes-gt-LONGEST_FILE
returns-then-bytes-gt-LONGEST_FILE c = too_long c.args.bytes.now (omega arith)

pub returns-in-Ok : goal.returns-in-Ok
returns-in-Ok c = let same = c.in-Ok.ensures.cases.0 in rw same (is_text c.args.bytes.now (omega arith) c.in-Ok.ensures.cases.1)

pub returns-in-Err : goal.returns-in-Err
returns-in-Err c = no_text c.args.bytes.now (omega arith) c.in-Err.ensures.cases.0
