use Rattle.std.proofs.Common.{arith, ap, sym, subst}
use Rattle.cert_text.specs.Steps.{TreesDue, Leaf}
use Rattle.cert_report.specs.CertReport.{open_leaves}
use Rattle.cert_report.specs.inside.Counting.{IsCountedTo}
use Rattle.cert_report.proofs.CountingLemmas.{counts_start, no_leaves}
use Rattle.cert_report.proofs.counting.count_open.Goals as goal

pub loop-leaf-init : goal.loop-leaf-init
loop-leaf-init c = record {
  rows = ap (λ (d : TreesDue). d.rows) c.over-reader.ensures;
  room = let room = ap (λ (l : Leaf). l.room) c.in_ok-leaf.ensures in omega (arith, room);
  few = omega arith;
  counts = λ tree rest h e.
      subst (λ ls. IsCountedTo c.args.rows ls c.args.lines.now no_leaves rest (open_leaves tree)) (sym (ap (λ (d : TreesDue). d.levels) c.over-reader.ensures))
      (counts_start c.args.rows c.args.lines.now tree rest h e);
}
