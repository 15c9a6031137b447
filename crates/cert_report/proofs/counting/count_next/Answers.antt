use Rattle.std.proofs.Common.{◌≡◌, ◌≤◌, arith, rules, sym, subst}
use Rattle.cert_text.specs.declared.step.Step.TheVariants.{End}
use Rattle.report.specs.declared.findings.OpenLeaves.{OpenLeaves}
use Rattle.cert_report.specs.inside.Counting.{count_of}
use Rattle.cert_report.proofs.CountingLemmas.{takes_some, step_few, counts_on}
use Rattle.cert_report.proofs.counting.count_next.Goals as goal

pub returns-in-Ok : goal.returns-in-Ok
returns-in-Ok c =
    let some : c.in-Ok.step ≡ End → ⊥ = search rules in
    let takes = takes_some c.args.lines.now c.next.new.lines c.in-Ok.step c.next.new.leaf.mults some c.in-Ok.ensures.found in
    let one = step_few c.args.leaves.now c.in-Ok.step in
    record {
      rows = c.in-Ok.ensures.rows;
      room = c.in-Ok.ensures.room;
      few = subst (λ (l : OpenLeaves). count_of l ≤ c.next.new.lines.number) (sym c.count_step.ensures) (omega (arith, one, takes.more, c.requires.few));
      fewer = λ e. takes.fewer;
      counts =
          counts_on c.args.reader.now.rows c.args.reader.now.levels c.args.lines.now c.next.new.lines c.in-Ok.step c.args.leaf.now.mults c.next.new.leaf.mults c.next.new.self.levels c.args.leaves.now
          c.count_step.new.leaves some c.in-Ok.ensures.exact c.count_step.ensures;
    }
