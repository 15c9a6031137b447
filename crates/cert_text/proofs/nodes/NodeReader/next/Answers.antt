use Rattle.cert_text.proofs.NextLaws.{exact}
use Rattle.cert_text.proofs.nodes.NodeReader.next.Goals as goal

pub returns-clause-exact : goal.returns-clause-exact
returns-clause-exact c =
    λ trees rest d t.
    exact c.args.self.now.rows c.args.self.now.levels c.args.lines.now c.take.new.lines c.take.result c.args.leaf.now.mults c.take.new.leaf.mults c.take.new.self.levels c.requires.rows c.take.ensures.of_source c.take.ensures.due trees rest d t
