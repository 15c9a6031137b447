use Rattle.cert_text.proofs.LevelLemmas.{descend_view}
use Rattle.cert_text.proofs.nodes.NodeReader.descend.Goals as goal

pub returns : goal.returns
returns c =
    descend_view c.self.inside.rows c.self.inside.next c.args.level c.self.inside.levels c.args.self.now c.self.view_is c.requires c.self.invariant.1
