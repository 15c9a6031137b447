use Rattle.cert_text.proofs.read.+tree.Given as goal

abbrev pub decreases-tree : goal.decreases-tree
decreases-tree l = l.level
