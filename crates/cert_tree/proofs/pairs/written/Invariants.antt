use Rattle.cert_tree.specs.Written.{IsWritten}
use Rattle.cert_tree.proofs.pairs.written.Given as goal

abbrev pub invariant-loop-before : goal.invariant-loop-before
invariant-loop-before l = IsWritten l.mults l.before l.pairs.items
