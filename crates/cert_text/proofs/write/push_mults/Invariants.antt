use Rattle.std.proofs.Common.{◌≡◌, ◌++◌, take}
use Rattle.cert_text.specs.NodeText.{mults_text}
use Rattle.cert_text.proofs.write.push_mults.Given as goal

abbrev pub invariant-loop-mult : goal.invariant-loop-mult
invariant-loop-mult l = l.text.items ≡ l.fn.text.items ++ mults_text (take l.mult-index l.mults)
