use Rattle.std.proofs.Common.{◌≡◌, ◌++◌, take}
use Rattle.plan_text.specs.LineForms.{spelled_row}
use Rattle.plan_text.proofs.write.push_line.Given as goal

abbrev pub invariant-loop-number : goal.invariant-loop-number
invariant-loop-number l = l.text.items ≡ l.fn.text.items ++ spelled_row l.keyword (take l.number-index l.numbers)
