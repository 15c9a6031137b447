use Rattle.std.proofs.Common.{◌≡◌, ◌==◌, false, take, All}
use Rattle.text_parts.proofs.cut.cut_at.Given as goal

abbrev pub invariant-loop-place : goal.invariant-loop-place
invariant-loop-place l = All (λ b. (b == l.separator) ≡ false) (take l.place l.bytes)
