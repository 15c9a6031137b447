use Rattle.std.proofs.Common.{◌≡◌, ◌++◌, map, take, drop}
use Rattle.safe_bounds.specs.Narrowing.{shifted}
use Rattle.safe_bounds.proofs.narrowing.shift_all.Given as goal

abbrev pub invariant-loop-place : goal.invariant-loop-place
invariant-loop-place l = l.mults ≡ map (shifted l.bits) (take l.place l.initial.mults) ++ drop l.place l.initial.mults
