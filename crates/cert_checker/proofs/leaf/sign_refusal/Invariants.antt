use Rattle.std.proofs.Common.{◌≡◌, ◌+◌, drop}
use Rattle.cert_checker.specs.Refusals.{sign_refusal}
use Rattle.cert_checker.proofs.leaf.sign_refusal.Given as goal

abbrev pub invariant-loop-place : goal.invariant-loop-place
invariant-loop-place l = sign_refusal l.milp l.line l.mults ≡ sign_refusal l.milp (l.line + l.place) (drop l.place l.mults)
