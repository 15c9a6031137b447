use Rattle.algebra.specs.Lists.{flat_to}
use Rattle.std.proofs.Common.{[], ◌∷◌}
use Rattle.report.specs.Lines.{Adds}
use Rattle.report.specs.Mass.{mass_line}
use Rattle.report.proofs.mass.push_nets.Given as goal

abbrev pub invariant-loop-before : goal.invariant-loop-before
invariant-loop-before l = Adds (flat_to (λ h. mass_line l.plan l.stage h ∷ []) l.before) l.fn.out.items l.out.items
