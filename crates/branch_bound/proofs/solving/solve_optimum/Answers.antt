use Rattle.std.proofs.Common.{subst}
use Rattle.programs.specs.Programs.{Program}
use Rattle.branch_bound.specs.inside.Proving.{IsProvedOn}
use Rattle.branch_bound.specs.inside.Solving.{AreProving}
use Rattle.branch_bound.proofs.solving.solve_optimum.Goals as goal

pub leaf_of_optimum-requires-clause-optimum : goal.leaf_of_optimum-requires-clause-optimum
leaf_of_optimum-requires-clause-optimum c = record {
  own_optimum = c.requires.optimum;
  proving = subst (λ (p : Program). AreProving p c.args.optimum.scale c.args.optimum.mults) c.requires.program c.requires.numbers;
  proved_on = subst (λ (p : Program). IsProvedOn p c.args.optimum.scale c.args.optimum.mults c.in_ok-proved.proved) c.requires.program c.in_ok-proved.ensures;
}
