use Rattle.std.proofs.Common.{subst, refl, Option}
use Rattle.branch_bound.specs.inside.Solving.{IsCheaper}
use Rattle.branch_bound.specs.declared.best.Best.{Best}
use Rattle.branch_bound.proofs.PieceLemmas.{offered}
use Rattle.branch_bound.proofs.settled.hold.Goals as goal

pub returns-then-is_key : goal.returns-then-is_key
returns-then-is_key c =
    offered c.args.road.now c.args.plan c.priced-found.result c.args.best.now c.cheaper.result c.requires.best c.requires.admissible c.requires.den
    c.priced-found.ensures.plan c.priced-found.ensures.cost c.priced-found.ensures.lowest (c.if-is_key.ensures refl)
    (subst (λ (o : Option Best). IsCheaper c.priced-found.result o c.cheaper.result) c.take.ensures.value c.cheaper.ensures)
