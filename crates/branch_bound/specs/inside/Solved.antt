-- What solving a box leaves behind, and what solving both parts of a box does.
use Rattle.std.specs.Prelude.{Option}
use Rattle.branch_bound.specs.declared.best.Best.{Best}
use Rattle.branch_bound.specs.declared.work.Work.{Work}

-- the leaf of a box, and the best plan after it
pub record Solved : Type 0 where
  pub leaf : Work
  pub best : Option Best

-- the leaves of both parts of a box, and the best plan after them
pub record SolvedParts : Type 0 where
  pub first : Work
  pub second : Work
  pub best : Option Best
