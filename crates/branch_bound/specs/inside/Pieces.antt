-- The best plan after plans were looked for in boxes of single pieces.
use Rattle.std.specs.Prelude.{Option}
use Rattle.road_types.specs.declared.road.Road.{Road}
use Rattle.branch_bound.specs.inside.Better.{IsBetter}
use Rattle.branch_bound.specs.inside.Searches.{best_cost, IsBest}
use Rattle.branch_bound.specs.declared.best.Best.{Best}

-- the best plan is admissible with its cost, and no dearer than before
pub record IsImproved (road : Road) (old new : Option Best) : Type 0 where
  pub best_is : IsBest road new
  pub better : IsBetter (best_cost new) (best_cost old)
