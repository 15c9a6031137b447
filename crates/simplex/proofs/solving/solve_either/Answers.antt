use Rattle.std.proofs.Common.{◌^◌, ◌-◌, arith, rules}
use Rattle.simplex.specs.Ends.{IsWithinRange}
use Rattle.simplex.proofs.Endings.{within_wider}
use Rattle.simplex.proofs.solving.solve_either.Goals as goal

pub returns-in-Ok-clause-within : goal.returns-in-Ok-clause-within
returns-in-Ok-clause-within g c =
    let law = g.met.M.Narrow.below_wide in
    within_wider g.M.Whole.greatest (2 ^ 127 - 1) c.in-Ok.end (omega arith) c.in-Ok.ensures.within

pub returns-in_default : goal.returns-in_default
returns-in_default g c =
    let law = g.met.N.Narrow.below_wide in
    let in_range : IsWithinRange c.in_ok-end.end = search rules in
    record {
      end = (c.in_ok-end.ensures.end, in_range);
      within = within_wider g.N.Whole.greatest (2 ^ 127 - 1) c.in_ok-end.end (omega arith) c.in_ok-end.ensures.within;
    }
