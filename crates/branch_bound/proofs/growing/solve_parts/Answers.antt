use Rattle.std.proofs.Common.{refl}
use Rattle.branch_bound.proofs.SearchLemmas.{both_solved}
use Rattle.branch_bound.proofs.growing.solve_parts.Goals as goal

pub returns : goal.returns
returns c =
    both_solved c.args.road.now c.args.best.now c.args.first c.args.second
    (record { leaf = c.in_ok-one.one; best = c.solve_part.new.best }) (record { leaf = c.in_ok-two.two; best = c.solve_part-2.new.best }) _
    c.in_ok-one.ensures c.in_ok-two.ensures refl refl refl
