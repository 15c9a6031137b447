use Rattle.std.specs.Prelude.{◌≢◌}
use Rattle.simplex.specs.States.{tableau_of}
use Rattle.simplex.specs.inside.Pricing.{IsPriced}
use Rattle.simplex.proofs.table.Tableau.price_rows.Given as goal

abbrev pub invariant-loop-k : goal.invariant-loop-k
invariant-loop-k g l = IsPriced (tableau_of g.W.Whole.meaning l.self) l.k l.first.0 l.first.1 l.first.2 l.largest.0 l.largest.1 × (l.largest.0 ≢ 0 → l.first.0 ≢ 0)
