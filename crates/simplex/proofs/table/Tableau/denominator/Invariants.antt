use Rattle.simplex.specs.States.{tableau_of}
use Rattle.wide_products.specs.Naturals.{whole_of}
use Rattle.tableau.specs.Ends.{IsLeastDenominator}
use Rattle.simplex.proofs.table.Tableau.denominator.Given as goal

abbrev pub invariant-loop-k : goal.invariant-loop-k
invariant-loop-k g l = IsLeastDenominator (tableau_of g.W.Whole.meaning l.self) l.k (whole_of l.den.value)
