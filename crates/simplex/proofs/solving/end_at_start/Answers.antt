use Rattle.std.proofs.Common.{List, ap, sym, ◌∙◌, subst}
use Rattle.std.specs.Prelude.{pos}
use Rattle.algebra.specs.Lists.{list_to}
use Rattle.tableau.specs.declared.exchange.Exchange.{Exchange}
use Rattle.tableau.specs.declared.op.Op.TheVariants.{Value}
use Rattle.simplex.specs.Ends.{IsWide}
use Rattle.simplex.proofs.Endings.{wide_at_start, zeros_within}
use Rattle.simplex.proofs.solving.end_at_start.Goals as goal

pub returns-clause-end : goal.returns-clause-end
returns-clause-end c = λ greatest program budget same wide.
    subst (λ (trail : List Exchange). IsWide greatest program budget trail (Value c.args.row c.args.col) (pos 1) c.fill_zeros.new.list.items) (sym c.requires.trail)
    (wide_at_start greatest program budget c.args.row c.args.col c.fill_zeros.new.list.items wide (c.fill_zeros.ensures ∙ ap (list_to (λ _. pos 0)) (sym same)))

pub returns-clause-within : goal.returns-clause-within
returns-clause-within c = λ greatest. zeros_within greatest c.args.rows c.fill_zeros.new.list.items c.fill_zeros.ensures
