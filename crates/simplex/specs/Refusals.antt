-- What a refused exchange names.
use Rattle.std.specs.Prelude.{◌≡◌}
use Rattle.tableau.specs.declared.exchange.Exchange.{Exchange}
use Rattle.tableau.specs.declared.op.Op.{Op}
use Rattle.tableau.specs.declared.op.Op.TheVariants.{Cell}

-- the operation is a cell of this exchange
abbrev pub IsCellOf : Exchange → Op → Type 0
IsCellOf swap (Cell other row col) = other ≡ swap
IsCellOf swap op = ⊥
