-- The key of a node: what the scale and multipliers with which its simplex ended prove of its box, once they are narrowed.
use Rattle.std.specs.Prelude.{◌≡◌, List, ℤ}
use Rattle.programs.specs.Programs.{Program}
use Rattle.safe_bounds.specs.Values.{value_of}
use Rattle.safe_bounds.specs.Narrowing.{IsNarrowed}
use Rattle.best_first.specs.Keys.{IsAtMost}
use Rattle.tableau.specs.Tableaux.{Tableau}
use Rattle.tableau.specs.Trails.{IsAfter}
use Rattle.tableau.specs.declared.exchange.Exchange.{Exchange}
use Rattle.simplex.specs.Givens.{given_of}
use Rattle.tableau.specs.OwnNumbers.{scale_of, multipliers_of}
use Rattle.branch_bound.specs.declared.notes.NodeNote.{NodeNote}
use Rattle.branch_bound.specs.declared.notes.NodeNote.TheVariants.{Fractional, Closed, Dead, Pivots, Wide, Limit, Nodes}

-- the value of narrowed scale and multipliers, over the narrowed scale
pub record IsNarrowKey (program : Program) (scale : ℤ) (mults : List ℤ) (key : ℤ × ℤ) : Type 0 where
  pub narrow_mults : List ℤ
  pub narrowed : IsNarrowed scale mults key.1 narrow_mults
  pub value : key.0 ≡ value_of program key.1 narrow_mults

-- value over scale is at least the key that another scale and multipliers give
abbrev pub KeepsBound : Program → ℤ → List ℤ → ℤ × ℤ → Type 0
KeepsBound program scale mults bound = (key : ℤ × ℤ) × (IsNarrowKey program scale mults key × IsAtMost key bound)

-- the key of scale and multipliers of the tableau after the trail
abbrev pub IsKeyAfter : Program → List Exchange → ℤ × ℤ → Type 0
IsKeyAfter program trail key =
    (t : Tableau) × (IsAfter (given_of program) trail t × IsNarrowKey program (scale_of t) (multipliers_of t) key)

-- the key of a node's note, on the program of its box; leaves that are closed or dead have none
abbrev pub IsKeyOf : Program → NodeNote → ℤ × ℤ → Type 0
IsKeyOf program (Fractional trail den point scale mults) key = IsNarrowKey program scale mults key
IsKeyOf program (Nodes trail den point scale mults) key = IsNarrowKey program scale mults key
IsKeyOf program (Pivots trail) key = IsKeyAfter program trail key
IsKeyOf program (Wide trail op) key = IsKeyAfter program trail key
IsKeyOf program (Limit trail number) key = IsKeyAfter program trail key
IsKeyOf program Closed key = ⊥
IsKeyOf program Dead key = ⊥
