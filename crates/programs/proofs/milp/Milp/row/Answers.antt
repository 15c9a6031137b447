use Rattle.std.proofs.Common.{◌≡◌, ℕ, length, ◌<◌, ◌≤◌, ◌-◌, arith, rules, ap, List}
use Rattle.std.specs.Prelude.{ℤ, FitsSigned}
use Rattle.std.specs.Int.{w64}
use Rattle.std.proofs.lemmas.Int.{to_z-of_z}
use Rattle.term_store.specs.declared.term.Term.{Term}
use Rattle.term_store.specs.declared.side.Side.{Side}
use Rattle.programs.specs.Programs.{Program, row_count, rows_of}
use Rattle.programs.proofs.RowsLemmas.{length-rows_of, row_of_parts}
use Rattle.programs.proofs.milp.Milp.row.Goals as goal

-- a number of one of the rows leads to a position of the stored ones
in_range : (rows : List (List (Term ℤ))) (sides : List Side) (rights : List ℤ) (bounds : List (ℤ × ℤ)) (costs : List ℤ) (program : Program) (i : ℕ) → length sides ≡ length rows → length rights ≡ length rows → record { bounds = bounds; costs = costs; rows = rows_of rows sides rights } ≡ program → 1 ≤ i → i ≤ row_count program → i - 1 < length rows
in_range rows sides rights bounds costs program i p q e low high =
    let count = ap row_count e in
    let total = length-rows_of rows sides rights p q in
    omega arith

pub row-requires : goal.row-requires
row-requires c = in_range _ c.self.inside.sides.items c.self.inside.rights.items _ _ _ _ c.self.invariant.0 c.self.invariant.1.0 c.self.view_is c.requires.from_one c.requires.at_most

pub index-requires : goal.index-requires
index-requires c =
    let l = in_range _ c.self.inside.sides.items c.self.inside.rights.items _ _ _ _ c.self.invariant.0 c.self.invariant.1.0 c.self.view_is c.requires.from_one c.requires.at_most in
    omega (arith, c.self.invariant.0)

pub index-requires-2 : goal.index-requires-2
index-requires-2 c =
    let l = in_range _ c.self.inside.sides.items c.self.inside.rights.items _ _ _ _ c.self.invariant.0 c.self.invariant.1.0 c.self.view_is c.requires.from_one c.requires.at_most in
    omega (arith, c.self.invariant.1.0)

pub returns-clause-row : goal.returns-clause-row
returns-clause-row c =
    let fits : FitsSigned w64 c.index-2.result.now = search rules in
    let l = in_range _ c.self.inside.sides.items c.self.inside.rights.items _ _ _ _ c.self.invariant.0 c.self.invariant.1.0 c.self.view_is c.requires.from_one c.requires.at_most in
    rw (← c.self.view_is)
    (simp (to_z-of_z w64 _ fits)
    (row_of_parts _ _ _ _ _ _ _ c.self.invariant.0 c.self.invariant.1.0 c.requires.from_one l c.row.ensures c.index.ensures c.index-2.ensures))
