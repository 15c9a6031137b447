-- From what the tests of a plan's lists tell to what it is to fit.
use Rattle.std.proofs.Common.{◌≡◌, ℕ, zero, suc, ◌<◌, List, [], length, arith, subst, sym}
use Rattle.std.specs.Prelude.{ℤ, pos}
use Rattle.std.specs.List.{All}
use Rattle.std.proofs.lemmas.List.Elements.{All-from_get_or}
use Rattle.road_types.specs.Numbered.{numbered, IsNumber}
use Rattle.road_types.specs.declared.road.Road.{Road}
use Rattle.plan_rules.specs.declared.plan.Piece.{Piece}
use Rattle.plan_rules.specs.declared.plan.Plan.{Plan}
use Rattle.plan_rules.specs.Plans.{no_piece}
use Rattle.plan_rules.specs.Fits.{Fits, IsModerate, IsModeratePiece}
use Rattle.plan_rules.specs.inside.FitsByParts.{IsModerateRow, IsModerateTable, HasModerateTables, HasModeratePieces, HasModerateAmounts}
use Rattle.algebra.proofs.NumberedLemmas.{numbered_all, all_numbered}

moderate_zero : IsModerate (pos 0)
moderate_zero = omega arith

pub row_moderate : (entries : ℕ) (row : List ℤ) → (length row ≡ entries) × All IsModerate row → IsModerateRow entries row
row_moderate entries row h = record { length_is = h.0; moderate = numbered_all IsModerate (pos 0) row moderate_zero h.1 }

pub moderate_row : (entries : ℕ) (row : List ℤ) → IsModerateRow entries row → (length row ≡ entries) × All IsModerate row
moderate_row entries row h = (h.length_is, all_numbered IsModerate (pos 0) row h.moderate)

-- every number of a row, also of none
abbrev IsModerateEntries : List ℤ → Type 0
IsModerateEntries row = (i : ℕ) → IsModerate (numbered (pos 0) row i)

no_entries : IsModerateEntries []
no_entries zero = moderate_zero
no_entries (suc k) = moderate_zero

rows_of_length : (entries : ℕ) (rows : List (List ℤ)) → All (IsModerateRow entries) rows → (t : ℕ) → IsNumber t (length rows) → length (numbered [] rows t) ≡ entries
rows_of_length entries rows h zero n = absurd (omega (arith, n.from_one))
rows_of_length entries rows h (suc k) n = (h k [] (omega (arith, n.at_most))).length_is

pub table_moderate : (stages entries : ℕ) (rows : List (List ℤ)) → (length rows ≡ stages) × All (IsModerateRow entries) rows → IsModerateTable stages entries rows
table_moderate stages entries rows h =
    record {
      is_table = record {
        length_is = h.0;
        each_length = λ t n. rows_of_length entries rows h.1 t (subst (IsNumber t) (sym h.0) n);
      };
      moderate = λ t. numbered_all IsModerateEntries [] rows no_entries (λ k d l. (h.1 k d l).moderate) t;
    }

pub moderate_table : (stages entries : ℕ) (rows : List (List ℤ)) → IsModerateTable stages entries rows → (length rows ≡ stages) × All (IsModerateRow entries) rows
moderate_table stages entries rows h =
    let number : (k : ℕ) → k < length rows → IsNumber (suc k) stages = λ k l. record { from_one = omega arith; at_most = omega (arith, h.is_table.length_is) } in
    let row : (k : ℕ) → k < length rows → IsModerateRow entries (numbered [] rows (suc k)) = λ k l. record { length_is = h.is_table.each_length (suc k) (number k l); moderate = h.moderate (suc k) } in
    (h.is_table.length_is, All-from_get_or (IsModerateRow entries) rows [] row)

moderate_no_piece : IsModeratePiece no_piece
moderate_no_piece = record { a = moderate_zero; b = moderate_zero; c = moderate_zero }

pub pieces_moderate : (pieces : List Piece) → All IsModeratePiece pieces → (g : ℕ) → IsModeratePiece (numbered no_piece pieces g)
pieces_moderate pieces h = numbered_all IsModeratePiece no_piece pieces moderate_no_piece h

pub moderate_pieces : (pieces : List Piece) → ((g : ℕ) → IsModeratePiece (numbered no_piece pieces g)) → All IsModeratePiece pieces
moderate_pieces pieces h = all_numbered IsModeratePiece no_piece pieces h

pub fits_of_parts : (road : Road) (plan : Plan) → HasModeratePieces road plan → HasModerateTables road plan → Fits road plan
fits_of_parts road plan p t =
    record {
      is_plan = record {
        den = p.den.from_one;
        pieces = p.pieces_count;
        cut = t.cut.is_table;
        fill = t.fill.is_table;
        right = t.right.is_table;
        left = t.left.is_table;
        roads = t.roads.is_table;
        opens = p.opens;
      };
      den = p.den;
      pieces = p.pieces;
      cut = t.cut.moderate;
      fill = t.fill.moderate;
      right = t.right.moderate;
      left = t.left.moderate;
      roads = t.roads.moderate;
    }

pub pieces_of_fits : (road : Road) (plan : Plan) → Fits road plan → HasModeratePieces road plan
pieces_of_fits road plan f =
    record { den = f.den; pieces_count = f.is_plan.pieces; pieces = f.pieces; opens = f.is_plan.opens }

pub tables_of_fits : (road : Road) (plan : Plan) → Fits road plan → HasModerateTables road plan
tables_of_fits road plan f =
    record {
      cut = record { is_table = f.is_plan.cut; moderate = f.cut };
      fill = record { is_table = f.is_plan.fill; moderate = f.fill };
      right = record { is_table = f.is_plan.right; moderate = f.right };
      left = record { is_table = f.is_plan.left; moderate = f.left };
      roads = record { is_table = f.is_plan.roads; moderate = f.roads };
    }

pub amounts_of_fits : (road : Road) (plan : Plan) → Fits road plan → HasModerateAmounts plan
amounts_of_fits road plan f = record { cut = f.cut; fill = f.fill; right = f.right; left = f.left; roads = f.roads }
