-- The parts of a box's program, by the numbers of its rows.
use Rattle.std.proofs.Common.{◌≡◌, ℕ, zero, suc, ◌-◌, ◌≤◌, ◌<◌, List, [], ◌∷◌, ◌++◌, map, length, arith, ap, sym, ◌∙◌, refl, subst}
use Rattle.std.specs.Prelude.{ℤ}
use Rattle.std.specs.List.{All}
use Rattle.std.proofs.lemmas.List.{length-map, get_or_append_left, get_or-append_right}
use Rattle.algebra.specs.Lists.{list_to}
use Rattle.algebra.proofs.ListsLemmas.{map-list_to}
use Rattle.form_rows.specs.FormRows.{form_terms, forms_terms, Grew}
use Rattle.programs.specs.Programs.{Program, rows_of}
use Rattle.programs.specs.Limits.{IsWithinLimits}
use Rattle.road_types.specs.Numbered.{numbered}
use Rattle.road_types.specs.Forms.{Form, no_form}
use Rattle.road_types.specs.Lines.{Lines}
use Rattle.road_types.specs.SectionForms.{section_forms}
use Rattle.road_types.specs.HaulForms.{haul_forms}
use Rattle.road_types.specs.RoadPrograms.{row_of, forms_of, lines_in, section_row_count, row_count}
use Rattle.road_types.specs.Columns.{columns_of, bounds_of, unit_cost}
use Rattle.road_types.specs.declared.road.Road.{Road}
use Rattle.road_types.specs.declared.column.Column.{Column}
use Rattle.road_types.proofs.FormCounts.{length-section_forms, length-forms_of}
use Rattle.term_store.specs.HeldRows.{HeldRows}
use Rattle.term_store.specs.declared.term.Term.{Term}
use Rattle.term_store.specs.declared.side.Side.{Side}
use Rattle.road_points.specs.ColumnKinds.{IsKindOf}
use Rattle.road_points.proofs.RoadKinds.{all_kinds}
use Rattle.milp_builder.specs.BoxPrograms.{box_program}
use Rattle.milp_builder.specs.declared.boxes.BoxRange.{BoxRange}
use Rattle.milp_builder.proofs.PointLemmas.{by_number}

-- ---- forms by number

numbered_left : {A : Type 0} (other : A) (xs ys : List A) (k : ℕ) → k ≤ length xs → numbered other (xs ++ ys) k ≡ numbered other xs k
numbered_left other xs ys zero l = refl
numbered_left other xs ys (suc k) l = get_or_append_left xs ys other k (omega arith)

numbered_right : {A : Type 0} (other : A) (xs ys : List A) (n k : ℕ) → length xs ≡ n → n < k → numbered other (xs ++ ys) k ≡ numbered other ys (k - n)
numbered_right other xs ys n zero e l = absurd (omega arith)
numbered_right other xs ys n (suc k) e l =
    let place : suc k - n ≡ suc (k - n) = omega arith in
    get_or-append_right xs ys n k other e (omega arith) ∙ sym (ap (numbered other ys) place)

module _ (road : Road) (lines : ℕ → Lines) where
  pub form_along : (k : ℕ) → k ≤ section_row_count road → numbered no_form (forms_of road lines) k ≡ numbered no_form (section_forms road lines) k
  form_along k l = numbered_left no_form (section_forms road lines) (haul_forms road) k (omega (arith, length-section_forms road lines))

  pub form_behind : (k : ℕ) → section_row_count road < k → numbered no_form (forms_of road lines) k ≡ numbered no_form (haul_forms road) (k - section_row_count road)
  form_behind k l = numbered_right no_form (section_forms road lines) (haul_forms road) (section_row_count road) k (length-section_forms road lines) l

  -- what is read of each form by number is what is read of all
  pub forms_by_number : {A : Type 0} (g : Form → A) → list_to (λ i. g (numbered no_form (forms_of road lines) i)) (row_count road) ≡ map g (forms_of road lines)
  forms_by_number g =
      sym (ap (map g) (by_number no_form (forms_of road lines) (row_count road) (length-forms_of road lines)) ∙ map-list_to g (numbered no_form (forms_of road lines)) (row_count road))

-- ---- rows

-- a store that was empty has as many rows as there are forms
pub grown_count : (road : Road) (forms : List Form) (old new : HeldRows (Term ℤ)) → Grew old new (forms_terms road forms) → old.rows ≡ [] → length new.rows ≡ length forms
grown_count road forms old new g e =
    ap length (g.rows ∙ ap (λ xs. xs ++ forms_terms road forms) e) ∙ length-map forms (form_terms road)

-- terms, sides and right sides of forms make the rows of the forms
-- one of each form, and one row of each form
pub same_count : {A : Type 0} (road : Road) (forms : List Form) (f : Form → A) (xs : List A) (rows : List (List (Term ℤ))) → xs ≡ map f forms → rows ≡ forms_terms road forms → length xs ≡ length rows
same_count road forms f xs rows e h = ap length e ∙ length-map forms f ∙ sym (ap length h ∙ length-map forms (form_terms road))

pub rows_of_forms : (road : Road) (forms : List Form) → rows_of (forms_terms road forms) (map (λ form. form.side) forms) (map (λ form. form.right) forms) ≡ map (row_of road) forms
rows_of_forms road [] = refl
rows_of_forms road (form ∷ forms) = ap (λ rows. row_of road form ∷ rows) (rows_of_forms road forms)

-- the program of a box is made of its parts
pub box_program_is : (road : Road) (box : BoxRange) (heights : List (ℤ × ℤ)) (bounds : List (ℤ × ℤ)) (costs : List ℤ) (rows : List (List (Term ℤ))) (sides : List Side) (rights : List ℤ)
    → heights ≡ box.heights
    → bounds ≡ map (bounds_of road box.heights box.opens) (columns_of road)
    → costs ≡ map (unit_cost road) (columns_of road)
    → rows ≡ forms_terms road (forms_of road (lines_in road heights))
    → sides ≡ map (λ form. form.side) (forms_of road (lines_in road heights))
    → rights ≡ map (λ form. form.right) (forms_of road (lines_in road heights))
    → ◌≡◌ {A = Program} (record { bounds = bounds; costs = costs; rows = rows_of rows sides rights }) (box_program road box)
box_program_is road box heights bounds costs rows sides rights h b c r s t =
    let forms = forms_of road (lines_in road heights) in
    let all : rows_of rows sides rights ≡ map (row_of road) (forms_of road (lines_in road box.heights)) =
    ap (λ x. rows_of x sides rights) r
    ∙ ap (λ x. rows_of (forms_terms road forms) x rights) s
    ∙ ap (λ x. rows_of (forms_terms road forms) (map (λ form. form.side) forms) x) t
    ∙ rows_of_forms road forms
    ∙ ap (λ x. map (row_of road) (forms_of road (lines_in road x))) h in
    ap (λ x. let p : Program = record { bounds = x; costs = costs; rows = rows_of rows sides rights } in p) b
    ∙ ap (λ x. let p : Program = record { bounds = map (bounds_of road box.heights box.opens) (columns_of road); costs = x; rows = rows_of rows sides rights } in p) c
    ∙ ap (λ x. let p : Program = record { bounds = map (bounds_of road box.heights box.opens) (columns_of road); costs = map (unit_cost road) (columns_of road); rows = x } in p) all

pub limits_of_same : (p q : Program) → p ≡ q → IsWithinLimits q → IsWithinLimits p
limits_of_same p q e h = subst IsWithinLimits (sym e) h

pub kinds_are : (road : Road) (kinds : List Column) → kinds ≡ columns_of road → All (IsKindOf road) kinds
kinds_are road kinds e = subst (All (IsKindOf road)) (sym e) (all_kinds road (IsKindOf road) (λ kind n. n))
