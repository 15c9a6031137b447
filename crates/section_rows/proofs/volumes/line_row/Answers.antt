use Rattle.std.proofs.Common.{◌≡◌, ℕ, List, [], ◌∷◌, ◌++◌, ap, ◌∙◌}
use Rattle.std.specs.Prelude.{ℤ}
use Rattle.std.proofs.lemmas.Int.{to_z-of_z}
use Rattle.std.proofs.lemmas.List.{append-nil}
use Rattle.algebra.specs.Lists.{flat_to}
use Rattle.road_types.specs.Columns.{column_number}
use Rattle.road_types.specs.RoadPrograms.{term_in, terms_of}
use Rattle.road_types.specs.declared.road.Road.{Road}
use Rattle.road_types.specs.declared.column.Column.{Column}
use Rattle.road_types.specs.declared.column.Column.TheVariants.{Offset, Cut, Fill}
use Rattle.term_store.specs.declared.term.Term.{Term}
use Rattle.form_rows.proofs.GrewLemmas.{rising_fits}
use Rattle.form_rows.proofs.RisingLemmas.{volume_row_rises}
use Rattle.section_rows.proofs.volumes.line_row.Goals as goal

-- a section's cut and fill in all stages
abbrev moved : ℕ → ℤ → ℤ → ℕ → List (Column × ℤ)
moved i cut fill stages = flat_to (λ t. (Cut i t, cut) ∷ (Fill i t, fill) ∷ []) stages

whole_row : (road : Road) (i : ℕ) (slope cut fill : ℤ) (none first all : List (Term ℤ)) → none ≡ [] → first ≡ none ++ terms_of road ((Offset i, slope) ∷ [])
    → all ≡ first ++ terms_of road (moved i cut fill road.stages) → all ≡ terms_of road ((Offset i, slope) ∷ moved i cut fill road.stages)
whole_row road i slope cut fill none first all e p q =
    q
    ∙ ap (λ ts. ts ++ terms_of road (moved i cut fill road.stages))
    (p ∙ ap (λ ts. ts ++ terms_of road ((Offset i, slope) ∷ [])) e ∙ append-nil (term_in (column_number road (Offset i)) slope))

pub put-requires-clause-fits : goal.put-requires-clause-fits
put-requires-clause-fits c =
    let road = c.args.road.now in
    let slope = c.ranges.slope in
    let cut = c.ranges.cut in
    let fill = c.ranges.fill in
    let terms = whole_row road c.args.section c.args.slope c.args.cut c.args.fill c.clear.new.self c.add_all.new.self c.add_moved.new.row c.clear.ensures
    (simp to_z-of_z at c.add_all.ensures.terms) (simp to_z-of_z at c.add_moved.ensures) in
    rising_fits road ((Offset c.args.section, c.args.slope) ∷ moved c.args.section c.args.cut c.args.fill road.stages) c.add_moved.new.row c.args.rows.now.width terms
    (volume_row_rises road c.args.section c.args.slope c.args.cut c.args.fill) c.requires.width

pub returns : goal.returns
returns c =
    let road = c.args.road.now in
    let slope = c.ranges.slope in
    let cut = c.ranges.cut in
    let fill = c.ranges.fill in
    let terms = whole_row road c.args.section c.args.slope c.args.cut c.args.fill c.clear.new.self c.add_all.new.self c.add_moved.new.row c.clear.ensures
    (simp to_z-of_z at c.add_all.ensures.terms) (simp to_z-of_z at c.add_moved.ensures) in
    rw terms at c.put.ensures
