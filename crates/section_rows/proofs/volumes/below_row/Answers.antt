use Rattle.std.proofs.Common.{◌≡◌, ℕ, List, [], ◌∷◌, ap, sym, ◌∙◌}
use Rattle.std.specs.Prelude.{ℤ, pos, neg_ℤ}
use Rattle.std.proofs.lemmas.Int.{to_z-of_z}
use Rattle.algebra.specs.Lists.{flat_to}
use Rattle.algebra.proofs.Products.{int_neg_neg}
use Rattle.algebra.proofs.ListsLemmas.{map-flat_to}
use Rattle.road_types.specs.Forms.{negated}
use Rattle.road_types.specs.RoadPrograms.{terms_of}
use Rattle.road_types.specs.SectionForms.{volume_entries}
use Rattle.road_types.specs.declared.road.Road.{Road}
use Rattle.road_types.specs.declared.column.Column.{Column}
use Rattle.road_types.specs.declared.column.Column.TheVariants.{Offset, Cut, Fill}
use Rattle.term_store.specs.declared.term.Term.{Term}
use Rattle.form_rows.specs.FormRows.{Grew}
use Rattle.form_rows.proofs.GrewLemmas.{grew_by}
use Rattle.section_rows.proofs.volumes.below_row.Goals as goal

-- the entries of a volume row with the other sign
below_entries : (road : Road) (i : ℕ) (slope : ℤ)
    → (Offset i, slope) ∷ flat_to (λ t. (Cut i t, pos 1) ∷ (Fill i t, neg_ℤ (pos 1)) ∷ []) road.stages ≡ negated (volume_entries road i slope)
below_entries road i slope =
    let opposite : Column × ℤ → Column × ℤ = λ e. (e.0, neg_ℤ e.1) in
    ap (λ (x : ℤ). (Offset i, x) ∷ flat_to (λ t. (Cut i t, pos 1) ∷ (Fill i t, neg_ℤ (pos 1)) ∷ []) road.stages) (sym (int_neg_neg slope))
    ∙ ap (λ (es : List (Column × ℤ)). (Offset i, neg_ℤ (neg_ℤ slope)) ∷ es) (sym (map-flat_to opposite (λ t. (Cut i t, neg_ℤ (pos 1)) ∷ (Fill i t, pos 1) ∷ []) road.stages))

pub returns : goal.returns
returns c =
    let road = c.args.road.now in
    let slope = c.ranges.slope in
    let step : Grew c.args.rows.now c.line_row.new.rows
    (terms_of road ((Offset c.args.section, c.args.slope) ∷ flat_to (λ t. (Cut c.args.section t, pos 1) ∷ (Fill c.args.section t, neg_ℤ (pos 1)) ∷ []) road.stages) ∷ []) =
    simp to_z-of_z at c.line_row.ensures in
    let row : List (Column × ℤ) → List (List (Term ℤ)) = λ es. terms_of road es ∷ [] in
    grew_by c.args.rows.now c.line_row.new.rows (row ((Offset c.args.section, c.args.slope) ∷ flat_to (λ t. (Cut c.args.section t, pos 1) ∷ (Fill c.args.section t, neg_ℤ (pos 1)) ∷ []) road.stages))
    (row (negated (volume_entries road c.args.section c.args.slope))) (ap row (below_entries road c.args.section c.args.slope)) step
