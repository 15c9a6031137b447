use Rattle.std.proofs.Common.{◌+◌, ◌-◌, ◌*◌, ◌/◌, ◌%◌, [], ◌∷◌, arith, ap, sym, ◌∙◌, refl}
use Rattle.std.specs.Prelude.{pos}
use Rattle.algebra.specs.Numbered.{IsNumber}
use Rattle.road_types.specs.Road.{segment_count}
use Rattle.road_types.specs.SectionForms.{next_height_form, next_grade_form}
use Rattle.term_store.specs.declared.side.Side.TheVariants.{Equal}
use Rattle.form_rows.specs.FormRows.{asked}
use Rattle.form_rows.proofs.PlaceLemmas.{flat_at, pair_alike, below_two}
use Rattle.section_rows.proofs.sides.continuity_side.Goals as goal

pub returns : goal.returns
returns c =
    let road = c.args.road.now in
    let at : IsNumber c.args.row ((segment_count road - 1) * 2) = record { from_one = c.requires.from_one; at_most = omega (arith, c.requires.at_most) } in
    let g = (c.args.row - 1) / 2 + 1 in
    let here = flat_at (λ g. next_height_form road g ∷ next_grade_form road g ∷ []) (segment_count road - 1) 2 c.args.row (λ k low high. refl) (omega arith) at in
    sym (ap asked here ∙ pair_alike (next_height_form road g) (next_grade_form road g) (Equal, pos 0) ((c.args.row - 1) % 2) (below_two (c.args.row - 1)) refl refl)
