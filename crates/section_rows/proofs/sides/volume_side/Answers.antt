use Rattle.std.proofs.Common.{◌≡◌, ℕ, zero, suc, ◌+◌, ◌-◌, ◌*◌, ◌/◌, ◌%◌, ◌<◌, arith, ap, sym, ◌∙◌, refl, FitsSigned, rules}
use Rattle.std.specs.Int.{w64}
use Rattle.std.proofs.lemmas.Int.{to_z-of_z}
use Rattle.algebra.specs.Numbered.{numbered, IsNumber}
use Rattle.road_types.specs.Forms.{no_form}
use Rattle.road_types.specs.Lines.{Lines}
use Rattle.road_types.specs.Road.{section_count}
use Rattle.road_types.specs.RoadPrograms.{lines_in}
use Rattle.road_types.specs.SectionForms.{lines_forms}
use Rattle.road_types.specs.declared.road.Road.{Road}
use Rattle.term_store.specs.declared.side.Side.TheVariants.{AtLeast}
use Rattle.form_rows.specs.FormRows.{asked}
use Rattle.form_rows.proofs.PlaceLemmas.{flat_at}
use Rattle.section_rows.specs.inside.Rights.{right_at}
use Rattle.std.proofs.Math.Nat.{mod-lt}
use Rattle.section_rows.proofs.sides.volume_side.Goals as goal

-- what the four rows of a section ask
line_asked : (road : Road) (i : ℕ) (lines : Lines) (p : ℕ) → p < 4 → asked (numbered no_form (lines_forms road i lines) (p + 1)) ≡ (AtLeast, right_at p lines)
line_asked road i lines zero l = refl
line_asked road i lines (suc zero) l = refl
line_asked road i lines (suc (suc zero)) l = refl
line_asked road i lines (suc (suc (suc zero))) l = refl
line_asked road i lines (suc (suc (suc (suc p)))) l = absurd (omega arith)

pub returns : goal.returns
returns c =
    let road = c.args.road.now in
    let lines = (lines_in c.args.road.now c.args.ranges.now.heights) in
    let at : IsNumber c.args.row (section_count road * 4) = record { from_one = c.requires.row.from_one; at_most = omega (arith, c.requires.row.at_most) } in
    let i = (c.args.row - 1) / 4 + 1 in
    let p = (c.args.row - 1) % 4 in
    let positive : 0 < 4 = omega arith in
    let here = flat_at (λ i. lines_forms road i (lines i)) (section_count road) 4 c.args.row (λ k low high. refl) (omega arith) at in
    let form = ap asked here ∙ line_asked road i (lines i) p (mod-lt (c.args.row - 1) positive) in
    let fits : FitsSigned w64 c.volume_right.result = search rules in
    simp to_z-of_z (rw c.volume_right.ensures (sym form))
