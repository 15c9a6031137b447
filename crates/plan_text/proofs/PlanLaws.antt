-- A plan is read from its text, whatever follows, and what is read has the text that was taken.
use Rattle.std.proofs.Common.{◌≡◌, ℕ, ℤ, pos, Ok, List, [], ◌∷◌, ◌++◌, map, length, All, refl, ap, subst, ◌∙◌, arith, append_assoc, codes}
use Rattle.std.specs.List.{flat_map}
use Rattle.std.proofs.lemmas.List.Elements.{All-nil}
use Rattle.algebra.specs.Scale.{IsScale}
use Rattle.road_types.specs.declared.road.Road.{Road}
use Rattle.road_types.specs.Road.{segment_count, block_count}
use Rattle.plan_rules.specs.declared.plan.Plan.{Plan}
use Rattle.plan_rules.specs.Fits.{IsModerate, IsModeratePiece}
use Rattle.plan_rules.proofs.FitsLemmas.{fits_of_parts, pieces_of_fits, tables_of_fits, pieces_moderate, moderate_pieces, row_moderate}
use Rattle.plan_rules.specs.inside.FitsByParts.{IsModerateRow}
use Rattle.text_parts.specs.Lines.{Reading, lines_of}
use Rattle.plan_text.specs.LineForms.{spelled_line}
use Rattle.plan_text.specs.inside.LineReading.{repeat_due}
use Rattle.plan_text.specs.PlanText.{tables_of, piece_text, stages_text, plan_text, HasText}
use Rattle.plan_text.specs.inside.PlanReading.{piece_due, plan_due}
use Rattle.plan_text.specs.Taken.{Took}
use Rattle.plan_text.proofs.SpellsLemmas.{Spells, repeat_spells, then_ok, given_is, took_then}
use Rattle.plan_text.proofs.PartLaws.{den_spells, piece_spells, AreOpenings, opens_spells, end_spells}
use Rattle.plan_text.proofs.TableLemmas.{AreTables, tables_spells}

pieces_spell : (n : ℕ) → Spells (repeat_due n piece_due) (flat_map piece_text) (λ pieces. (length pieces ≡ n) × All IsModeratePiece pieces)
pieces_spell n = repeat_spells piece_due piece_text IsModeratePiece piece_spells n

-- a plan has a text exactly where its parts are of the road
record HasParts (road : Road) (plan : Plan) : Type 0 where
  den : IsScale plan.den
  pieces_count : length plan.pieces ≡ segment_count road
  pieces : All IsModeratePiece plan.pieces
  tables : AreTables road (tables_of plan)
  opens : AreOpenings (block_count road) plan.opens

parts_of_text : (road : Road) (plan : Plan) → HasText road plan → HasParts road plan
parts_of_text road plan h =
    let p = pieces_of_fits road plan h.fits in
    let t = tables_of_fits road plan h.fits in
    record {
      den = p.den;
      pieces_count = p.pieces_count;
      pieces = moderate_pieces plan.pieces p.pieces;
      tables = record { cut = t.cut; fill = t.fill; right = t.right; left = t.left; roads = t.roads };
      opens = record { count = p.opens; bytes = h.openings };
    }

text_of_parts : (road : Road) (plan : Plan) → HasParts road plan → HasText road plan
text_of_parts road plan h =
    record {
      fits = fits_of_parts road plan
          (record { den = h.den; pieces_count = h.pieces_count; pieces = pieces_moderate plan.pieces h.pieces; opens = h.opens.count })
          (record { cut = h.tables.cut; fill = h.tables.fill; right = h.tables.right; left = h.tables.left; roads = h.tables.roads });
      openings = h.opens.bytes;
    }

no_numbers : (numbers : List ℤ) → IsModerateRow 0 numbers → numbers ≡ []
no_numbers [] h = refl
no_numbers (n ∷ ns) h = absurd (omega (arith, h.length_is))

plan_sound : (road : Road) (before after : Reading) (plan : Plan) → plan_due road before ≡ Ok (plan, after) → Took before after (plan_text road plan) × HasText road plan
unfolding plan_due plan_text
plan_sound road before after plan e =
    let den = then_ok _ _ plan after e in
    let pieces = then_ok _ _ plan after den.3 in
    let tables = then_ok _ _ plan after pieces.3 in
    let opens = then_ok _ _ plan after tables.3 in
    let last = then_ok _ _ plan after opens.3 in
    let made : Plan = record { den = den.0; pieces = pieces.0; cut = tables.0.cut; fill = tables.0.fill; right = tables.0.right; left = tables.0.left; roads = tables.0.roads; opens = opens.0 } in
    let given = given_is made plan last.1 after last.3 in
    let d = den_spells.sound before den.1 den.0 den.2 in
    let p = (pieces_spell (segment_count road)).sound den.1 pieces.1 pieces.0 pieces.2 in
    let t = (tables_spells road).sound pieces.1 tables.1 tables.0 tables.2 in
    let o = (opens_spells (block_count road)).sound tables.1 opens.1 opens.0 opens.2 in
    let l = end_spells.sound opens.1 last.1 last.0 last.2 in
    let ending = subst (λ numbers. Took opens.1 last.1 (spelled_line (codes "end") numbers)) (no_numbers last.0 l.1) l.0 in
    let P : Plan → Reading → Type 0 = λ plan r. Took before r (plan_text road plan) × HasText road plan in
    subst (λ r. P plan r) given.1
    (subst (λ plan. P plan last.1) given.0 (
      took_then before den.1 last.1 _ _ d.0 (took_then den.1 pieces.1 last.1 _ _ p.0 (took_then pieces.1 tables.1 last.1 _ _ t.0 (took_then tables.1 opens.1 last.1 _ _ o.0 ending))),
      text_of_parts road made (record { den = d.1; pieces_count = p.1.0; pieces = p.1.1; tables = t.1; opens = o.1 }),
    ))

no_row : IsModerateRow 0 []
no_row = row_moderate 0 [] (refl, All-nil IsModerate)

plan_complete : (road : Road) (before : Reading) (at : ℕ) (plan : Plan) (rest : List ℕ) → HasText road plan → before.left ≡ lines_of at (plan_text road plan ++ rest) → (after : Reading) × (place : ℕ) × (plan_due road before ≡ Ok (plan, after)) × (after.left ≡ lines_of place rest)
unfolding plan_due plan_text
plan_complete road before at plan rest has e =
    let h = parts_of_text road plan has in
    let end_text = spelled_line (codes "end") [] in
    let opens_text = spelled_line (codes "open") (map pos plan.opens) ++ end_text in
    let tables_text = stages_text (tables_of plan) 1 road.stages ++ opens_text in
    let pieces_text = flat_map piece_text plan.pieces ++ tables_text in
    let d = den_spells.complete before at plan.den (pieces_text ++ rest) h.den (e ∙ ap (lines_of at) (append_assoc (spelled_line (codes "plan") (plan.den ∷ [])) pieces_text rest)) in
    let p = (pieces_spell (segment_count road)).complete d.0 d.1 plan.pieces (tables_text ++ rest) (h.pieces_count, h.pieces) (d.3 ∙ ap (lines_of d.1) (append_assoc (flat_map piece_text plan.pieces) tables_text rest)) in
    let t = (tables_spells road).complete p.0 p.1 (tables_of plan) (opens_text ++ rest) h.tables (p.3 ∙ ap (lines_of p.1) (append_assoc (stages_text (tables_of plan) 1 road.stages) opens_text rest)) in
    let o = (opens_spells (block_count road)).complete t.0 t.1 plan.opens (end_text ++ rest) h.opens (t.3 ∙ ap (lines_of t.1) (append_assoc (spelled_line (codes "open") (map pos plan.opens)) end_text rest)) in
    let l = end_spells.complete o.0 o.1 [] rest no_row o.3 in
    (l.0, l.1, rw (d.2, p.2, t.2, o.2, l.2) refl, l.3)

pub plan_spells : (road : Road) → Spells (plan_due road) (plan_text road) (HasText road)
plan_spells road = record { sound = plan_sound road; complete = plan_complete road }
