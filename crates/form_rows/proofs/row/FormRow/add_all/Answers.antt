use Rattle.std.proofs.Common.{◌≡◌, ℕ, ◌+◌, ◌<◌, List, [], ◌∷◌, ◌++◌, length, get_or, take, arith, ap, sym, ◌∙◌, FitsSigned, rules}
use Rattle.std.specs.Prelude.{ℤ, pos}
use Rattle.std.specs.Int.{w64}
use Rattle.std.proofs.lemmas.Int.{to_z-of_z}
use Rattle.std.proofs.lemmas.List.{take_more, append_assoc, append-nil}
use Rattle.road_types.specs.Columns.{column_number}
use Rattle.road_types.specs.RoadPrograms.{term_in, terms_of}
use Rattle.road_types.specs.declared.road.Road.{Road}
use Rattle.road_types.specs.declared.column.Column.{Column}
use Rattle.road_types.specs.declared.column.Column.TheVariants.{A}
use Rattle.form_rows.proofs.RisingLemmas.{terms_of-append}
use Rattle.form_rows.proofs.row.FormRow.add_all.Goals as goal

-- the terms of one more entry
one_entry : (road : Road) (entries : List (Column × ℤ)) (i : ℕ) (entry : Column × ℤ) → i < length entries
    → terms_of road (take (i + 1) entries) ≡ terms_of road (take i entries) ++ term_in (column_number road (get_or entries i entry).0) (get_or entries i entry).1
one_entry road entries i entry l =
    let e = get_or entries i entry in
    ap (terms_of road) (take_more entries i entry l)
    ∙ terms_of-append road (take i entries) (e ∷ [])
    ∙ ap (λ ts. terms_of road (take i entries) ++ ts) (append-nil (term_in (column_number road e.0) e.1))

pub loop-kind-preserved : goal.loop-kind-preserved
loop-kind-preserved c =
    let road = c.args.road.now in
    let entries = c.args.entries.now in
    let at = c.loop-kind.kind-index in
    let other : Column × ℤ = (A 0, pos 0) in
    let entry = get_or entries at other in
    let fits : FitsSigned w64 (get_or entries at other).1 = search rules in
    let before = terms_of road (take at entries) in
    let last = term_in (column_number road entry.0) entry.1 in
    let step : c.add.new.self ≡ c.loop-kind.self ++ last = simp to_z-of_z at c.add.ensures.terms in
    record {
      terms =
          step
          ∙ ap (λ ts. ts ++ last) c.loop-kind.invariant.terms
          ∙ append_assoc c.args.self.now before last
          ∙ ap (λ ts. c.args.self.now ++ ts) (sym (one_entry road entries at other (omega arith)));
      few = omega (arith, c.add.ensures.few);
    }
