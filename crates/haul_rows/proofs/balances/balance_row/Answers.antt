use Rattle.std.proofs.Common.{◌≡◌, ℕ, ◌-◌, List, [], ◌∷◌, ◌++◌, ap, sym, ◌∙◌}
use Rattle.std.specs.Prelude.{ℤ, pos, neg_ℤ}
use Rattle.algebra.specs.Lists.{list_to}
use Rattle.road_types.specs.HaulForms.{brought, balance_form}
use Rattle.road_types.specs.Road.{access_count}
use Rattle.road_types.specs.RoadPrograms.{terms_of}
use Rattle.road_types.specs.declared.column.Column.{Column}
use Rattle.road_types.specs.declared.column.Column.TheVariants.{Cut, Fill, Access}
use Rattle.form_rows.specs.FormRows.{form_terms}
use Rattle.form_rows.proofs.GrewLemmas.{rising_fits}
use Rattle.road_types.specs.declared.column.Column.TheVariants.{Right, Left}
use Rattle.road_types.specs.declared.road.Road.{Road}
use Rattle.term_store.specs.declared.term.Term.{Term}
use Rattle.form_rows.proofs.RisingLemmas.{balance_row_rises, terms_of-append}
use Rattle.haul_rows.proofs.balances.balance_row.Goals as goal

-- the entries before those of access roads
hauled : ℕ → ℕ → List (Column × ℤ)
hauled t i =
    (Cut i t, pos 1) ∷ (Fill i t, neg_ℤ (pos 1)) ∷ (Right (i - 1) t, pos 1) ∷ (Right i t, neg_ℤ (pos 1)) ∷ (Left (i - 1) t, neg_ℤ (pos 1)) ∷ (Left i t, pos 1) ∷ []

whole_row : (road : Road) (t i : ℕ) (none first all : List (Term ℤ)) → none ≡ [] → first ≡ none ++ terms_of road (hauled t i)
    → all ≡ first ++ terms_of road (list_to (λ q. (Access q t, brought road i q)) (access_count road)) → all ≡ form_terms road (balance_form road t i)
unfolding hauled
whole_row road t i none first all e p q =
    q
    ∙ ap (λ ts. ts ++ terms_of road (list_to (λ q. (Access q t, brought road i q)) (access_count road))) (p ∙ ap (λ ts. ts ++ terms_of road (hauled t i)) e)
    ∙ sym (terms_of-append road (hauled t i) (list_to (λ q. (Access q t, brought road i q)) (access_count road)))

pub put-requires-clause-fits : goal.put-requires-clause-fits
unfolding hauled
put-requires-clause-fits c =
    let road = c.args.road.now in
    let t = c.args.stage in
    let i = c.args.section in
    let terms = whole_row road t i c.clear.new.self c.add_all.new.self c.add_brought.new.row c.clear.ensures c.add_all.ensures.terms c.add_brought.ensures.terms in
    rising_fits road (balance_form road t i).entries c.add_brought.new.row c.args.rows.now.width terms
    (balance_row_rises road t i (pos 1) (neg_ℤ (pos 1)) (pos 1) (neg_ℤ (pos 1)) (neg_ℤ (pos 1)) (pos 1) (brought road i)
    c.requires.accepted.well_formed.counted c.requires.stage c.requires.section)
    c.requires.width

pub returns : goal.returns
unfolding hauled
returns c =
    let road = c.args.road.now in
    let t = c.args.stage in
    let i = c.args.section in
    let terms = whole_row road t i c.clear.new.self c.add_all.new.self c.add_brought.new.row c.clear.ensures c.add_all.ensures.terms c.add_brought.ensures.terms in
    rw terms at c.put.ensures
