-- Tables by stage, and the rows of their stages.
use Rattle.std.proofs.Common.{◌≡◌, ℕ, ℤ, ◌+◌, ◌-◌, ◌≤◌, zero, suc, List, [], ◌∷◌, ◌++◌, map, length, drop, get_or, All, refl, sym, ap, subst, ◌∙◌, arith, add-one}
use Rattle.std.specs.List.{flat_map}
use Rattle.std.proofs.lemmas.List.{drop_more, drop_all, length-map}
use Rattle.std.proofs.lemmas.List.Elements.{All-nil, All-cons, All-head, All-tail}
use Rattle.road_types.specs.Numbered.{numbered, IsNumber}
use Rattle.road_types.specs.declared.road.Road.{Road}
use Rattle.road_types.specs.Road.{section_count, access_count}
use Rattle.plan_rules.specs.inside.FitsByParts.{IsModerateRow, IsModerateTable}
use Rattle.plan_rules.proofs.FitsLemmas.{table_moderate}
use Rattle.plan_text.specs.declared.rows.Stage.{Stage}
use Rattle.plan_text.specs.declared.rows.Tables.{Tables}
use Rattle.plan_text.specs.PlanText.{stage_text, stages_text}
use Rattle.text_parts.specs.Lines.{lines_of}
use Rattle.plan_text.specs.Taken.{Took}
use Rattle.plan_text.specs.inside.LineReading.{Read, repeat_due}
use Rattle.plan_text.specs.inside.PlanReading.{tables_by_stage, stage_due, tables_due}
use Rattle.plan_text.proofs.SpellsLemmas.{Spells, made_spells, repeat_spells}
use Rattle.plan_text.proofs.PartLaws.{IsStageOf, rows_text, stage_spells}

-- the tables of a road's plan
pub record AreTables (road : Road) (tables : Tables) : Type 0 where
  pub cut : IsModerateTable road.stages (section_count road) tables.cut
  pub fill : IsModerateTable road.stages (section_count road) tables.fill
  pub right : IsModerateTable road.stages (section_count road - 1) tables.right
  pub left : IsModerateTable road.stages (section_count road - 1) tables.left
  pub roads : IsModerateTable road.stages (access_count road) tables.roads

-- the rows of stage t
abbrev stage_of : Tables → ℕ → Stage
stage_of tables t =
    record { cut = numbered [] tables.cut t; fill = numbered [] tables.fill t; right = numbered [] tables.right t; left = numbered [] tables.left t; roads = numbered [] tables.roads t }

-- so many stages from stage t on
abbrev stages_from : ℕ → ℕ → Tables → List Stage
stages_from t zero tables = []
stages_from t (suc n) tables = stage_of tables t ∷ stages_from (suc t) n tables

stages_text-from : (t n : ℕ) (tables : Tables) → flat_map rows_text (stages_from t n tables) ≡ stages_text tables t n
stages_text-from t zero tables = refl
stages_text-from t (suc n) tables = ap (λ text. stage_text tables t ++ text) (stages_text-from (suc t) n tables)

-- the later stages of tables that begin with a stage
later_stages : (k n : ℕ) (s : Stage) (stages : List Stage) → stages_from (suc (suc k)) n (tables_by_stage (s ∷ stages)) ≡ stages_from (suc k) n (tables_by_stage stages)
later_stages k zero s stages = refl
later_stages k (suc n) s stages =
    ap (λ others. stage_of (tables_by_stage stages) (suc k) ∷ others) (later_stages (suc k) n s stages)

stages_again : (n : ℕ) (stages : List Stage) → length stages ≡ n → stages_from 1 n (tables_by_stage stages) ≡ stages
stages_again zero [] e = refl
stages_again zero (s ∷ stages) e = absurd (omega (arith, e))
stages_again (suc n) [] e = absurd (omega (arith, e))
stages_again (suc n) (s ∷ stages) e =
    ap (λ others. s ∷ others) (later_stages 0 n s stages ∙ stages_again n stages (omega (arith, e)))

all_mapped : {A B : Type 0} (f : A → B) (P : A → Type 0) (Q : B → Type 0) → ((a : A) → P a → Q (f a)) → (xs : List A) → All P xs → All Q (map f xs)
all_mapped f P Q g [] h = All-nil Q
all_mapped f P Q g (x ∷ xs) h = All-cons Q (f x) (map f xs) (g x (All-head P x xs h)) (all_mapped f P Q g xs (All-tail P x xs h))

tables_fit : (road : Road) (stages : List Stage) → length stages ≡ road.stages → All (IsStageOf road) stages → AreTables road (tables_by_stage stages)
tables_fit road stages e h =
    let P = IsStageOf road in
    record {
      cut = table_moderate road.stages (section_count road) (map (λ s. s.cut) stages) (length-map stages (λ s. s.cut) ∙ e, all_mapped (λ s. s.cut) P (IsModerateRow (section_count road)) (λ s p. p.cut) stages h);
      fill = table_moderate road.stages (section_count road) (map (λ s. s.fill) stages) (length-map stages (λ s. s.fill) ∙ e, all_mapped (λ s. s.fill) P (IsModerateRow (section_count road)) (λ s p. p.fill) stages h);
      right = table_moderate road.stages (section_count road - 1) (map (λ s. s.right) stages) (length-map stages (λ s. s.right) ∙ e, all_mapped (λ s. s.right) P (IsModerateRow (section_count road - 1)) (λ s p. p.right) stages h);
      left = table_moderate road.stages (section_count road - 1) (map (λ s. s.left) stages) (length-map stages (λ s. s.left) ∙ e, all_mapped (λ s. s.left) P (IsModerateRow (section_count road - 1)) (λ s p. p.left) stages h);
      roads = table_moderate road.stages (access_count road) (map (λ s. s.roads) stages) (length-map stages (λ s. s.roads) ∙ e, all_mapped (λ s. s.roads) P (IsModerateRow (access_count road)) (λ s p. p.roads) stages h);
    }

-- the rows from the row at place k on are those that stand from there on
rows_again : (field : Stage → List ℤ) (rows : List (List ℤ)) (tables : Tables) → ((t : ℕ) → field (stage_of tables t) ≡ numbered [] rows t) → (k n : ℕ) → k + n ≡ length rows → map field (stages_from (suc k) n tables) ≡ drop k rows
rows_again field rows tables same k zero e = sym (drop_all k rows (omega (arith, e)))
rows_again field rows tables same k (suc n) e =
    ap (λ row. row ∷ map field (stages_from (suc (suc k)) n tables)) (same (suc k))
    ∙ ap (λ others. numbered [] rows (suc k) ∷ others) (rows_again field rows tables same (suc k) n (omega (arith, e)))
    ∙ sym (drop_more rows k [] (omega (arith, e)) ∙ ap (λ m. get_or rows k [] ∷ drop m rows) (add-one k))

same_tables : (a b : Tables) → a.cut ≡ b.cut → a.fill ≡ b.fill → a.right ≡ b.right → a.left ≡ b.left → a.roads ≡ b.roads → a ≡ b
same_tables a b c f r l q =
    let make : List (List ℤ) → List (List ℤ) → List (List ℤ) → List (List ℤ) → List (List ℤ) → Tables = λ cut fill right left roads. record { cut = cut; fill = fill; right = right; left = left; roads = roads } in
    ap (λ x. make x a.fill a.right a.left a.roads) c
    ∙ ap (λ x. make b.cut x a.right a.left a.roads) f
    ∙ ap (λ x. make b.cut b.fill x a.left a.roads) r
    ∙ ap (λ x. make b.cut b.fill b.right x a.roads) l
    ∙ ap (λ x. make b.cut b.fill b.right b.left x) q

tables_again : (n : ℕ) (tables : Tables) → length tables.cut ≡ n → length tables.fill ≡ n → length tables.right ≡ n → length tables.left ≡ n → length tables.roads ≡ n → tables_by_stage (stages_from 1 n tables) ≡ tables
tables_again n tables c f r l q =
    same_tables (tables_by_stage (stages_from 1 n tables)) tables
    (rows_again (λ s. s.cut) tables.cut tables (λ t. refl) 0 n (omega (arith, c)))
    (rows_again (λ s. s.fill) tables.fill tables (λ t. refl) 0 n (omega (arith, f)))
    (rows_again (λ s. s.right) tables.right tables (λ t. refl) 0 n (omega (arith, r)))
    (rows_again (λ s. s.left) tables.left tables (λ t. refl) 0 n (omega (arith, l)))
    (rows_again (λ s. s.roads) tables.roads tables (λ t. refl) 0 n (omega (arith, q)))

row_of_table : (stages entries : ℕ) (rows : List (List ℤ)) → IsModerateTable stages entries rows → (t : ℕ) → IsNumber t stages → IsModerateRow entries (numbered [] rows t)
row_of_table stages entries rows h t n = record { length_is = h.is_table.each_length t n; moderate = h.moderate t }

stages_fit : (road : Road) (tables : Tables) → AreTables road tables → (k n : ℕ) → k + n ≤ road.stages → All (IsStageOf road) (stages_from (suc k) n tables)
stages_fit road tables h k zero e = All-nil (IsStageOf road)
stages_fit road tables h k (suc n) e =
    let number : IsNumber (suc k) road.stages = record { from_one = omega arith; at_most = omega (arith, e) } in
    All-cons (IsStageOf road) (stage_of tables (suc k)) (stages_from (suc (suc k)) n tables)
    (record {
      cut = row_of_table road.stages (section_count road) tables.cut h.cut (suc k) number;
      fill = row_of_table road.stages (section_count road) tables.fill h.fill (suc k) number;
      right = row_of_table road.stages (section_count road - 1) tables.right h.right (suc k) number;
      left = row_of_table road.stages (section_count road - 1) tables.left h.left (suc k) number;
      roads = row_of_table road.stages (access_count road) tables.roads h.roads (suc k) number;
    })
    (stages_fit road tables h (suc k) n (omega (arith, e)))

length-stages_from : (t n : ℕ) (tables : Tables) → length (stages_from t n tables) ≡ n
length-stages_from t zero tables = refl
length-stages_from t (suc n) tables = ap suc (length-stages_from (suc t) n tables)

retext_spells : {A : Type 0} (read : Read A) (text other : A → List ℕ) (Fit : A → Type 0) → Spells read text Fit → ((a : A) → text a ≡ other a) → Spells read other Fit
retext_spells read text other Fit s same =
    record {
      sound = λ before after a e. let got = s.sound before after a e in (subst (λ t. Took before after t) (same a) got.0, got.1);
      complete = λ before at a rest h e. s.complete before at a rest h (e ∙ ap (λ t. lines_of at (t ++ rest)) (sym (same a)));
    }

pub tables_spells : (road : Road) → Spells (tables_due road) (λ tables. stages_text tables 1 road.stages) (AreTables road)
unfolding tables_due
tables_spells road =
    retext_spells (tables_due road) (λ tables. flat_map rows_text (stages_from 1 road.stages tables)) (λ tables. stages_text tables 1 road.stages) (AreTables road)
    (made_spells (repeat_due road.stages (stage_due road)) (flat_map rows_text) (λ stages. (length stages ≡ road.stages) × All (IsStageOf road) stages) tables_by_stage (stages_from 1 road.stages) (AreTables road)
    (repeat_spells (stage_due road) rows_text (IsStageOf road) (stage_spells road) road.stages)
    (λ stages h. (stages_again road.stages stages h.0, tables_fit road stages h.0 h.1))
    (λ tables h. (tables_again road.stages tables h.cut.is_table.length_is h.fill.is_table.length_is h.right.is_table.length_is h.left.is_table.length_is h.roads.is_table.length_is, (length-stages_from 1 road.stages tables, stages_fit road tables h 0 road.stages (omega arith)))))
    (stages_text-from 1 road.stages)
