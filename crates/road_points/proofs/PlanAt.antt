-- The plan that a point shows.
use Rattle.std.proofs.Common.{◌≡◌, ℕ, zero, suc, ◌-◌, ◌<◌, List, [], ◌∷◌, length, get_or, arith, ap, sym, ◌∙◌, refl, subst, ⊎_elim}
use Rattle.std.specs.Prelude.{ℤ, pos, ◌≤ℤ◌}
use Rattle.algebra.specs.Lists.{list_to}
use Rattle.algebra.proofs.ListsLemmas.{length-list_to, list_to_entry}
use Rattle.road_types.specs.Numbered.{numbered, IsNumber}
use Rattle.road_types.specs.Road.{section_count, segment_count, hop_count, access_count, block_count}
use Rattle.road_types.specs.declared.road.Road.{Road}
use Rattle.road_types.specs.declared.column.Column.{Column}
use Rattle.road_types.specs.declared.column.Column.TheVariants.{A, B, C, Cut, Fill, Right, Left, Access}
use Rattle.plan_rules.specs.declared.plan.Piece.{Piece}
use Rattle.plan_rules.specs.declared.plan.Plan.{Plan}
use Rattle.plan_rules.specs.Plans.{no_piece, piece_of, amount, opening, IsTableOf, IsPlanOf}
use Rattle.road_points.specs.Shown.{shown}
use Rattle.road_points.specs.ShownPlan.{table_to, piece_at, opening_at, plan_at}
use Rattle.road_points.proofs.Shows.{ShowsPieces, ShowsAmounts}
use Rattle.road_points.proofs.PointShows.{is_number_or_not, numbered_none, number_along, shown_none, shown_table}

-- ---- lists by number

pub numbered_list_to : {A : Type 0} (other : A) (f : ℕ → A) (n k : ℕ) → IsNumber k n → numbered other (list_to f n) k ≡ f k
numbered_list_to other f n zero m = absurd (omega (arith, m.from_one))
numbered_list_to other f n (suc k) m =
    let e = list_to_entry f n (suc k) m.from_one m.at_most in
    let same : e.before ≡ k = omega (arith, e.number) in
    let here : get_or (list_to f n) k (f (suc k)) ≡ f (suc k) = subst (λ (i : ℕ). get_or (list_to f n) i (f (suc k)) ≡ f (suc k)) same e.is_entry in
    other_default other (f (suc k)) (list_to f n) k (omega (arith, m.at_most, length-list_to f n)) ∙ here
  where
    other_default : {A : Type 0} (d e : A) (xs : List A) (i : ℕ) → i < length xs → get_or xs i d ≡ get_or xs i e
    other_default d e [] i l = absurd (omega arith)
    other_default d e (x ∷ xs) zero l = refl
    other_default d e (x ∷ xs) (suc i) l = other_default d e xs i (omega arith)

-- ---- the plan

is_table : (f : ℕ → ℕ → ℤ) (stages entries : ℕ) → IsTableOf stages entries (table_to f stages entries)
is_table f stages entries = record {
  length_is = length-list_to (λ t. list_to (λ i. f i t) entries) stages;
  each_length = λ t n. ap length (numbered_list_to [] (λ t. list_to (λ i. f i t) entries) stages t n) ∙ length-list_to (λ i. f i t) entries;
}

amount_of_table : (f : ℕ → ℕ → ℤ) (stages entries t i : ℕ) → IsNumber i entries × IsNumber t stages → f i t ≡ amount (table_to f stages entries) t i
amount_of_table f stages entries t i n =
    sym (ap (λ row. numbered (pos 0) row i) (numbered_list_to [] (λ t. list_to (λ i. f i t) entries) stages t n.1) ∙ numbered_list_to (pos 0) (λ i. f i t) entries i n.0)

pub plan_at_is_plan : (road : Road) (den : ℤ) (f : Column → ℤ) → pos 1 ≤ℤ den → IsPlanOf road (plan_at road den f)
plan_at_is_plan road den f positive = record {
  den = positive;
  pieces = length-list_to (piece_at f) (segment_count road);
  cut = is_table (λ i t. f (Cut i t)) road.stages (section_count road);
  fill = is_table (λ i t. f (Fill i t)) road.stages (section_count road);
  right = is_table (λ h t. f (Right h t)) road.stages (section_count road - 1);
  left = is_table (λ h t. f (Left h t)) road.stages (section_count road - 1);
  roads = is_table (λ q t. f (Access q t)) road.stages (access_count road);
  opens = length-list_to (opening_at road f) (block_count road);
}

module _ (road : Road) (den : ℤ) (point : List ℤ) (hops : hop_count road ≡ section_count road - 1) where
  abbrev f : Column → ℤ
  f = shown road point

  abbrev plan : Plan
  plan = plan_at road den f

  piece_part : (kind : Column) (part : Piece → ℤ) (g : ℕ) → part no_piece ≡ pos 0 → part (piece_at f g) ≡ f kind → ((IsNumber g (segment_count road) → ⊥) → f kind ≡ pos 0)
      → f kind ≡ part (piece_of plan g)
  piece_part kind part g empty same none =
      ⊎_elim
      (λ (n : IsNumber g (segment_count road)). sym (ap part (numbered_list_to no_piece (piece_at f) (segment_count road) g n) ∙ same))
      (λ (n : IsNumber g (segment_count road) → ⊥).
      none n ∙ sym (ap part (numbered_none no_piece (list_to (piece_at f) (segment_count road)) g (λ m. n (number_along g (length (list_to (piece_at f) (segment_count road))) (segment_count road) (length-list_to (piece_at f) (segment_count road)) m))) ∙ empty))
      (is_number_or_not g (segment_count road))

  pub plan_at_shows_pieces : ShowsPieces plan f
  plan_at_shows_pieces = record {
    a = λ g. piece_part (A g) (λ p. p.a) g refl refl (shown_none road point (A g));
    b = λ g. piece_part (B g) (λ p. p.b) g refl refl (shown_none road point (B g));
    c = λ g. piece_part (C g) (λ p. p.c) g refl refl (shown_none road point (C g));
  }

  of_hop : (h t : ℕ) → IsNumber h (hop_count road) × IsNumber t road.stages → IsNumber h (section_count road - 1) × IsNumber t road.stages
  of_hop h t n = (number_along h (hop_count road) (section_count road - 1) hops n.0, n.1)

  pub plan_at_shows_amounts : ShowsAmounts plan f
  plan_at_shows_amounts = record {
    cut = λ i t. shown_table road point (Cut i t) plan.cut (section_count road) t i (is_table (λ i t. f (Cut i t)) road.stages (section_count road)) (λ n. n) (amount_of_table (λ i t. f (Cut i t)) road.stages (section_count road) t i);
    fill = λ i t. shown_table road point (Fill i t) plan.fill (section_count road) t i (is_table (λ i t. f (Fill i t)) road.stages (section_count road)) (λ n. n) (amount_of_table (λ i t. f (Fill i t)) road.stages (section_count road) t i);
    right = λ h t. shown_table road point (Right h t) plan.right (section_count road - 1) t h (is_table (λ h t. f (Right h t)) road.stages (section_count road - 1)) (of_hop h t) (amount_of_table (λ h t. f (Right h t)) road.stages (section_count road - 1) t h);
    left = λ h t. shown_table road point (Left h t) plan.left (section_count road - 1) t h (is_table (λ h t. f (Left h t)) road.stages (section_count road - 1)) (of_hop h t) (amount_of_table (λ h t. f (Left h t)) road.stages (section_count road - 1) t h);
    access = λ q t. shown_table road point (Access q t) plan.roads (access_count road) t q (is_table (λ q t. f (Access q t)) road.stages (access_count road)) (λ n. n) (amount_of_table (λ q t. f (Access q t)) road.stages (access_count road) t q);
  }

  pub opening_of_plan_at : (k : ℕ) → IsNumber k (block_count road) → opening plan k ≡ opening_at road f k
  opening_of_plan_at k n = numbered_list_to 0 (opening_at road f) (block_count road) k n
