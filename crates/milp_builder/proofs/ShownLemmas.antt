-- Steps of the search for the plan that a point shows.
use Rattle.std.proofs.Common.{◌≡◌, ℕ, suc, ◌+◌, ◌-◌, ◌≤◌, ◌<◌, Option, Some, None, List, [], ◌∷◌, ◌++◌, length, get_or, arith, ap, sym, ◌∙◌, refl, subst, ⊎_elim, inl, inr}
use Rattle.std.specs.Prelude.{ℤ, pos, if◌then◌else◌}
use Rattle.std.specs.Ordering.{int_eq}
use Rattle.std.proofs.lemmas.Bool.{cases_lt}
use Rattle.algebra.specs.Lists.{list_to}
use Rattle.road_types.specs.Numbered.{numbered, IsNumber}
use Rattle.road_types.specs.Road.{section, section_count, segment_count, hop_count, access_count, block_count}
use Rattle.road_types.specs.Columns.{columns_of, column_number}
use Rattle.road_types.specs.declared.road.Road.{Road}
use Rattle.road_types.specs.declared.column.Column.{Column}
use Rattle.road_types.specs.declared.column.Column.TheVariants.{Cut, Fill, Right, Left, Access}
use Rattle.road_types.proofs.ColumnPlaces.{IsColumn-from_number}
use Rattle.road_points.specs.Shown.{shown_at, shown, IsExactAt}
use Rattle.road_points.specs.ShownPlan.{zeros_to, table_to, piece_at, opening_at, plan_at}
use Rattle.algebra.specs.Scale.{IsScale}
use Rattle.programs.specs.Points.{IsPoint}
use Rattle.road_types.specs.Ranges.{height_range}
use Rattle.road_types.specs.Accepted.{IsAccepted}
use Rattle.volume_lines.specs.InnerBreakpoints.{HasBreakpointInside}
use Rattle.plan_rules.specs.declared.plan.Plan.{Plan}
use Rattle.road_points.proofs.OnlyPlan.{same_parts}
use Rattle.milp_builder.specs.Boxes.{IsBoxOf}
use Rattle.milp_builder.specs.BoxPrograms.{box_program}
use Rattle.milp_builder.specs.FoundPlans.{HasPartRemoval, IsOtherVolume, IsPlanOfPoint, IsFoundPlan}
use Rattle.milp_builder.specs.inside.ShownPlans.{IsShownPlan}
use Rattle.milp_builder.specs.declared.boxes.BoxRange.{BoxRange}
use Rattle.milp_builder.proofs.BoxLaws.{points_are_plans, shown_plan_is}

-- what is shown in a kind's column stands at the place before its number
pub record IsShownAt (road : Road) (point : List ℤ) (kind : Column) (j : ℕ) : Type 0 where
  pub from_one : 1 ≤ j
  pub within : j - 1 < length (columns_of road)
  pub shown_is : shown road point kind ≡ get_or point (j - 1) (pos 0)

pub shown_in : (road : Road) (point : List ℤ) (kind : Column) (j : ℕ) → Some j ≡ column_number road kind → IsShownAt road point kind j
shown_in road point kind j h =
    let e = IsColumn-from_number road kind j (sym h) in
    let same : e.before ≡ j - 1 = omega (arith, e.number) in
    record {
      from_one = omega (arith, e.number);
      within = omega (arith, e.within);
      shown_is = ap (shown_at point) (sym h) ∙ ap (numbered (pos 0) point) e.number ∙ ap (λ k. get_or point k (pos 0)) same;
    }

-- ---- what holds at each number so far

-- of a number below the next one
pub numbers_more : (P : ℕ → Type 0) (n : ℕ) → ((k : ℕ) → IsNumber k n → P k) → P (n + 1) → (k : ℕ) → IsNumber k (n + 1) → P k
numbers_more P n before here k m =
    ⊎_elim
    (λ (l : k < n + 1). before k (record { from_one = m.from_one; at_most = omega arith }))
    (λ (l : n + 1 ≤ k). let e : n + 1 ≡ k = omega (arith, m.at_most) in subst P e here)
    (cases_lt k (n + 1))

pub stages_more : (P : ℕ → Type 0) (n : ℕ) → ((k : ℕ) → 2 ≤ k → k < n → P k) → P n → (k : ℕ) → 2 ≤ k → k < n + 1 → P k
stages_more P n before here k low high =
    ⊎_elim
    (λ (l : k < n). before k low l)
    (λ (l : n ≤ k). let e : n ≡ k = omega arith in subst P e here)
    (cases_lt k n)

-- ---- lists and counts by number

pub list_more : {A : Type 0} (f : ℕ → A) (n : ℕ) → list_to f (n + 1) ≡ list_to f n ++ (f (n + 1) ∷ [])
list_more f n = let e : n + 1 ≡ suc n = omega arith in ap (list_to f) e ∙ ap (λ k. list_to f n ++ (f k ∷ [])) (sym e)

pub zeros_none : (h : ℕ → ℤ) → zeros_to h 0 ≡ 0
unfolding zeros_to
zeros_none h = refl

pub zeros_more : (h : ℕ → ℤ) (n : ℕ) → zeros_to h (n + 1) ≡ zeros_to h n + (if int_eq (h (n + 1)) (pos 0) then 1 else 0)
unfolding zeros_to
zeros_more h n =
    let s : n + 1 ≡ suc n = omega arith in
    ap (zeros_to h) s ∙ ap (λ k. zeros_to h n + (if int_eq (h k) (pos 0) then 1 else 0)) (sym s)

-- ---- the whole plan

-- a plan is made of its parts
pub plan_of_parts : (road : Road) (den : ℤ) (f : Column → ℤ) (plan : Plan) → hop_count road ≡ section_count road - 1 → plan.den ≡ den
    → plan.pieces ≡ list_to (piece_at f) (segment_count road)
    → plan.cut ≡ table_to (λ i t. f (Cut i t)) road.stages (section_count road)
    → plan.fill ≡ table_to (λ i t. f (Fill i t)) road.stages (section_count road)
    → plan.right ≡ table_to (λ h t. f (Right h t)) road.stages (hop_count road)
    → plan.left ≡ table_to (λ h t. f (Left h t)) road.stages (hop_count road)
    → plan.roads ≡ table_to (λ q t. f (Access q t)) road.stages (access_count road)
    → plan.opens ≡ list_to (opening_at road f) (block_count road)
    → plan ≡ plan_at road den f
plan_of_parts road den f plan hops a b c d e g h i =
    same_parts plan (plan_at road den f) a b c d
    (e ∙ ap (table_to (λ h t. f (Right h t)) road.stages) hops)
    (g ∙ ap (table_to (λ h t. f (Left h t)) road.stages) hops)
    h i

-- what is found by the point's own plan is what is asked for
pub found_from_shown : (road : Road) (accepted : IsAccepted road) (box : BoxRange) (den : ℤ) (point : List ℤ) → IsBoxOf road box → IsScale den → IsPoint (box_program road box) den point
    → (found : Option Plan) → IsShownPlan road den point found → IsFoundPlan road box den point found
found_from_shown road accepted box den point fits scale is_point None h =
    ⊎_elim
    (λ (p : HasPartRemoval road den point). inl p)
    (λ (p : (i : ℕ) × IsOtherVolume road den point i).
    let other = p.1 in
    inr (
      p.0,
      (
        other,
        ⊎_elim
            (λ (e : IsExactAt road den point p.0). absurd (other.not_exact e))
            (λ (b : HasBreakpointInside (section road p.0) (height_range box.heights p.0)). b)
            ((points_are_plans road accepted).volumes box den point fits scale.from_one is_point p.0 other.number),
      ),
    ))
    h
found_from_shown road accepted box den point fits scale is_point (Some plan) h =
    subst (IsPlanOfPoint road box den point) (sym h.1.1) (shown_plan_is road accepted box den point fits scale.from_one is_point h.0 h.1.0)
