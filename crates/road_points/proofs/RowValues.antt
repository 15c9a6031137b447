-- The value of each row where values of kinds show a plan: in the words of the plan's rules.
use Rattle.std.proofs.Common.{◌≡◌, ℕ, ◌+◌, ◌-◌, Bool, true, false, List, [], ◌∷◌, arith, ap, ◌∙◌}
use Rattle.std.specs.Prelude.{ℤ, pos, neg_ℤ, ◌+ℤ◌, ◌-ℤ◌, ◌*ℤ◌, ◌==◌, ◌&&◌, if◌then◌else◌}
use Rattle.std.proofs.lemmas.Int.{ints}
use Rattle.algebra.specs.Lists.{list_to, flat_to}
use Rattle.algebra.specs.Sums.{sum_to}
use Rattle.algebra.proofs.Products.{mults, numerals, int_neg_mul}
use Rattle.algebra.proofs.SumsLemmas.{sum_to_ext, sum_to_sub, sum_to_neg, sum_to_swap, sum_to_mul_left}
use Rattle.road_types.specs.Heights.{height_along, grade_along, segment_at, segment_length, steps_along}
use Rattle.road_types.specs.Road.{section, access, block, pit, access_count, same_kind}
use Rattle.road_types.specs.SectionForms.{height_entries, grade_entries, station_entries, offset_form, next_height_form, next_grade_form, volume_entries}
use Rattle.road_types.specs.HaulForms.{brought, balance_form, taken, pit_form, greatest_haul_out, transit_form, cut_stop_form, fill_stop_form, order_form}
use Rattle.road_types.specs.declared.road.Road.{Road}
use Rattle.road_types.specs.declared.road.PitKind.{PitKind}
use Rattle.road_types.specs.declared.road.PitKind.TheVariants.{Borrow, Waste}
use Rattle.road_types.specs.declared.column.Column.{Column}
use Rattle.road_types.specs.declared.column.Column.TheVariants.{A, B, C, Offset, Cut, Fill, Right, Left, Access, Opened}
use Rattle.plan_rules.specs.declared.plan.Plan.{Plan}
use Rattle.plan_rules.specs.Plans.{piece_of, amount}
use Rattle.plan_rules.specs.Rules.{height_at, end_height, end_grade, fill_less_cut, access_amount, pit_share, access_share, borrowed_in, wasted_out, hauled_out, earth_in, earth_out}
use Rattle.road_points.proofs.FormValues.{form_value, form_value-append, form_value-list_to, form_value-flat_to}
use Rattle.road_points.proofs.Shows.{ShowsPieces, ShowsAmounts}

-- ---- heights and grades

height_entries_value : (f : Column → ℤ) (g : ℕ) (s : ℤ) → form_value f (height_entries g s) ≡ height_along (f (A g)) (f (B g)) (f (C g)) s
height_entries_value f g s = simp mults (omega (arith, ints))

grade_entries_value : (f : Column → ℤ) (g : ℕ) (s : ℤ) → form_value f (grade_entries g s) ≡ grade_along (f (B g)) (f (C g)) s
grade_entries_value f g s = simp mults (omega (arith, ints, numerals))

module _ (plan : Plan) (f : Column → ℤ) (pieces : ShowsPieces plan f) where
  pub height_value : (g : ℕ) (s : ℤ) → form_value f (height_entries g s) ≡ height_along (piece_of plan g).a (piece_of plan g).b (piece_of plan g).c s
  height_value g s =
      height_entries_value f g s
      ∙ ap (λ a. height_along a (f (B g)) (f (C g)) s) (pieces.a g)
      ∙ ap (λ b. height_along (piece_of plan g).a b (f (C g)) s) (pieces.b g)
      ∙ ap (λ c. height_along (piece_of plan g).a (piece_of plan g).b c s) (pieces.c g)

  pub grade_value : (g : ℕ) (s : ℤ) → form_value f (grade_entries g s) ≡ grade_along (piece_of plan g).b (piece_of plan g).c s
  grade_value g s =
      grade_entries_value f g s
      ∙ ap (λ b. grade_along b (f (C g)) s) (pieces.b g)
      ∙ ap (λ c. grade_along (piece_of plan g).b c s) (pieces.c g)

  pub station_value : (road : Road) (station : ℤ) → form_value f (station_entries road station) ≡ height_at road plan station
  station_value road station = height_value (segment_at road.knots station) (steps_along road.knots station)

  pub offset_value : (road : Road) (i : ℕ) → form_value f (offset_form road i).entries ≡ height_at road plan (section road i).station -ℤ f (Offset i)
  offset_value road i =
      let station = (section road i).station in
      omega (arith, ints, form_value-append f (station_entries road station) ((Offset i, neg_ℤ (pos 1)) ∷ []), station_value road station)

  pub next_height_value : (road : Road) (g : ℕ) → form_value f (next_height_form road g).entries ≡ end_height road plan g -ℤ (piece_of plan (g + 1)).a
  next_height_value road g =
      let s = segment_length road.knots g in
      omega (arith, ints, form_value-append f (height_entries g s) ((A (g + 1), neg_ℤ (pos 1)) ∷ []), height_value g s, pieces.a (g + 1))

  pub next_grade_value : (road : Road) (g : ℕ) → form_value f (next_grade_form road g).entries ≡ end_grade road plan g -ℤ (piece_of plan (g + 1)).b
  next_grade_value road g =
      let s = segment_length road.knots g in
      omega (arith, ints, form_value-append f (grade_entries g s) ((B (g + 1), neg_ℤ (pos 1)) ∷ []), grade_value g s, pieces.b (g + 1))

-- ---- what is moved

-- what an access road brings is borrowed, or wasted
brought_parts : (here : Bool) (kind : PitKind) (x : ℤ)
    → (if here && same_kind Borrow kind then pos 1 else if here && same_kind Waste kind then neg_ℤ (pos 1) else pos 0) *ℤ x
    ≡ (if here && same_kind Borrow kind then x else pos 0) -ℤ (if here && same_kind Waste kind then x else pos 0)
brought_parts true Borrow x = omega (arith, ints)
brought_parts true Waste x = omega (arith, ints)
brought_parts false Borrow x = omega (arith, ints)
brought_parts false Waste x = omega (arith, ints)

taken_part : (mine : Bool) (x : ℤ) → (if mine then neg_ℤ (pos 1) else pos 0) *ℤ x ≡ neg_ℤ (if mine then x else pos 0)
taken_part true x = omega (arith, ints)
taken_part false x = omega (arith, ints)

module _ (road : Road) (plan : Plan) (f : Column → ℤ) (amounts : ShowsAmounts plan f) where
  moved_value : (i : ℕ) → form_value f (flat_to (λ t. (Cut i t, neg_ℤ (pos 1)) ∷ (Fill i t, pos 1) ∷ []) road.stages) ≡ sum_to (fill_less_cut plan i) road.stages
  moved_value i =
      form_value-flat_to f (λ t. (Cut i t, neg_ℤ (pos 1)) ∷ (Fill i t, pos 1) ∷ []) road.stages
      ∙ sum_to_ext (λ t. form_value f ((Cut i t, neg_ℤ (pos 1)) ∷ (Fill i t, pos 1) ∷ [])) (fill_less_cut plan i) road.stages
      (λ t low high. omega (arith, ints, amounts.cut i t, amounts.fill i t))

  pub volume_value : (i : ℕ) (slope : ℤ) → form_value f (volume_entries road i slope) ≡ sum_to (fill_less_cut plan i) road.stages -ℤ slope *ℤ f (Offset i)
  volume_value i slope = omega (arith, ints, moved_value i, int_neg_mul slope (f (Offset i)))

  access_value : (t i : ℕ) → form_value f (list_to (λ q. (Access q t, brought road i q)) (access_count road)) ≡ borrowed_in road plan t i -ℤ wasted_out road plan t i
  access_value t i =
      form_value-list_to f (λ q. (Access q t, brought road i q)) (access_count road)
      ∙ sum_to_ext (λ q. brought road i q *ℤ f (Access q t)) (λ q. access_share road plan Borrow t i q -ℤ access_share road plan Waste t i q) (access_count road)
      (λ q low high.
      ap (λ x. brought road i q *ℤ x) (amounts.access q t)
      ∙ brought_parts ((access road q).section == i) (pit road (access road q).pit).kind (amount plan.roads t q))
      ∙ sum_to_sub (access_share road plan Borrow t i) (access_share road plan Waste t i) (access_count road)

  pub balance_value : (t i : ℕ) → form_value f (balance_form road t i).entries ≡ earth_in road plan t i -ℤ earth_out road plan t i
  balance_value t i =
      let here : List (Column × ℤ) = (Cut i t, pos 1) ∷ (Fill i t, neg_ℤ (pos 1)) ∷ (Right (i - 1) t, pos 1) ∷ (Right i t, neg_ℤ (pos 1)) ∷ (Left (i - 1) t, neg_ℤ (pos 1)) ∷ (Left i t, pos 1) ∷ [] in
      omega (
        arith,
        ints,
        form_value-append f here (list_to (λ q. (Access q t, brought road i q)) (access_count road)),
        access_value t i,
        amounts.cut i t,
        amounts.fill i t,
        amounts.right (i - 1) t,
        amounts.right i t,
        amounts.left (i - 1) t,
        amounts.left i t,
      )

  pub pit_value : (p : ℕ) → form_value f (pit_form road p).entries ≡ neg_ℤ (sum_to (pit_share road plan p) (access_count road))
  pit_value p =
      let count = access_count road in
      form_value-flat_to f (λ t. list_to (λ q. (Access q t, taken road p q)) count) road.stages
      ∙ sum_to_ext (λ t. form_value f (list_to (λ q. (Access q t, taken road p q)) count)) (λ t. sum_to (λ q. taken road p q *ℤ amount plan.roads t q) count) road.stages
      (λ t low high.
      form_value-list_to f (λ q. (Access q t, taken road p q)) count
      ∙ sum_to_ext (λ q. taken road p q *ℤ f (Access q t)) (λ q. taken road p q *ℤ amount plan.roads t q) count (λ q l h. ap (λ x. taken road p q *ℤ x) (amounts.access q t)))
      ∙ sum_to_swap (λ t q. taken road p q *ℤ amount plan.roads t q) road.stages count
      ∙ sum_to_ext (λ q. sum_to (λ t. taken road p q *ℤ amount plan.roads t q) road.stages) (λ q. neg_ℤ (pit_share road plan p q)) count
      (λ q low high.
      sum_to_mul_left (taken road p q) (λ t. amount plan.roads t q) road.stages
      ∙ taken_part ((access road q).pit == p) (access_amount plan q road.stages))
      ∙ sum_to_neg (pit_share road plan p) count

  pub transit_value : (k t : ℕ) → form_value f (transit_form road k t).entries
      ≡ (amount plan.cut t (block road k).section -ℤ hauled_out plan t (block road k).section) +ℤ greatest_haul_out road (block road k).section *ℤ f (Opened k t)
  transit_value k t =
      let i = (block road k).section in
      omega (arith, ints, amounts.cut i t, amounts.right i t, amounts.left (i - 1) t)

  pub cut_stop_value : (k t : ℕ) → form_value f (cut_stop_form road k t).entries
      ≡ neg_ℤ (amount plan.cut t (block road k).section +ℤ (section road (block road k).section).cut_max *ℤ f (Opened k t))
  cut_stop_value k t =
      let i = (block road k).section in
      omega (arith, ints, amounts.cut i t, int_neg_mul (section road i).cut_max (f (Opened k t)))

  pub fill_stop_value : (k t : ℕ) → form_value f (fill_stop_form road k t).entries
      ≡ neg_ℤ (amount plan.fill t (block road k).section +ℤ (section road (block road k).section).fill_max *ℤ f (Opened k t))
  fill_stop_value k t =
      let i = (block road k).section in
      omega (arith, ints, amounts.fill i t, int_neg_mul (section road i).fill_max (f (Opened k t)))

pub order_value : (road : Road) (f : Column → ℤ) (k t : ℕ) → form_value f (order_form road k t).entries ≡ f (Opened k (t + 1)) -ℤ f (Opened k t)
order_value road f k t = omega (arith, ints)
