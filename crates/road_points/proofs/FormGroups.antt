-- All rows of a road's program hold where those of each group hold, one by one.
use Rattle.std.proofs.Common.{◌≡◌, ℕ, zero, suc, ◌+◌, ◌-◌, ◌≤◌, ◌<◌, List, [], ◌∷◌, ◌++◌, map, get_or, arith, subst, ⊎_elim}
use Rattle.std.specs.Prelude.{ℤ, neg_ℤ}
use Rattle.std.specs.List.{All}
use Rattle.std.proofs.lemmas.Bool.{cases_lt}
use Rattle.std.proofs.lemmas.List.Elements.{All-nil, All-cons, All-head, All-tail, All-append, All-map}
use Rattle.algebra.specs.Lists.{list_to, flat_to}
use Rattle.programs.specs.Points.{MeetsRow}
use Rattle.road_types.specs.Numbered.{IsNumber}
use Rattle.road_types.specs.Heights.{segment_length}
use Rattle.road_types.specs.Road.{section_count, segment_count, fixed_count, pit_count, block_count, fixed_point}
use Rattle.road_types.specs.Lines.{Lines}
use Rattle.road_types.specs.Forms.{Form, negated, least_form}
use Rattle.road_types.specs.SectionForms.{grade_entries, station_entries, offset_form, offset_forms, next_height_form, next_grade_form, continuity_forms, grade_end_forms, fixed_forms, above_form, below_form, lines_forms, volume_forms, section_forms}
use Rattle.road_types.specs.HaulForms.{balance_form, balance_forms, pit_form, pit_forms, transit_form, transit_forms, cut_stop_form, fill_stop_form, stop_forms, order_form, order_forms, haul_forms}
use Rattle.road_types.specs.RoadPrograms.{row_of, forms_of}
use Rattle.road_types.specs.declared.road.Road.{Road}
use Rattle.road_types.specs.declared.column.Column.{Column}
use Rattle.road_points.specs.Shown.{shown}
use Rattle.road_points.proofs.FormValues.{FormHolds, form_from_row, row_from_form}

-- ---- lists by number

module _ {A : Type 0} (P : A → Type 0) where
  pub all_left : (xs ys : List A) → All P (xs ++ ys) → All P xs
  all_left [] ys a = All-nil P
  all_left (x ∷ xs) ys a = All-cons P x xs (All-head P x (xs ++ ys) a) (all_left xs ys (All-tail P x (xs ++ ys) a))

  pub all_right : (xs ys : List A) → All P (xs ++ ys) → All P ys
  all_right [] ys a = a
  all_right (x ∷ xs) ys a = all_right xs ys (All-tail P x (xs ++ ys) a)

  pub all_flat_to : (f : ℕ → List A) (n : ℕ) → ((k : ℕ) → IsNumber k n → All P (f k)) → All P (flat_to f n)
  all_flat_to f zero h = All-nil P
  all_flat_to f (suc n) h =
      All-append P (flat_to f n) (f (suc n))
      (all_flat_to f n (λ k m. h k (record { from_one = m.from_one; at_most = omega (arith, m.at_most) })))
      (h (suc n) (record { from_one = omega arith; at_most = omega arith }))

  pub flat_to_all : (f : ℕ → List A) (n : ℕ) → All P (flat_to f n) → (k : ℕ) → IsNumber k n → All P (f k)
  flat_to_all f zero a k m = absurd (omega (arith, m.from_one, m.at_most))
  flat_to_all f (suc n) a k m =
      ⊎_elim
      (λ (l : k < suc n). flat_to_all f n (all_left (flat_to f n) (f (suc n)) a) k (record { from_one = m.from_one; at_most = omega arith }))
      (λ (l : suc n ≤ k). let e : suc n ≡ k = omega (arith, m.at_most) in subst (λ (j : ℕ). All P (f j)) e (all_right (flat_to f n) (f (suc n)) a))
      (cases_lt k (suc n))

  pub all_one : (x : A) → P x → All P (x ∷ [])
  all_one x p = All-cons P x [] p (All-nil P)

  pub one_all : (x : A) → All P (x ∷ []) → P x
  one_all x a = All-head P x [] a

  pub all_two : (x y : A) → P x → P y → All P (x ∷ y ∷ [])
  all_two x y p q = All-cons P x (y ∷ []) p (all_one y q)

  pub second_of : (x y : A) (rest : List A) → All P (x ∷ y ∷ rest) → P y
  second_of x y rest a = All-head P y rest (All-tail P x (y ∷ rest) a)

  pub all_list_to : (f : ℕ → A) (n : ℕ) → ((k : ℕ) → IsNumber k n → P (f k)) → All P (list_to f n)
  all_list_to f zero h = All-nil P
  all_list_to f (suc n) h =
      All-append P (list_to f n) (f (suc n) ∷ [])
      (all_list_to f n (λ k m. h k (record { from_one = m.from_one; at_most = omega (arith, m.at_most) })))
      (all_one (f (suc n)) (h (suc n) (record { from_one = omega arith; at_most = omega arith })))

  pub list_to_all : (f : ℕ → A) (n : ℕ) → All P (list_to f n) → (k : ℕ) → IsNumber k n → P (f k)
  list_to_all f zero a k m = absurd (omega (arith, m.from_one, m.at_most))
  list_to_all f (suc n) a k m =
      ⊎_elim
      (λ (l : k < suc n). list_to_all f n (all_left (list_to f n) (f (suc n) ∷ []) a) k (record { from_one = m.from_one; at_most = omega arith }))
      (λ (l : suc n ≤ k). let e : suc n ≡ k = omega (arith, m.at_most) in subst (λ (j : ℕ). P (f j)) e (one_all (f (suc n)) (all_right (list_to f n) (f (suc n) ∷ []) a)))
      (cases_lt k (suc n))

all_of_map : {A B : Type 0} (P : B → Type 0) (g : A → B) (xs : List A) → All P (map g xs) → All (λ x. P (g x)) xs
all_of_map P g [] a = All-nil (λ x. P (g x))
all_of_map P g (x ∷ xs) a = All-cons (λ y. P (g y)) x xs (All-head P (g x) (map g xs) a) (all_of_map P g xs (All-tail P (g x) (map g xs) a))

-- ---- the groups

-- a fact of each form for heights and volumes
pub record SectionFormsAre (road : Road) (lines : ℕ → Lines) (P : Form → Type 0) : Type 0 where
  pub offset : (i : ℕ) → IsNumber i (section_count road) → P (offset_form road i)
  pub next_height : (g : ℕ) → IsNumber g (segment_count road - 1) → P (next_height_form road g)
  pub next_grade : (g : ℕ) → IsNumber g (segment_count road - 1) → P (next_grade_form road g)
  pub grade_from : (g : ℕ) → IsNumber g (segment_count road) → P (least_form (grade_entries g (segment_length road.knots g)) road.grade.0)
  pub grade_to : (g : ℕ) → IsNumber g (segment_count road) → P (least_form (negated (grade_entries g (segment_length road.knots g))) (neg_ℤ road.grade.1))
  pub fixed_from : (p : ℕ) → IsNumber p (fixed_count road) → P (least_form (station_entries road (fixed_point road p).station) (fixed_point road p).low)
  pub fixed_to : (p : ℕ) → IsNumber p (fixed_count road) → P (least_form (negated (station_entries road (fixed_point road p).station)) (neg_ℤ (fixed_point road p).high))
  pub above_least : (i : ℕ) → IsNumber i (section_count road) → P (above_form road i (lines i).least (lines i).above_least)
  pub below_greatest : (i : ℕ) → IsNumber i (section_count road) → P (below_form road i (lines i).greatest (lines i).below_greatest)
  pub below_least : (i : ℕ) → IsNumber i (section_count road) → P (below_form road i (lines i).least (lines i).below_least)
  pub above_greatest : (i : ℕ) → IsNumber i (section_count road) → P (above_form road i (lines i).greatest (lines i).above_greatest)

-- a fact of each form for what is moved
pub record HaulFormsAre (road : Road) (P : Form → Type 0) : Type 0 where
  pub balance : (t i : ℕ) → IsNumber t road.stages → IsNumber i (section_count road) → P (balance_form road t i)
  pub pit : (p : ℕ) → IsNumber p (pit_count road) → P (pit_form road p)
  pub transit : (k t : ℕ) → IsNumber k (block_count road) → IsNumber t road.stages → P (transit_form road k t)
  pub cut_stop : (k before : ℕ) → IsNumber k (block_count road) → IsNumber before (road.stages - 1) → P (cut_stop_form road k (before + 1))
  pub fill_stop : (k before : ℕ) → IsNumber k (block_count road) → IsNumber before (road.stages - 1) → P (fill_stop_form road k (before + 1))
  pub order : (k before : ℕ) → IsNumber k (block_count road) → IsNumber before (road.stages - 2) → P (order_form road k (before + 1))

-- the rows for heights and volumes hold
abbrev pub SectionFormsHold : Road → (ℕ → Lines) → (Column → ℤ) → ℤ → Type 0
SectionFormsHold road lines f den = SectionFormsAre road lines (FormHolds f den)

-- the rows for what is moved hold
abbrev pub HaulFormsHold : Road → (Column → ℤ) → ℤ → Type 0
HaulFormsHold road f den = HaulFormsAre road (FormHolds f den)

module _ (road : Road) (lines : ℕ → Lines) (P : Form → Type 0) where
  pub section_forms_all : SectionFormsAre road lines P → All P (section_forms road lines)
  section_forms_all h =
      All-append P (offset_forms road) (continuity_forms road ++ (grade_end_forms road ++ (fixed_forms road ++ volume_forms road lines)))
      (all_list_to P (offset_form road) (section_count road) h.offset)
      (All-append P (continuity_forms road) (grade_end_forms road ++ (fixed_forms road ++ volume_forms road lines))
      (all_flat_to P (λ g. next_height_form road g ∷ next_grade_form road g ∷ []) (segment_count road - 1)
      (λ g n. all_two P (next_height_form road g) (next_grade_form road g) (h.next_height g n) (h.next_grade g n)))
      (All-append P (grade_end_forms road) (fixed_forms road ++ volume_forms road lines)
      (all_flat_to P (λ g. least_form (grade_entries g (segment_length road.knots g)) road.grade.0 ∷ least_form (negated (grade_entries g (segment_length road.knots g))) (neg_ℤ road.grade.1) ∷ []) (segment_count road)
      (λ g n. all_two P (least_form (grade_entries g (segment_length road.knots g)) road.grade.0) (least_form (negated (grade_entries g (segment_length road.knots g))) (neg_ℤ road.grade.1)) (h.grade_from g n) (h.grade_to g n)))
      (All-append P (fixed_forms road) (volume_forms road lines)
      (all_flat_to P (λ p. least_form (station_entries road (fixed_point road p).station) (fixed_point road p).low ∷ least_form (negated (station_entries road (fixed_point road p).station)) (neg_ℤ (fixed_point road p).high) ∷ []) (fixed_count road)
      (λ p n. all_two P (least_form (station_entries road (fixed_point road p).station) (fixed_point road p).low) (least_form (negated (station_entries road (fixed_point road p).station)) (neg_ℤ (fixed_point road p).high)) (h.fixed_from p n) (h.fixed_to p n)))
      (all_flat_to P (λ i. lines_forms road i (lines i)) (section_count road)
      (λ i n.
      All-cons P (above_form road i (lines i).least (lines i).above_least)
      (below_form road i (lines i).greatest (lines i).below_greatest ∷ below_form road i (lines i).least (lines i).below_least ∷ above_form road i (lines i).greatest (lines i).above_greatest ∷ [])
      (h.above_least i n)
      (All-cons P (below_form road i (lines i).greatest (lines i).below_greatest)
      (below_form road i (lines i).least (lines i).below_least ∷ above_form road i (lines i).greatest (lines i).above_greatest ∷ [])
      (h.below_greatest i n)
      (all_two P (below_form road i (lines i).least (lines i).below_least) (above_form road i (lines i).greatest (lines i).above_greatest) (h.below_least i n) (h.above_greatest i n))))))))

  all_section_forms : All P (section_forms road lines) → SectionFormsAre road lines P
  all_section_forms a =
      let offsets = all_left P (offset_forms road) (continuity_forms road ++ (grade_end_forms road ++ (fixed_forms road ++ volume_forms road lines))) a in
      let a1 = all_right P (offset_forms road) (continuity_forms road ++ (grade_end_forms road ++ (fixed_forms road ++ volume_forms road lines))) a in
      let continuity = all_left P (continuity_forms road) (grade_end_forms road ++ (fixed_forms road ++ volume_forms road lines)) a1 in
      let a2 = all_right P (continuity_forms road) (grade_end_forms road ++ (fixed_forms road ++ volume_forms road lines)) a1 in
      let grades = all_left P (grade_end_forms road) (fixed_forms road ++ volume_forms road lines) a2 in
      let a3 = all_right P (grade_end_forms road) (fixed_forms road ++ volume_forms road lines) a2 in
      let fixed = all_left P (fixed_forms road) (volume_forms road lines) a3 in
      let volumes = all_right P (fixed_forms road) (volume_forms road lines) a3 in
      let next = flat_to_all P (λ g. next_height_form road g ∷ next_grade_form road g ∷ []) (segment_count road - 1) continuity in
      let grade = flat_to_all P (λ g. least_form (grade_entries g (segment_length road.knots g)) road.grade.0 ∷ least_form (negated (grade_entries g (segment_length road.knots g))) (neg_ℤ road.grade.1) ∷ []) (segment_count road) grades in
      let point = flat_to_all P (λ p. least_form (station_entries road (fixed_point road p).station) (fixed_point road p).low ∷ least_form (negated (station_entries road (fixed_point road p).station)) (neg_ℤ (fixed_point road p).high) ∷ []) (fixed_count road) fixed in
      let four = flat_to_all P (λ i. lines_forms road i (lines i)) (section_count road) volumes in
      record {
        offset = list_to_all P (offset_form road) (section_count road) offsets;
        next_height = λ g n. All-head P (next_height_form road g) (next_grade_form road g ∷ []) (next g n);
        next_grade = λ g n. second_of P (next_height_form road g) (next_grade_form road g) [] (next g n);
        grade_from = λ g n. All-head P (least_form (grade_entries g (segment_length road.knots g)) road.grade.0) (least_form (negated (grade_entries g (segment_length road.knots g))) (neg_ℤ road.grade.1) ∷ []) (grade g n);
        grade_to = λ g n. second_of P (least_form (grade_entries g (segment_length road.knots g)) road.grade.0) (least_form (negated (grade_entries g (segment_length road.knots g))) (neg_ℤ road.grade.1)) [] (grade g n);
        fixed_from = λ p n. All-head P (least_form (station_entries road (fixed_point road p).station) (fixed_point road p).low) (least_form (negated (station_entries road (fixed_point road p).station)) (neg_ℤ (fixed_point road p).high) ∷ []) (point p n);
        fixed_to = λ p n. second_of P (least_form (station_entries road (fixed_point road p).station) (fixed_point road p).low) (least_form (negated (station_entries road (fixed_point road p).station)) (neg_ℤ (fixed_point road p).high)) [] (point p n);
        above_least = λ i n. All-head P (above_form road i (lines i).least (lines i).above_least) (rest1 i) (four i n);
        below_greatest = λ i n. second_of P (above_form road i (lines i).least (lines i).above_least) (below_form road i (lines i).greatest (lines i).below_greatest) (rest2 i) (four i n);
        below_least = λ i n. second_of P (below_form road i (lines i).greatest (lines i).below_greatest) (below_form road i (lines i).least (lines i).below_least) (rest3 i) (All-tail P (above_form road i (lines i).least (lines i).above_least) (rest1 i) (four i n));
        above_greatest = λ i n.
            second_of P (below_form road i (lines i).least (lines i).below_least) (above_form road i (lines i).greatest (lines i).above_greatest) []
            (All-tail P (below_form road i (lines i).greatest (lines i).below_greatest) (rest2 i) (All-tail P (above_form road i (lines i).least (lines i).above_least) (rest1 i) (four i n)));
      }
    where
      rest3 : ℕ → List Form
      rest3 i = above_form road i (lines i).greatest (lines i).above_greatest ∷ []

      rest2 : ℕ → List Form
      rest2 i = below_form road i (lines i).least (lines i).below_least ∷ rest3 i

      rest1 : ℕ → List Form
      rest1 i = below_form road i (lines i).greatest (lines i).below_greatest ∷ rest2 i

  pub haul_forms_all : HaulFormsAre road P → All P (haul_forms road)
  haul_forms_all h =
      All-append P (balance_forms road) (pit_forms road ++ (transit_forms road ++ (stop_forms road ++ order_forms road)))
      (all_flat_to P (λ t. list_to (balance_form road t) (section_count road)) road.stages
      (λ t n. all_list_to P (balance_form road t) (section_count road) (λ i m. h.balance t i n m)))
      (All-append P (pit_forms road) (transit_forms road ++ (stop_forms road ++ order_forms road))
      (all_list_to P (pit_form road) (pit_count road) h.pit)
      (All-append P (transit_forms road) (stop_forms road ++ order_forms road)
      (all_flat_to P (λ k. list_to (transit_form road k) road.stages) (block_count road)
      (λ k n. all_list_to P (transit_form road k) road.stages (λ t m. h.transit k t n m)))
      (All-append P (stop_forms road) (order_forms road)
      (all_flat_to P (λ k. flat_to (λ before. cut_stop_form road k (before + 1) ∷ fill_stop_form road k (before + 1) ∷ []) (road.stages - 1)) (block_count road)
      (λ k n.
      all_flat_to P (λ before. cut_stop_form road k (before + 1) ∷ fill_stop_form road k (before + 1) ∷ []) (road.stages - 1)
      (λ t m. all_two P (cut_stop_form road k (t + 1)) (fill_stop_form road k (t + 1)) (h.cut_stop k t n m) (h.fill_stop k t n m))))
      (all_flat_to P (λ k. list_to (λ before. order_form road k (before + 1)) (road.stages - 2)) (block_count road)
      (λ k n. all_list_to P (λ before. order_form road k (before + 1)) (road.stages - 2) (λ t m. h.order k t n m))))))

  all_haul_forms : All P (haul_forms road) → HaulFormsAre road P
  all_haul_forms a =
      let balances = all_left P (balance_forms road) (pit_forms road ++ (transit_forms road ++ (stop_forms road ++ order_forms road))) a in
      let a1 = all_right P (balance_forms road) (pit_forms road ++ (transit_forms road ++ (stop_forms road ++ order_forms road))) a in
      let pits = all_left P (pit_forms road) (transit_forms road ++ (stop_forms road ++ order_forms road)) a1 in
      let a2 = all_right P (pit_forms road) (transit_forms road ++ (stop_forms road ++ order_forms road)) a1 in
      let transits = all_left P (transit_forms road) (stop_forms road ++ order_forms road) a2 in
      let a3 = all_right P (transit_forms road) (stop_forms road ++ order_forms road) a2 in
      let stops = all_left P (stop_forms road) (order_forms road) a3 in
      let orders = all_right P (stop_forms road) (order_forms road) a3 in
      let stop = λ (k : ℕ) (n : IsNumber k (block_count road)).
      flat_to_all P (λ before. cut_stop_form road k (before + 1) ∷ fill_stop_form road k (before + 1) ∷ []) (road.stages - 1)
      (flat_to_all P (λ k. flat_to (λ before. cut_stop_form road k (before + 1) ∷ fill_stop_form road k (before + 1) ∷ []) (road.stages - 1)) (block_count road) stops k n) in
      record {
        balance = λ t i n m.
            list_to_all P (balance_form road t) (section_count road)
            (flat_to_all P (λ t. list_to (balance_form road t) (section_count road)) road.stages balances t n) i m;
        pit = list_to_all P (pit_form road) (pit_count road) pits;
        transit = λ k t n m.
            list_to_all P (transit_form road k) road.stages
            (flat_to_all P (λ k. list_to (transit_form road k) road.stages) (block_count road) transits k n) t m;
        cut_stop = λ k t n m. All-head P (cut_stop_form road k (t + 1)) (fill_stop_form road k (t + 1) ∷ []) (stop k n t m);
        fill_stop = λ k t n m. second_of P (cut_stop_form road k (t + 1)) (fill_stop_form road k (t + 1)) [] (stop k n t m);
        order = λ k t n m.
            list_to_all P (λ before. order_form road k (before + 1)) (road.stages - 2)
            (flat_to_all P (λ k. list_to (λ before. order_form road k (before + 1)) (road.stages - 2)) (block_count road) orders k n) t m;
      }

-- ---- rows and groups

module _ (road : Road) (lines : ℕ → Lines) (den : ℤ) (point : List ℤ) where
  pub rows_from_groups : SectionFormsHold road lines (shown road point) den → HaulFormsHold road (shown road point) den
      → All (MeetsRow den point) (map (row_of road) (forms_of road lines))
  rows_from_groups s h =
      All-map (MeetsRow den point) (row_of road) (forms_of road lines)
      (λ k d l. row_from_form road den point (get_or (forms_of road lines) k d)
      (All-append (FormHolds (shown road point) den) (section_forms road lines) (haul_forms road)
      (section_forms_all road lines (FormHolds (shown road point) den) s) (haul_forms_all road lines (FormHolds (shown road point) den) h) k d l))

  asked_forms : All (MeetsRow den point) (map (row_of road) (forms_of road lines)) → All (FormHolds (shown road point) den) (section_forms road lines ++ haul_forms road)
  asked_forms a = λ k d l. form_from_row road den point (get_or (forms_of road lines) k d) (all_of_map (MeetsRow den point) (row_of road) (forms_of road lines) a k d l)

  pub section_groups_from_rows : All (MeetsRow den point) (map (row_of road) (forms_of road lines)) → SectionFormsHold road lines (shown road point) den
  section_groups_from_rows a = all_section_forms road lines (FormHolds (shown road point) den) (all_left (FormHolds (shown road point) den) (section_forms road lines) (haul_forms road) (asked_forms a))

  pub haul_groups_from_rows : All (MeetsRow den point) (map (row_of road) (forms_of road lines)) → HaulFormsHold road (shown road point) den
  haul_groups_from_rows a = all_haul_forms road lines (FormHolds (shown road point) den) (all_right (FormHolds (shown road point) den) (section_forms road lines) (haul_forms road) (asked_forms a))
