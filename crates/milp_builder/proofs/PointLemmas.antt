-- Steps of loops that append the values of kinds of column.
use Rattle.std.proofs.Common.{refl, ◌≡◌, ℕ, zero, suc, ◌+◌, ◌-◌, ◌≤◌, ◌<◌, List, [], ◌∷◌, ◌++◌, map, take, get_or, length, append_assoc, arith, ap, sym, ◌∙◌}
use Rattle.std.specs.Prelude.{ℤ, pos}
use Rattle.std.proofs.lemmas.List.{map-append, same_lists, take_more}
use Rattle.algebra.specs.Lists.{list_to, flat_to}
use Rattle.algebra.proofs.ListsLemmas.{map-list_to, length-list_to}
use Rattle.road_types.specs.Numbered.{numbered, IsNumber}
use Rattle.road_types.specs.Road.{section_count, segment_count, hop_count, access_count, block_count}
use Rattle.road_types.specs.Columns.{columns_of, segment_columns, stage_columns, block_columns}
use Rattle.road_types.specs.declared.road.Road.{Road}
use Rattle.road_types.specs.declared.column.Column.{Column}
use Rattle.road_types.specs.declared.column.Column.TheVariants.{Offset, Cut, Fill, Right, Left, Access}
use Rattle.plan_rules.specs.declared.plan.Plan.{Plan}
use Rattle.plan_rules.specs.Plans.{amount, IsTableOf, IsPlanOf}
use Rattle.road_points.specs.PlanPoints.{value_in}
use Rattle.road_points.proofs.PlanAt.{numbered_list_to}
use Rattle.road_points.proofs.PointsArePlans.{other_default}

pub append_step : {A : Type 0} (init xs ys now next : List A) → now ≡ init ++ xs → next ≡ now ++ ys → next ≡ init ++ (xs ++ ys)
append_step init xs ys now next e f = f ∙ ap (λ zs. zs ++ ys) e ∙ append_assoc init xs ys

module _ {A B : Type 0} (g : A → B) where
  pub map_list_more : (f : ℕ → A) (n : ℕ) → map g (list_to f (n + 1)) ≡ map g (list_to f n) ++ (g (f (n + 1)) ∷ [])
  map_list_more f n =
      let e : n + 1 ≡ suc n = omega arith in
      ap (λ k. map g (list_to f k)) e ∙ map-append g (list_to f n) (f (suc n) ∷ []) ∙ ap (λ k. map g (list_to f n) ++ (g (f k) ∷ [])) (sym e)

  pub map_flat_more : (f : ℕ → List A) (n : ℕ) → map g (flat_to f (n + 1)) ≡ map g (flat_to f n) ++ map g (f (n + 1))
  map_flat_more f n =
      let e : n + 1 ≡ suc n = omega arith in
      ap (λ k. map g (flat_to f k)) e ∙ map-append g (flat_to f n) (f (suc n)) ∙ ap (λ k. map g (flat_to f n) ++ map g (f k)) (sym e)

-- a list that is written from number 1 on, at a number
pub map_list_from_one : {A B : Type 0} (g : A → B) (f : ℕ → A) (n : ℕ) → 1 ≤ n → map g (list_to f (n + 1 - 1)) ≡ map g (list_to f (n - 1)) ++ (g (f n) ∷ [])
map_list_from_one g f zero h = absurd (omega arith)
map_list_from_one g f (suc n) h =
    let e : suc n + 1 - 1 ≡ suc n = omega arith in
    let d : suc n - 1 ≡ n = omega arith in
    ap (λ k. map g (list_to f k)) e ∙ map-append g (list_to f n) (f (suc n) ∷ []) ∙ ap (λ k. map g (list_to f k) ++ (g (f (suc n)) ∷ [])) (sym d)

-- a list is that of its entries by number
pub by_number : {A : Type 0} (other : A) (xs : List A) (n : ℕ) → length xs ≡ n → xs ≡ list_to (numbered other xs) n
by_number other xs n e =
    same_lists xs (list_to (numbered other xs) n) (e ∙ sym (length-list_to (numbered other xs) n))
    (λ k d l.
    other_default d other xs k l
    ∙ sym (numbered_list_to other (numbered other xs) n (suc k) (record { from_one = omega arith; at_most = omega (arith, e) }))
    ∙ other_default other d (list_to (numbered other xs) n) k (omega (arith, e, length-list_to (numbered other xs) n)))

-- a stage's row of a table is the table's amounts of the stage
row_is : (stages entries t : ℕ) (rows : List (List ℤ)) → IsTableOf stages entries rows → IsNumber t stages → numbered [] rows t ≡ list_to (λ i. amount rows t i) entries
row_is stages entries t rows table n = by_number (pos 0) (numbered [] rows t) entries (table.each_length t n)

-- the five rows of a stage are the plan's values in the stage's columns
pub stage_is : (road : Road) (plan : Plan) (t : ℕ) → hop_count road ≡ section_count road - 1 → IsPlanOf road plan → IsNumber t road.stages
    → map (value_in road plan) (stage_columns road t)
    ≡ numbered [] plan.cut t ++ (numbered [] plan.fill t ++ (numbered [] plan.right t ++ (numbered [] plan.left t ++ numbered [] plan.roads t)))
stage_is road plan t hops p n =
    let v = value_in road plan in
    let cut = list_to (λ i. Cut i t) (section_count road) in
    let fill = list_to (λ i. Fill i t) (section_count road) in
    let right = list_to (λ h. Right h t) (hop_count road) in
    let left = list_to (λ h. Left h t) (hop_count road) in
    let roads = list_to (λ q. Access q t) (access_count road) in
    map-append v cut (fill ++ (right ++ (left ++ roads)))
    ∙ ap (λ xs. xs ++ map v (fill ++ (right ++ (left ++ roads)))) (map-list_to v (λ i. Cut i t) (section_count road) ∙ sym (row_is road.stages (section_count road) t plan.cut p.cut n))
    ∙ ap (λ xs. numbered [] plan.cut t ++ xs)
    (map-append v fill (right ++ (left ++ roads))
    ∙ ap (λ xs. xs ++ map v (right ++ (left ++ roads))) (map-list_to v (λ i. Fill i t) (section_count road) ∙ sym (row_is road.stages (section_count road) t plan.fill p.fill n))
    ∙ ap (λ xs. numbered [] plan.fill t ++ xs)
    (map-append v right (left ++ roads)
    ∙ ap (λ xs. xs ++ map v (left ++ roads))
    (map-list_to v (λ h. Right h t) (hop_count road) ∙ ap (list_to (λ h. amount plan.right t h)) hops ∙ sym (row_is road.stages (section_count road - 1) t plan.right p.right n))
    ∙ ap (λ xs. numbered [] plan.right t ++ xs)
    (map-append v left roads
    ∙ ap (λ xs. xs ++ map v roads)
    (map-list_to v (λ h. Left h t) (hop_count road) ∙ ap (list_to (λ h. amount plan.left t h)) hops ∙ sym (row_is road.stages (section_count road - 1) t plan.left p.left n))
    ∙ ap (λ xs. numbered [] plan.left t ++ xs)
    (map-list_to v (λ q. Access q t) (access_count road) ∙ sym (row_is road.stages (access_count road) t plan.roads p.roads n)))))

-- ---- one append after another

pub five_appends : {A : Type 0} (init a b c d e one two three four five : List A)
    → one ≡ init ++ a → two ≡ one ++ b → three ≡ two ++ c → four ≡ three ++ d → five ≡ four ++ e → five ≡ init ++ (a ++ (b ++ (c ++ (d ++ e))))
five_appends init a b c d e one two three four five p q r s t =
    t ∙ ap (λ x. x ++ e) (s ∙ ap (λ x. x ++ d) (r ∙ ap (λ x. x ++ c) (q ∙ ap (λ x. x ++ b) p))) ∙ simp append_assoc

pub four_appends : {A : Type 0} (a b c d one two three four : List A)
    → one ≡ [] ++ a → two ≡ one ++ b → three ≡ two ++ c → four ≡ three ++ d → four ≡ a ++ (b ++ (c ++ d))
four_appends a b c d one two three four p q r s =
    s ∙ ap (λ x. x ++ d) (r ∙ ap (λ x. x ++ c) (q ∙ ap (λ x. x ++ b) p)) ∙ simp append_assoc

-- the four parts of the columns
pub point_is : (road : Road) (v : Column → ℤ) → map v (columns_of road)
    ≡ map v (flat_to segment_columns (segment_count road)) ++ (map v (list_to (λ i. Offset i) (section_count road))
    ++ (map v (flat_to (stage_columns road) road.stages) ++ map v (flat_to (block_columns road) (block_count road))))
unfolding columns_of
point_is road v =
    let s = flat_to segment_columns (segment_count road) in
    let o = list_to (λ i. Offset i) (section_count road) in
    let t = flat_to (stage_columns road) road.stages in
    let b = flat_to (block_columns road) (block_count road) in
    map-append v s (o ++ (t ++ b))
    ∙ ap (λ x. map v s ++ x) (map-append v o (t ++ b) ∙ ap (λ x. map v o ++ x) (map-append v t b))

-- ---- lists of kinds

pub list_more : {A : Type 0} (f : ℕ → A) (n : ℕ) → list_to f (n + 1) ≡ list_to f n ++ (f (n + 1) ∷ [])
list_more f n = let e : n + 1 ≡ suc n = omega arith in ap (list_to f) e ∙ ap (λ k. list_to f n ++ (f k ∷ [])) (sym e)

pub flat_more : {A : Type 0} (f : ℕ → List A) (n : ℕ) → flat_to f (n + 1) ≡ flat_to f n ++ f (n + 1)
flat_more f n = let e : n + 1 ≡ suc n = omega arith in ap (flat_to f) e ∙ ap (λ k. flat_to f n ++ f k) (sym e)

pub list_from_one : {A : Type 0} (f : ℕ → A) (n : ℕ) → 1 ≤ n → list_to f (n + 1 - 1) ≡ list_to f (n - 1) ++ (f n ∷ [])
list_from_one f zero h = absurd (omega arith)
list_from_one f (suc n) h =
    let e : suc n + 1 - 1 ≡ suc n = omega arith in
    let d : suc n - 1 ≡ n = omega arith in
    ap (list_to f) e ∙ ap (λ k. list_to f k ++ (f (suc n) ∷ [])) (sym d)

-- a loop's step: what was appended so far, and one more
pub list_step : {A : Type 0} (f : ℕ → A) (n : ℕ) (init now next : List A) → now ≡ init ++ list_to f n → next ≡ now ++ (f (n + 1) ∷ []) → next ≡ init ++ list_to f (n + 1)
list_step f n init now next e h = append_step init (list_to f n) (f (n + 1) ∷ []) now next e h ∙ ap (λ x. init ++ x) (sym (list_more f n))

pub flat_step : {A : Type 0} (f : ℕ → List A) (n : ℕ) (init now next : List A) → now ≡ init ++ flat_to f n → next ≡ now ++ f (n + 1) → next ≡ init ++ flat_to f (n + 1)
flat_step f n init now next e h = append_step init (flat_to f n) (f (n + 1)) now next e h ∙ ap (λ x. init ++ x) (sym (flat_more f n))

pub list_step_from_one : {A : Type 0} (f : ℕ → A) (n : ℕ) (init now next : List A) → 1 ≤ n → now ≡ init ++ list_to f (n - 1) → next ≡ now ++ (f n ∷ []) → next ≡ init ++ list_to f (n + 1 - 1)
list_step_from_one f n init now next low e h = append_step init (list_to f (n - 1)) (f n ∷ []) now next e h ∙ ap (λ x. init ++ x) (sym (list_from_one f n low))

-- a loop's step over a list: what the items so far gave, and one more
pub map_step : {A B : Type 0} (f : A → B) (xs : List A) (k : ℕ) (d : A) (y : B) (now next : List B) → k < length xs → now ≡ map f (take k xs) → next ≡ now ++ (y ∷ []) → y ≡ f (get_or xs k d) → next ≡ map f (take (k + 1) xs)
map_step f xs k d y now next l so_far e here =
    e ∙ ap (λ zs. zs ++ (y ∷ [])) so_far ∙ ap (λ z. map f (take k xs) ++ (z ∷ [])) here
    ∙ sym (ap (map f) (take_more xs k d l) ∙ map-append f (take k xs) (get_or xs k d ∷ []))

-- the columns in four parts
pub columns_are : (road : Road) → columns_of road
    ≡ flat_to segment_columns (segment_count road) ++ (list_to (λ i. Offset i) (section_count road) ++ (flat_to (stage_columns road) road.stages ++ flat_to (block_columns road) (block_count road)))
unfolding columns_of
columns_are road = refl
