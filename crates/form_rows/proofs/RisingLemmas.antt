-- The terms of each row of a road's program rise by column, stand on its columns, and aren't 0.
use Rattle.std.proofs.Common.{◌≡◌, ℕ, zero, suc, ◌+◌, ◌-◌, ◌*◌, ◌<◌, ◌≤◌, Bool, true, false, ◌&&◌, cond, List, [], ◌∷◌, ◌++◌, arith, ap, sym, ◌∙◌, refl, subst, Option, Some, None}
use Rattle.std.specs.Prelude.{ℤ, pos, nat_le}
use Rattle.std.specs.Ordering.{int_eq}
use Rattle.std.proofs.Math.Nat.{mul-le-mul_right}
use Rattle.std.proofs.lemmas.List.{append_assoc}
use Rattle.std.proofs.lemmas.Bool.Decides.{Decides-int_eq}
use Rattle.algebra.specs.Lists.{list_to, flat_to}
use Rattle.algebra.specs.Numbered.{IsNumber}
use Rattle.programs.specs.Limits.{Rises}
use Rattle.programs.proofs.RisesLemmas.{rises_wider, rises-append}
use Rattle.road_types.specs.Columns.{column_number, column_count, stage_width, offsets_before, stages_before, blocks_before, segment_column, stage_column}
use Rattle.road_types.specs.RecordFaults.{is_number}
use Rattle.road_types.specs.Road.{section_count, segment_count, hop_count, access_count, block_count}
use Rattle.road_types.specs.RoadPrograms.{term_in, terms_of}
use Rattle.road_types.specs.WellFormed.{IsCounted}
use Rattle.road_types.specs.declared.road.Road.{Road}
use Rattle.road_types.specs.declared.column.Column.{Column}
use Rattle.road_types.specs.declared.column.Column.TheVariants.{A, B, C, Offset, Cut, Fill, Right, Left, Access, Opened}
use Rattle.road_types.proofs.Acceptance.{both_true, number_of_test, nat_le_of_test}
use Rattle.road_types.proofs.ColumnPlaces.{column_at_some, IsColumn-from_number, length-columns_of}

-- a term between two columns
some_rises : (low high j : ℕ) (a : ℤ) (b : Bool) → int_eq a (pos 0) ≡ b → low ≤ high → (low < j) × (j ≤ high)
    → Rises low high (cond b [] (record { column = j; value = a } ∷ []))
some_rises low high j a true e order within = order
some_rises low high j a false e order within =
    (within.0, (λ zero_is. let yes : true ≡ false = sym ((Decides-int_eq a (pos 0)).1 zero_is) ∙ e in cc, within.1))

term_rises : (low high : ℕ) (found : Option ℕ) (a : ℤ) → low ≤ high → ((j : ℕ) → found ≡ Some j → (low < j) × (j ≤ high)) → Rises low high (term_in found a)
term_rises low high None a order within = order
term_rises low high (Some j) a order within = some_rises low high j a (int_eq a (pos 0)) refl order (within j refl)

one_more_time : (t w : ℕ) → 1 ≤ t → t * w ≡ (t - 1) * w + w
one_more_time zero w low = absurd (omega arith)
one_more_time (suc k) w low = let e : suc k - 1 ≡ k = omega arith in omega (arith, ap (λ n. n * w) e)

module _ (road : Road) where
  -- how many columns come before stage t
  abbrev pub stage_start : ℕ → ℕ
  stage_start t = stages_before road + (t - 1) * stage_width road

  -- how many come before block k
  abbrev pub block_start : ℕ → ℕ
  block_start k = blocks_before road + (k - 1) * (road.stages - 1)

  pub terms_of-append : (xs ys : List (Column × ℤ)) → terms_of road (xs ++ ys) ≡ terms_of road xs ++ terms_of road ys
  terms_of-append [] ys = refl
  terms_of-append (e ∷ es) ys =
      ap (λ ts. term_in (column_number road e.0) e.1 ++ ts) (terms_of-append es ys)
      ∙ sym (append_assoc (term_in (column_number road e.0) e.1) (terms_of road es) (terms_of road ys))

  -- an entry before others
  entry_first : (low middle high : ℕ) (kind : Column) (a : ℤ) (es : List (Column × ℤ)) → low ≤ middle
      → ((j : ℕ) → column_number road kind ≡ Some j → (low < j) × (j ≤ middle)) → Rises middle high (terms_of road es) → Rises low high (terms_of road ((kind, a) ∷ es))
  entry_first low middle high kind a es order within rest =
      rises-append low middle high (term_in (column_number road kind) a) (terms_of road es)
      (term_rises low middle (column_number road kind) a order within) rest

  -- entries before others
  entries_first : (low middle high : ℕ) (xs ys : List (Column × ℤ)) → Rises low middle (terms_of road xs) → Rises middle high (terms_of road ys) → Rises low high (terms_of road (xs ++ ys))
  entries_first low middle high xs ys first rest =
      subst (λ ts. Rises low high ts) (sym (terms_of-append xs ys)) (rises-append low middle high (terms_of road xs) (terms_of road ys) first rest)

  -- entries and lists of entries by number, each between two bounds
  list_rises : (f : ℕ → Column × ℤ) (bound : ℕ → ℕ) (n : ℕ) → ((k : ℕ) → 1 ≤ k → k ≤ n → Rises (bound (k - 1)) (bound k) (terms_of road (f k ∷ [])))
      → Rises (bound 0) (bound n) (terms_of road (list_to f n))
  list_rises f bound zero h = omega arith
  list_rises f bound (suc n) h =
      let before = list_rises f bound n (λ k low high. h k low (omega arith)) in
      let e : suc n - 1 ≡ n = omega arith in
      let last : Rises (bound n) (bound (suc n)) (terms_of road (f (suc n) ∷ [])) =
      subst (λ k. Rises (bound k) (bound (suc n)) (terms_of road (f (suc n) ∷ []))) e (h (suc n) (omega arith) (omega arith)) in
      entries_first (bound 0) (bound n) (bound (suc n)) (list_to f n) (f (suc n) ∷ []) before last

  flat_rises : (f : ℕ → List (Column × ℤ)) (bound : ℕ → ℕ) (n : ℕ) → ((k : ℕ) → 1 ≤ k → k ≤ n → Rises (bound (k - 1)) (bound k) (terms_of road (f k)))
      → Rises (bound 0) (bound n) (terms_of road (flat_to f n))
  flat_rises f bound zero h = omega arith
  flat_rises f bound (suc n) h =
      let before = flat_rises f bound n (λ k low high. h k low (omega arith)) in
      let e : suc n - 1 ≡ n = omega arith in
      let last : Rises (bound n) (bound (suc n)) (terms_of road (f (suc n))) =
      subst (λ k. Rises (bound k) (bound (suc n)) (terms_of road (f (suc n)))) e (h (suc n) (omega arith) (omega arith)) in
      entries_first (bound 0) (bound n) (bound (suc n)) (flat_to f n) (f (suc n)) before last

  -- ---- where each kind stands

  -- a column is one of the road's
  within_columns : (kind : Column) (j : ℕ) → column_number road kind ≡ Some j → j ≤ column_count road
  within_columns kind j e =
      let c = IsColumn-from_number road kind j e in
      omega (arith, c.number, c.within, length-columns_of road)

  segment_at_place : (g place j : ℕ) → segment_column road g place ≡ Some j → 3 * (g - 1) + place ≡ j
  segment_at_place g place j e = (column_at_some (is_number g (segment_count road)) (3 * (g - 1)) place j e).1

  at-A : (g j : ℕ) → column_number road (A g) ≡ Some j → 3 * (g - 1) + 1 ≡ j
  unfolding column_number
  at-A g j e = segment_at_place g 1 j e

  at-B : (g j : ℕ) → column_number road (B g) ≡ Some j → 3 * (g - 1) + 2 ≡ j
  unfolding column_number
  at-B g j e = segment_at_place g 2 j e

  at-C : (g j : ℕ) → column_number road (C g) ≡ Some j → 3 * (g - 1) + 3 ≡ j
  unfolding column_number
  at-C g j e = segment_at_place g 3 j e

  -- a place among so many, behind others
  record StandsAt (before count place j : ℕ) : Type 0 where
    pub from_one : 1 ≤ place
    pub at_most : place ≤ count
    pub at : before + place ≡ j

  at-Offset : (i j : ℕ) → column_number road (Offset i) ≡ Some j → StandsAt (offsets_before road) (section_count road) i j
  unfolding column_number
  at-Offset i j e =
      let f = column_at_some (is_number i (section_count road)) (offsets_before road) i j e in
      let n = number_of_test i (section_count road) f.0 in
      record { from_one = n.from_one; at_most = n.at_most; at = f.1 }

  stage_at_place : (t before count place j : ℕ) → stage_column road t before count place ≡ Some j → StandsAt (stage_start t + before) count place j
  stage_at_place t before count place j e =
      let f = column_at_some (is_number t road.stages && is_number place count) (stages_before road + ((t - 1) * stage_width road + before)) place j e in
      let n = number_of_test place count (both_true (is_number t road.stages) (is_number place count) f.0).1 in
      record { from_one = n.from_one; at_most = n.at_most; at = omega (arith, f.1) }

  at-Cut : (i t j : ℕ) → column_number road (Cut i t) ≡ Some j → StandsAt (stage_start t + 0) (section_count road) i j
  unfolding column_number
  at-Cut i t j e = stage_at_place t 0 (section_count road) i j e

  at-Fill : (i t j : ℕ) → column_number road (Fill i t) ≡ Some j → StandsAt (stage_start t + section_count road) (section_count road) i j
  unfolding column_number
  at-Fill i t j e = stage_at_place t (section_count road) (section_count road) i j e

  at-Right : (h t j : ℕ) → column_number road (Right h t) ≡ Some j → StandsAt (stage_start t + 2 * section_count road) (hop_count road) h j
  unfolding column_number
  at-Right h t j e = stage_at_place t (2 * section_count road) (hop_count road) h j e

  at-Left : (h t j : ℕ) → column_number road (Left h t) ≡ Some j → StandsAt (stage_start t + (2 * section_count road + hop_count road)) (hop_count road) h j
  unfolding column_number
  at-Left h t j e = stage_at_place t (2 * section_count road + hop_count road) (hop_count road) h j e

  at-Access : (q t j : ℕ) → column_number road (Access q t) ≡ Some j → StandsAt (stage_start t + (2 * section_count road + 2 * hop_count road)) (access_count road) q j
  unfolding column_number
  at-Access q t j e = stage_at_place t (2 * section_count road + 2 * hop_count road) (access_count road) q j e

  at-Opened : (k t j : ℕ) → column_number road (Opened k t) ≡ Some j → (1 ≤ t - 1) × (block_start k + (t - 1) ≡ j)
  unfolding column_number
  at-Opened k t j e =
      let f = column_at_some (is_number k (block_count road) && (nat_le 2 t && nat_le t road.stages)) (block_start k) (t - 1) j e in
      let ends = both_true (nat_le 2 t) (nat_le t road.stages) (both_true (is_number k (block_count road)) (nat_le 2 t && nat_le t road.stages) f.0).1 in
      let low = nat_le_of_test 2 t ends.0 in
      (omega arith, f.1)

  -- ---- bounds

  stage_end : (t : ℕ) → IsNumber t road.stages → stage_start t + stage_width road ≤ blocks_before road
  stage_end t n =
      let product = mul-le-mul_right (stage_width road) n.at_most in
      let e : t * stage_width road ≡ (t - 1) * stage_width road + stage_width road = one_more_time t (stage_width road) n.from_one in
      omega arith

  block_end : (k : ℕ) → IsNumber k (block_count road) → block_start k + (road.stages - 1) ≤ column_count road
  block_end k n =
      let product = mul-le-mul_right (road.stages - 1) n.at_most in
      let e : k * (road.stages - 1) ≡ (k - 1) * (road.stages - 1) + (road.stages - 1) = one_more_time k (road.stages - 1) n.from_one in
      omega arith

  -- ---- rows for heights and volumes, whatever their coefficients are

  pub heights_rise : (g : ℕ) (a b c : ℤ) → Rises (3 * (g - 1)) (3 * (g - 1) + 3) (terms_of road ((A g, a) ∷ (B g, b) ∷ (C g, c) ∷ []))
  heights_rise g a b c =
      let s = 3 * (g - 1) in
      entry_first s (s + 1) (s + 3) (A g) a ((B g, b) ∷ (C g, c) ∷ []) (omega arith) (λ j e. let at = at-A g j e in (omega arith, omega arith))
      (entry_first (s + 1) (s + 2) (s + 3) (B g) b ((C g, c) ∷ []) (omega arith) (λ j e. let at = at-B g j e in (omega arith, omega arith))
      (entry_first (s + 2) (s + 3) (s + 3) (C g) c [] (omega arith) (λ j e. let at = at-C g j e in (omega arith, omega arith)) (omega arith)))

  pub grades_rise : (g : ℕ) (b c : ℤ) → Rises (3 * (g - 1) + 1) (3 * (g - 1) + 3) (terms_of road ((B g, b) ∷ (C g, c) ∷ []))
  grades_rise g b c =
      let s = 3 * (g - 1) in
      entry_first (s + 1) (s + 2) (s + 3) (B g) b ((C g, c) ∷ []) (omega arith) (λ j e. let at = at-B g j e in (omega arith, omega arith))
      (entry_first (s + 2) (s + 3) (s + 3) (C g) c [] (omega arith) (λ j e. let at = at-C g j e in (omega arith, omega arith)) (omega arith))

  -- from the first column to the last
  abbrev pub RisesAll : List (Column × ℤ) → Type 0
  RisesAll entries = Rises 0 (column_count road) (terms_of road entries)

  pub height_row_rises : (g : ℕ) (a b c : ℤ) → IsNumber g (segment_count road) → RisesAll ((A g, a) ∷ (B g, b) ∷ (C g, c) ∷ [])
  height_row_rises g a b c n =
      rises_wider (3 * (g - 1)) 0 (3 * (g - 1) + 3) (column_count road) (terms_of road ((A g, a) ∷ (B g, b) ∷ (C g, c) ∷ [])) (omega arith) (omega (arith, n.at_most, n.from_one))
      (heights_rise g a b c)

  pub grade_row_rises : (g : ℕ) (b c : ℤ) → IsNumber g (segment_count road) → RisesAll ((B g, b) ∷ (C g, c) ∷ [])
  grade_row_rises g b c n =
      rises_wider (3 * (g - 1) + 1) 0 (3 * (g - 1) + 3) (column_count road) (terms_of road ((B g, b) ∷ (C g, c) ∷ [])) (omega arith) (omega (arith, n.at_most, n.from_one))
      (grades_rise g b c)

  -- a column behind those of segment g
  last_entry : (low : ℕ) (kind : Column) (a : ℤ) → low ≤ column_count road → ((j : ℕ) → column_number road kind ≡ Some j → low < j)
      → Rises low (column_count road) (terms_of road ((kind, a) ∷ []))
  last_entry low kind a order behind =
      entry_first low (column_count road) (column_count road) kind a [] order (λ j e. (behind j e, within_columns kind j e)) (omega arith)

  pub offset_row_rises : (g i : ℕ) (a b c d : ℤ) → IsNumber g (segment_count road) → RisesAll (((A g, a) ∷ (B g, b) ∷ (C g, c) ∷ []) ++ (Offset i, d) ∷ [])
  offset_row_rises g i a b c d n =
      entries_first 0 (3 * g) (column_count road) ((A g, a) ∷ (B g, b) ∷ (C g, c) ∷ []) ((Offset i, d) ∷ [])
      (rises_wider (3 * (g - 1)) 0 (3 * (g - 1) + 3) (3 * g) (terms_of road ((A g, a) ∷ (B g, b) ∷ (C g, c) ∷ [])) (omega arith) (omega (arith, n.from_one)) (heights_rise g a b c))
      (last_entry (3 * g) (Offset i) d (omega (arith, n.at_most)) (λ j e. let at = at-Offset i j e in omega (arith, n.at_most, at.from_one, at.at)))

  pub next_height_row_rises : (g : ℕ) (a b c d : ℤ) → IsNumber g (segment_count road) → RisesAll (((A g, a) ∷ (B g, b) ∷ (C g, c) ∷ []) ++ (A (g + 1), d) ∷ [])
  next_height_row_rises g a b c d n =
      entries_first 0 (3 * g) (column_count road) ((A g, a) ∷ (B g, b) ∷ (C g, c) ∷ []) ((A (g + 1), d) ∷ [])
      (rises_wider (3 * (g - 1)) 0 (3 * (g - 1) + 3) (3 * g) (terms_of road ((A g, a) ∷ (B g, b) ∷ (C g, c) ∷ [])) (omega arith) (omega (arith, n.from_one)) (heights_rise g a b c))
      (last_entry (3 * g) (A (g + 1)) d (omega (arith, n.at_most)) (λ j e. let at = at-A (g + 1) j e in omega arith))

  pub next_grade_row_rises : (g : ℕ) (b c d : ℤ) → IsNumber g (segment_count road) → RisesAll (((B g, b) ∷ (C g, c) ∷ []) ++ (B (g + 1), d) ∷ [])
  next_grade_row_rises g b c d n =
      entries_first 0 (3 * g) (column_count road) ((B g, b) ∷ (C g, c) ∷ []) ((B (g + 1), d) ∷ [])
      (rises_wider (3 * (g - 1) + 1) 0 (3 * (g - 1) + 3) (3 * g) (terms_of road ((B g, b) ∷ (C g, c) ∷ [])) (omega arith) (omega (arith, n.from_one)) (grades_rise g b c))
      (last_entry (3 * g) (B (g + 1)) d (omega (arith, n.at_most)) (λ j e. let at = at-B (g + 1) j e in omega arith))

  -- cut and fill of a section in each stage, behind its offset
  pub volume_row_rises : (i : ℕ) (a b c : ℤ) → RisesAll ((Offset i, a) ∷ flat_to (λ t. (Cut i t, b) ∷ (Fill i t, c) ∷ []) road.stages)
  volume_row_rises i a b c =
      let w = stage_width road in
      let start = stages_before road in
      let each = flat_rises (λ t. (Cut i t, b) ∷ (Fill i t, c) ∷ []) (λ t. start + t * w) road.stages
      (λ t low high.
      let s = start + (t - 1) * w in
      let e : t * w ≡ (t - 1) * w + w = one_more_time t w low in
      entry_first s (s + section_count road) (start + t * w) (Cut i t) b ((Fill i t, c) ∷ []) (omega arith)
      (λ j found. let at = at-Cut i t j found in (omega (arith, at.from_one, at.at), omega (arith, at.at_most, at.at)))
      (entry_first (s + section_count road) (start + t * w) (start + t * w) (Fill i t) c [] (omega arith)
      (λ j found. let at = at-Fill i t j found in (omega (arith, at.from_one, at.at), omega (arith, at.at_most, at.at)))
      (omega arith))) in
      entry_first 0 (start + 0 * w) (column_count road) (Offset i) a (flat_to (λ t. (Cut i t, b) ∷ (Fill i t, c) ∷ []) road.stages) (omega arith)
      (λ j found. let at = at-Offset i j found in (omega (arith, at.from_one, at.at), omega (arith, at.at_most, at.at)))
      (rises_wider (start + 0 * w) (start + 0 * w) (start + road.stages * w) (column_count road)
      (terms_of road (flat_to (λ t. (Cut i t, b) ∷ (Fill i t, c) ∷ []) road.stages)) (omega arith) (omega arith) each)

  -- ---- rows for what is moved

  -- amounts on access roads in a stage
  roads_rise : (t : ℕ) (x : ℕ → ℤ) → Rises (stage_start t + (2 * section_count road + 2 * hop_count road)) (stage_start t + stage_width road)
      (terms_of road (list_to (λ q. (Access q t, x q)) (access_count road)))
  roads_rise t x =
      let s = stage_start t + (2 * section_count road + 2 * hop_count road) in
      let each = list_rises (λ q. (Access q t, x q)) (λ q. s + q) (access_count road)
      (λ q low high.
      entry_first (s + (q - 1)) (s + q) (s + q) (Access q t) (x q) [] (omega arith)
      (λ j found. let at = at-Access q t j found in (omega (arith, at.from_one, at.at), omega (arith, at.at)))
      (omega arith)) in
      rises_wider (s + 0) s (s + access_count road) (stage_start t + stage_width road) (terms_of road (list_to (λ q. (Access q t, x q)) (access_count road))) (omega arith) (omega arith) each

  pub balance_row_rises : (t i : ℕ) (a b c d e f : ℤ) (x : ℕ → ℤ) → IsCounted road → IsNumber t road.stages → IsNumber i (section_count road)
      → RisesAll (((Cut i t, a) ∷ (Fill i t, b) ∷ (Right (i - 1) t, c) ∷ (Right i t, d) ∷ (Left (i - 1) t, e) ∷ (Left i t, f) ∷ []) ++ list_to (λ q. (Access q t, x q)) (access_count road))
  balance_row_rises t i a b c d e f x k m n =
      let s = stage_start t in
      let count = section_count road in
      let hops = hop_count road in
      let roads : List (Column × ℤ) = list_to (λ q. (Access q t, x q)) (access_count road) in
      let few : i - 1 ≤ hops = omega (arith, n.at_most, k.hops_count) in
      let end = stage_end t m in
      let l6 : List (Column × ℤ) = (Left i t, f) ∷ roads in
      let l5 : List (Column × ℤ) = (Left (i - 1) t, e) ∷ l6 in
      let l4 : List (Column × ℤ) = (Right i t, d) ∷ l5 in
      let l3 : List (Column × ℤ) = (Right (i - 1) t, c) ∷ l4 in
      let l2 : List (Column × ℤ) = (Fill i t, b) ∷ l3 in
      let l1 : List (Column × ℤ) = (Cut i t, a) ∷ l2 in
      rises_wider s 0 (s + stage_width road) (column_count road) (terms_of road l1) (omega arith) (omega arith)
      (entry_first s (s + count) (s + stage_width road) (Cut i t) a l2 (omega arith)
      (λ j found. let at = at-Cut i t j found in (omega (arith, at.from_one, at.at), omega (arith, at.at_most, at.at)))
      (entry_first (s + count) (s + 2 * count) (s + stage_width road) (Fill i t) b l3 (omega arith)
      (λ j found. let at = at-Fill i t j found in (omega (arith, at.from_one, at.at), omega (arith, at.at_most, at.at)))
      (entry_first (s + 2 * count) (s + 2 * count + (i - 1)) (s + stage_width road) (Right (i - 1) t) c l4 (omega arith)
      (λ j found. let at = at-Right (i - 1) t j found in (omega (arith, at.from_one, at.at), omega (arith, at.at)))
      (entry_first (s + 2 * count + (i - 1)) (s + 2 * count + hops) (s + stage_width road) (Right i t) d l5 (omega arith)
      (λ j found. let at = at-Right i t j found in (omega (arith, at.from_one, at.at, n.from_one), omega (arith, at.at_most, at.at)))
      (entry_first (s + 2 * count + hops) (s + 2 * count + hops + (i - 1)) (s + stage_width road) (Left (i - 1) t) e l6 (omega arith)
      (λ j found. let at = at-Left (i - 1) t j found in (omega (arith, at.from_one, at.at), omega (arith, at.at)))
      (entry_first (s + 2 * count + hops + (i - 1)) (s + (2 * count + 2 * hops)) (s + stage_width road) (Left i t) f roads (omega arith)
      (λ j found. let at = at-Left i t j found in (omega (arith, at.from_one, at.at, n.from_one), omega (arith, at.at_most, at.at)))
      (roads_rise t x)))))))

  pub pit_row_rises : (x : ℕ → ℤ) → RisesAll (flat_to (λ t. list_to (λ q. (Access q t, x q)) (access_count road)) road.stages)
  pit_row_rises x =
      let w = stage_width road in
      let start = stages_before road in
      let each = flat_rises (λ t. list_to (λ q. (Access q t, x q)) (access_count road)) (λ t. start + t * w) road.stages
      (λ t low high.
      let e : t * w ≡ (t - 1) * w + w = one_more_time t w low in
      rises_wider (stage_start t + (2 * section_count road + 2 * hop_count road)) (start + (t - 1) * w) (stage_start t + w) (start + t * w)
      (terms_of road (list_to (λ q. (Access q t, x q)) (access_count road))) (omega arith) (omega arith) (roads_rise t x)) in
      rises_wider (start + 0 * w) 0 (start + road.stages * w) (column_count road)
      (terms_of road (flat_to (λ t. list_to (λ q. (Access q t, x q)) (access_count road)) road.stages)) (omega arith) (omega arith) each

  -- a block's column, behind those of the stages
  opened_last : (t k s : ℕ) (a : ℤ) → IsNumber t road.stages → Rises (stage_start t + stage_width road) (column_count road) (terms_of road ((Opened k s, a) ∷ []))
  opened_last t k s a m =
      let end = stage_end t m in
      last_entry (stage_start t + stage_width road) (Opened k s) a (omega arith)
      (λ j found. let at = at-Opened k s j found in omega (arith, at.0, at.1))

  pub transit_row_rises : (k i t : ℕ) (a b c d : ℤ) → IsNumber t road.stages
      → RisesAll ((Cut i t, a) ∷ (Right i t, b) ∷ (Left (i - 1) t, c) ∷ (Opened k t, d) ∷ [])
  transit_row_rises k i t a b c d m =
      let s = stage_start t in
      let count = section_count road in
      let hops = hop_count road in
      entry_first 0 (s + count) (column_count road) (Cut i t) a ((Right i t, b) ∷ (Left (i - 1) t, c) ∷ (Opened k t, d) ∷ []) (omega arith)
      (λ j found. let at = at-Cut i t j found in (omega (arith, at.from_one, at.at), omega (arith, at.at_most, at.at)))
      (entry_first (s + count) (s + 2 * count + hops) (column_count road) (Right i t) b ((Left (i - 1) t, c) ∷ (Opened k t, d) ∷ []) (omega arith)
      (λ j found. let at = at-Right i t j found in (omega (arith, at.from_one, at.at), omega (arith, at.at_most, at.at)))
      (entry_first (s + 2 * count + hops) (s + stage_width road) (column_count road) (Left (i - 1) t) c ((Opened k t, d) ∷ []) (omega arith)
      (λ j found. let at = at-Left (i - 1) t j found in (omega (arith, at.from_one, at.at), omega (arith, at.at_most, at.at)))
      (opened_last t k t d m)))

  pub cut_stop_row_rises : (k i t : ℕ) (a b : ℤ) → IsNumber t road.stages → RisesAll ((Cut i t, a) ∷ (Opened k t, b) ∷ [])
  cut_stop_row_rises k i t a b m =
      let s = stage_start t in
      entry_first 0 (s + stage_width road) (column_count road) (Cut i t) a ((Opened k t, b) ∷ []) (omega arith)
      (λ j found. let at = at-Cut i t j found in (omega (arith, at.from_one, at.at), omega (arith, at.at_most, at.at)))
      (opened_last t k t b m)

  pub fill_stop_row_rises : (k i t : ℕ) (a b : ℤ) → IsNumber t road.stages → RisesAll ((Fill i t, a) ∷ (Opened k t, b) ∷ [])
  fill_stop_row_rises k i t a b m =
      let s = stage_start t in
      entry_first 0 (s + stage_width road) (column_count road) (Fill i t) a ((Opened k t, b) ∷ []) (omega arith)
      (λ j found. let at = at-Fill i t j found in (omega (arith, at.from_one, at.at), omega (arith, at.at_most, at.at)))
      (opened_last t k t b m)

  pub order_row_rises : (k t : ℕ) (a b : ℤ) → IsNumber k (block_count road) → 1 ≤ t → t ≤ road.stages → RisesAll ((Opened k t, a) ∷ (Opened k (t + 1), b) ∷ [])
  order_row_rises k t a b n low high =
      let end = block_end k n in
      let s = block_start k in
      entry_first 0 (s + (t - 1)) (column_count road) (Opened k t) a ((Opened k (t + 1), b) ∷ []) (omega arith)
      (λ j found. let at = at-Opened k t j found in (omega (arith, at.0, at.1), omega (arith, at.1)))
      (last_entry (s + (t - 1)) (Opened k (t + 1)) b (omega arith) (λ j found. let at = at-Opened k (t + 1) j found in omega (arith, at.1)))
