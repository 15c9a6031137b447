-- The two views of a road's columns are one: the arithmetic of `column_number` gives the place in the list of kinds, and no other.
use Rattle.std.proofs.Common.{◌≡◌, ℕ, ◌+◌, ◌-◌, ◌*◌, ◌≤◌, Bool, true, false, ◌&&◌, List, [], ◌∷◌, ◌++◌, length, arith, ap, sym, ◌∙◌, refl, subst, ⊎_elim, Option, Some, None}
use Rattle.std.specs.Prelude.{nat_le, MatchOption, ◌↔◌}
use Rattle.std.proofs.lemmas.List.{length-append}
use Rattle.algebra.specs.Lists.{list_to, flat_to, IsEntry}
use Rattle.algebra.proofs.ListsLemmas.{length-list_to, length-flat_to, entry_left, entry_right, entry_here, entry_behind, entry_at, list_to_entry, flat_to_entry, entry_cases, entry_of_one, entry_of_list_to, entry_of_flat_to}
use Rattle.road_types.specs.Numbered.{IsNumber}
use Rattle.road_types.specs.RecordFaults.{is_number}
use Rattle.road_types.specs.Road.{section_count, segment_count, hop_count, access_count, block_count}
use Rattle.road_types.specs.Columns.{segment_columns, stage_columns, block_columns, columns_of, IsColumn, stage_width, offsets_before, stages_before, blocks_before, column_count, column_at, segment_column, stage_column, block_column, column_number}
use Rattle.road_types.specs.declared.road.Road.{Road}
use Rattle.road_types.specs.declared.column.Column.{Column}
use Rattle.road_types.specs.declared.column.Column.TheVariants.{A, B, C, Offset, Cut, Fill, Right, Left, Access, Opened}
use Rattle.road_types.proofs.Acceptance.{both_true, true_both, number_of_test, test_of_number, nat_le_of_test, test_of_nat_le}

-- ---- how many there are

length-stage : (road : Road) (t : ℕ) → length (stage_columns road t) ≡ stage_width road
length-stage road t =
    let n = section_count road in
    let h = hop_count road in
    let q = access_count road in
    let cuts : List Column = list_to (λ i. Cut i t) n in
    let fills : List Column = list_to (λ i. Fill i t) n in
    let rights : List Column = list_to (λ j. Right j t) h in
    let lefts : List Column = list_to (λ j. Left j t) h in
    let roads : List Column = list_to (λ k. Access k t) q in
    let c : length cuts ≡ n = length-list_to (λ i. Cut i t) n in
    let f : length fills ≡ n = length-list_to (λ i. Fill i t) n in
    let r : length rights ≡ h = length-list_to (λ j. Right j t) h in
    let l : length lefts ≡ h = length-list_to (λ j. Left j t) h in
    let a : length roads ≡ q = length-list_to (λ k. Access k t) q in
    omega (
      arith,
      length-append cuts (fills ++ (rights ++ (lefts ++ roads))),
      length-append fills (rights ++ (lefts ++ roads)),
      length-append rights (lefts ++ roads),
      length-append lefts roads,
    )

length-blocks : (road : Road) (k : ℕ) → length (block_columns road k) ≡ road.stages - 1
length-blocks road k = length-list_to (λ before. Opened k (before + 1)) (road.stages - 1)

-- a column that is there
pub column_at_some : (b : Bool) (before place j : ℕ) → column_at b before place ≡ Some j → (b ≡ true) × (before + place ≡ j)
column_at_some true before place j h = (refl, cc)
column_at_some false before place j h = cc

column_at_true : (b : Bool) (before place : ℕ) → b ≡ true → column_at b before place ≡ Some (before + place)
column_at_true true before place h = refl
column_at_true false before place h = cc

module _ (road : Road) where
  abbrev segments : List Column
  segments = flat_to segment_columns (segment_count road)

  abbrev offsets : List Column
  offsets = list_to (λ i. Offset i) (section_count road)

  abbrev stages : List Column
  stages = flat_to (stage_columns road) road.stages

  abbrev blocks : List Column
  blocks = flat_to (block_columns road) (block_count road)

  length-segments : length segments ≡ segment_count road * 3
  length-segments = length-flat_to segment_columns (segment_count road) 3 (λ k low high. refl)

  length-offsets : length offsets ≡ section_count road
  length-offsets = length-list_to (λ i. Offset i) (section_count road)

  length-stages : length stages ≡ road.stages * stage_width road
  length-stages = length-flat_to (stage_columns road) road.stages (stage_width road) (λ k low high. length-stage road k)

  length-all_blocks : length blocks ≡ block_count road * (road.stages - 1)
  length-all_blocks = length-flat_to (block_columns road) (block_count road) (road.stages - 1) (λ k low high. length-blocks road k)

  pub length-columns_of : length (columns_of road) ≡ column_count road
  unfolding columns_of
  length-columns_of =
      omega (
        arith,
        length-append segments (offsets ++ (stages ++ blocks)),
        length-append offsets (stages ++ blocks),
        length-append stages blocks,
        length-segments,
        length-offsets,
        length-stages,
        length-all_blocks,
      )

  -- ---- from places to numbers

  segment_place : (g place : ℕ) (kind : Column) → IsNumber g (segment_count road) → IsEntry (segment_columns g) place kind → IsColumn road (3 * (g - 1) + place) kind
  unfolding columns_of
  segment_place g place kind n e =
      let inside = flat_to_entry segment_columns (segment_count road) 3 g place kind (λ k low high. refl) n.from_one n.at_most e in
      entry_left segments (offsets ++ (stages ++ blocks)) (3 * (g - 1) + place) kind
      (entry_at segments ((g - 1) * 3 + place) (3 * (g - 1) + place) kind (omega arith) inside)

  offset_place : (i : ℕ) → IsNumber i (section_count road) → IsColumn road (offsets_before road + i) (Offset i)
  unfolding columns_of
  offset_place i n =
      let inside = list_to_entry (λ i. Offset i) (section_count road) i n.from_one n.at_most in
      let behind = entry_right segments (offsets ++ (stages ++ blocks)) i (Offset i) (entry_left offsets (stages ++ blocks) i (Offset i) inside) in
      entry_at (columns_of road) (length segments + i) (offsets_before road + i) (Offset i) (omega (arith, length-segments)) behind

  stage_place : (t place : ℕ) (kind : Column) → IsNumber t road.stages → IsEntry (stage_columns road t) place kind
      → IsColumn road (stages_before road + ((t - 1) * stage_width road + place)) kind
  unfolding columns_of
  stage_place t place kind n e =
      let p = (t - 1) * stage_width road + place in
      let inside = flat_to_entry (stage_columns road) road.stages (stage_width road) t place kind (λ k low high. length-stage road k) n.from_one n.at_most e in
      let behind = entry_right segments (offsets ++ (stages ++ blocks)) (length offsets + p) kind
      (entry_right offsets (stages ++ blocks) p kind (entry_left stages blocks p kind inside)) in
      entry_at (columns_of road) (length segments + (length offsets + p)) (stages_before road + p) kind (omega (arith, length-segments, length-offsets)) behind

  block_place : (k place : ℕ) (kind : Column) → IsNumber k (block_count road) → IsEntry (block_columns road k) place kind
      → IsColumn road ((blocks_before road + (k - 1) * (road.stages - 1)) + place) kind
  unfolding columns_of
  block_place k place kind n e =
      let p = (k - 1) * (road.stages - 1) + place in
      let inside = flat_to_entry (block_columns road) (block_count road) (road.stages - 1) k place kind (λ j low high. length-blocks road j) n.from_one n.at_most e in
      let behind = entry_right segments (offsets ++ (stages ++ blocks)) (length offsets + (length stages + p)) kind
      (entry_right offsets (stages ++ blocks) (length stages + p) kind (entry_right stages blocks p kind inside)) in
      let s : length segments ≡ segment_count road * 3 = length-segments in
      let o : length offsets ≡ section_count road = length-offsets in
      let t : length stages ≡ road.stages * stage_width road = length-stages in
      entry_at (columns_of road) (length segments + (length offsets + (length stages + p))) ((blocks_before road + (k - 1) * (road.stages - 1)) + place) kind
      (omega arith) behind

  -- the five lists of a stage

  abbrev cuts : ℕ → List Column
  cuts t = list_to (λ i. Cut i t) (section_count road)

  abbrev fills : ℕ → List Column
  fills t = list_to (λ i. Fill i t) (section_count road)

  abbrev rights : ℕ → List Column
  rights t = list_to (λ h. Right h t) (hop_count road)

  abbrev lefts : ℕ → List Column
  lefts t = list_to (λ h. Left h t) (hop_count road)

  abbrev roads : ℕ → List Column
  roads t = list_to (λ q. Access q t) (access_count road)

  cut_place : (t i : ℕ) → IsNumber i (section_count road) → IsEntry (stage_columns road t) (0 + i) (Cut i t)
  cut_place t i n =
      let inside = list_to_entry (λ i. Cut i t) (section_count road) i n.from_one n.at_most in
      entry_at (stage_columns road t) i (0 + i) (Cut i t) (omega arith)
      (entry_left (cuts t) (fills t ++ (rights t ++ (lefts t ++ roads t))) i (Cut i t) inside)

  fill_place : (t i : ℕ) → IsNumber i (section_count road) → IsEntry (stage_columns road t) (section_count road + i) (Fill i t)
  fill_place t i n =
      let inside = list_to_entry (λ i. Fill i t) (section_count road) i n.from_one n.at_most in
      let behind = entry_right (cuts t) (fills t ++ (rights t ++ (lefts t ++ roads t))) i (Fill i t)
      (entry_left (fills t) (rights t ++ (lefts t ++ roads t)) i (Fill i t) inside) in
      entry_at (stage_columns road t) (length (cuts t) + i) (section_count road + i) (Fill i t)
      (omega (arith, length-list_to (λ i. Cut i t) (section_count road))) behind

  right_place : (t h : ℕ) → IsNumber h (hop_count road) → IsEntry (stage_columns road t) (2 * section_count road + h) (Right h t)
  right_place t h n =
      let inside = list_to_entry (λ h. Right h t) (hop_count road) h n.from_one n.at_most in
      let behind = entry_right (cuts t) (fills t ++ (rights t ++ (lefts t ++ roads t))) (length (fills t) + h) (Right h t)
      (entry_right (fills t) (rights t ++ (lefts t ++ roads t)) h (Right h t)
      (entry_left (rights t) (lefts t ++ roads t) h (Right h t) inside)) in
      entry_at (stage_columns road t) (length (cuts t) + (length (fills t) + h)) (2 * section_count road + h) (Right h t)
      (omega (arith, length-list_to (λ i. Cut i t) (section_count road), length-list_to (λ i. Fill i t) (section_count road))) behind

  left_place : (t h : ℕ) → IsNumber h (hop_count road) → IsEntry (stage_columns road t) ((2 * section_count road + hop_count road) + h) (Left h t)
  left_place t h n =
      let inside = list_to_entry (λ h. Left h t) (hop_count road) h n.from_one n.at_most in
      let behind = entry_right (cuts t) (fills t ++ (rights t ++ (lefts t ++ roads t))) (length (fills t) + (length (rights t) + h)) (Left h t)
      (entry_right (fills t) (rights t ++ (lefts t ++ roads t)) (length (rights t) + h) (Left h t)
      (entry_right (rights t) (lefts t ++ roads t) h (Left h t)
      (entry_left (lefts t) (roads t) h (Left h t) inside))) in
      entry_at (stage_columns road t) (length (cuts t) + (length (fills t) + (length (rights t) + h))) ((2 * section_count road + hop_count road) + h) (Left h t)
      (omega (arith, length-list_to (λ i. Cut i t) (section_count road), length-list_to (λ i. Fill i t) (section_count road), length-list_to (λ h. Right h t) (hop_count road))) behind

  road_place : (t q : ℕ) → IsNumber q (access_count road) → IsEntry (stage_columns road t) ((2 * section_count road + 2 * hop_count road) + q) (Access q t)
  road_place t q n =
      let inside = list_to_entry (λ q. Access q t) (access_count road) q n.from_one n.at_most in
      let behind = entry_right (cuts t) (fills t ++ (rights t ++ (lefts t ++ roads t))) (length (fills t) + (length (rights t) + (length (lefts t) + q))) (Access q t)
      (entry_right (fills t) (rights t ++ (lefts t ++ roads t)) (length (rights t) + (length (lefts t) + q)) (Access q t)
      (entry_right (rights t) (lefts t ++ roads t) (length (lefts t) + q) (Access q t)
      (entry_right (lefts t) (roads t) q (Access q t) inside))) in
      entry_at (stage_columns road t) (length (cuts t) + (length (fills t) + (length (rights t) + (length (lefts t) + q)))) ((2 * section_count road + 2 * hop_count road) + q) (Access q t)
      (omega (arith, length-list_to (λ i. Cut i t) (section_count road), length-list_to (λ i. Fill i t) (section_count road), length-list_to (λ h. Right h t) (hop_count road), length-list_to (λ h. Left h t) (hop_count road))) behind

  -- ---- a number that the arithmetic gives is that of the kind

  segment_found : (g place j : ℕ) (kind : Column) → IsEntry (segment_columns g) place kind → segment_column road g place ≡ Some j → IsColumn road j kind
  segment_found g place j kind e h =
      let f = column_at_some (is_number g (segment_count road)) (3 * (g - 1)) place j h in
      subst (λ n. IsColumn road n kind) f.1 (segment_place g place kind (number_of_test g (segment_count road) f.0) e)

  stage_found : (t before count place j : ℕ) (kind : Column) → (IsNumber place count → IsEntry (stage_columns road t) (before + place) kind)
      → stage_column road t before count place ≡ Some j → IsColumn road j kind
  stage_found t before count place j kind e h =
      let f = column_at_some (is_number t road.stages && is_number place count) (stages_before road + ((t - 1) * stage_width road + before)) place j h in
      let tests = both_true (is_number t road.stages) (is_number place count) f.0 in
      let found = stage_place t (before + place) kind (number_of_test t road.stages tests.0) (e (number_of_test place count tests.1)) in
      entry_at (columns_of road) (stages_before road + ((t - 1) * stage_width road + (before + place))) j kind (omega (arith, f.1)) found

  block_entry : (k t : ℕ) → 2 ≤ t → t ≤ road.stages → IsEntry (block_columns road k) (t - 1) (Opened k t)
  block_entry k t low high =
      let e = list_to_entry (λ before. Opened k (before + 1)) (road.stages - 1) (t - 1) (omega arith) (omega arith) in
      let same : t - 1 + 1 ≡ t = omega arith in
      subst (λ n. IsEntry (block_columns road k) (t - 1) (Opened k n)) same e

  block_found : (k t j : ℕ) → block_column road k t ≡ Some j → IsColumn road j (Opened k t)
  block_found k t j h =
      let f = column_at_some (is_number k (block_count road) && (nat_le 2 t && nat_le t road.stages)) (blocks_before road + (k - 1) * (road.stages - 1)) (t - 1) j h in
      let tests = both_true (is_number k (block_count road)) (nat_le 2 t && nat_le t road.stages) f.0 in
      let ends = both_true (nat_le 2 t) (nat_le t road.stages) tests.1 in
      let found = block_place k (t - 1) (Opened k t) (number_of_test k (block_count road) tests.0)
      (block_entry k t (nat_le_of_test 2 t ends.0) (nat_le_of_test t road.stages ends.1)) in
      entry_at (columns_of road) ((blocks_before road + (k - 1) * (road.stages - 1)) + (t - 1)) j (Opened k t) f.1 found

  offset_found : (i j : ℕ) → column_at (is_number i (section_count road)) (offsets_before road) i ≡ Some j → IsColumn road j (Offset i)
  offset_found i j h =
      let f = column_at_some (is_number i (section_count road)) (offsets_before road) i j h in
      subst (λ n. IsColumn road n (Offset i)) f.1 (offset_place i (number_of_test i (section_count road) f.0))

  pub IsColumn-from_number : (kind : Column) (j : ℕ) → column_number road kind ≡ Some j → IsColumn road j kind
  unfolding column_number
  IsColumn-from_number (A g) j h = segment_found g 1 j (A g) (entry_here (A g) (B g ∷ C g ∷ [])) h
  IsColumn-from_number (B g) j h = segment_found g 2 j (B g) (entry_behind (A g) (B g ∷ C g ∷ []) 1 (B g) (entry_here (B g) (C g ∷ []))) h
  IsColumn-from_number (C g) j h =
      segment_found g 3 j (C g) (entry_behind (A g) (B g ∷ C g ∷ []) 2 (C g) (entry_behind (B g) (C g ∷ []) 1 (C g) (entry_here (C g) []))) h
  IsColumn-from_number (Offset i) j h = offset_found i j h
  IsColumn-from_number (Cut i t) j h = stage_found t 0 (section_count road) i j (Cut i t) (cut_place t i) h
  IsColumn-from_number (Fill i t) j h = stage_found t (section_count road) (section_count road) i j (Fill i t) (fill_place t i) h
  IsColumn-from_number (Right i t) j h = stage_found t (2 * section_count road) (hop_count road) i j (Right i t) (right_place t i) h
  IsColumn-from_number (Left i t) j h = stage_found t (2 * section_count road + hop_count road) (hop_count road) i j (Left i t) (left_place t i) h
  IsColumn-from_number (Access q t) j h = stage_found t (2 * section_count road + 2 * hop_count road) (access_count road) q j (Access q t) (road_place t q) h
  IsColumn-from_number (Opened k t) j h = block_found k t j h

  -- ---- and every column has that number

  pub segment_number : (g place : ℕ) → IsNumber g (segment_count road) → segment_column road g place ≡ Some (3 * (g - 1) + place)
  segment_number g place n = column_at_true (is_number g (segment_count road)) (3 * (g - 1)) place (test_of_number g (segment_count road) n)

  pub offset_number : (i : ℕ) → IsNumber i (section_count road) → column_at (is_number i (section_count road)) (offsets_before road) i ≡ Some (offsets_before road + i)
  offset_number i n = column_at_true (is_number i (section_count road)) (offsets_before road) i (test_of_number i (section_count road) n)

  pub stage_number : (t before count place : ℕ) → IsNumber t road.stages → IsNumber place count
      → stage_column road t before count place ≡ Some ((stages_before road + ((t - 1) * stage_width road + before)) + place)
  stage_number t before count place n m =
      column_at_true (is_number t road.stages && is_number place count) (stages_before road + ((t - 1) * stage_width road + before)) place
      (true_both (is_number t road.stages) (is_number place count) (test_of_number t road.stages n) (test_of_number place count m))

  pub block_number : (k t : ℕ) → IsNumber k (block_count road) → 2 ≤ t → t ≤ road.stages
      → block_column road k t ≡ Some ((blocks_before road + (k - 1) * (road.stages - 1)) + (t - 1))
  block_number k t n low high =
      column_at_true (is_number k (block_count road) && (nat_le 2 t && nat_le t road.stages)) (blocks_before road + (k - 1) * (road.stages - 1)) (t - 1)
      (true_both (is_number k (block_count road)) (nat_le 2 t && nat_le t road.stages) (test_of_number k (block_count road) n)
      (true_both (nat_le 2 t) (nat_le t road.stages) (test_of_nat_le 2 t low) (test_of_nat_le t road.stages high)))

  -- the number that a kind has by the arithmetic is the one that it has in the list
  abbrev IsNumbered : ℕ → Column → Type 0
  IsNumbered j kind = column_number road kind ≡ Some j

  segment_kind : (g place j : ℕ) (kind : Column) → IsNumber g (segment_count road) → j ≡ (g - 1) * 3 + place → IsEntry (segment_columns g) place kind → IsNumbered j kind
  unfolding column_number
  segment_kind g place j kind n at e =
      ⊎_elim
      (λ (a : IsEntry (A g ∷ []) place kind).
      let one = entry_of_one (A g) place kind a in
      let same : 3 * (g - 1) + 1 ≡ j = omega (arith, one.0) in
      subst (λ k. IsNumbered j k) one.1 (segment_number g 1 n ∙ ap Some same))
      (λ (r : (p : ℕ) × ((place ≡ 1 + p) × IsEntry (B g ∷ C g ∷ []) p kind)).
      ⊎_elim
      (λ (b : IsEntry (B g ∷ []) r.0 kind).
      let one = entry_of_one (B g) r.0 kind b in
      let same : 3 * (g - 1) + 2 ≡ j = omega (arith, one.0, r.1.0) in
      subst (λ k. IsNumbered j k) one.1 (segment_number g 2 n ∙ ap Some same))
      (λ (s : (p : ℕ) × ((r.0 ≡ 1 + p) × IsEntry (C g ∷ []) p kind)).
      let one = entry_of_one (C g) s.0 kind s.1.1 in
      let same : 3 * (g - 1) + 3 ≡ j = omega (arith, one.0, r.1.0, s.1.0) in
      subst (λ k. IsNumbered j k) one.1 (segment_number g 3 n ∙ ap Some same))
      (entry_cases (B g ∷ []) (C g ∷ []) r.0 kind r.1.1))
      (entry_cases (A g ∷ []) (B g ∷ C g ∷ []) place kind e)

  stage_kind : (t place j : ℕ) (kind : Column) → IsNumber t road.stages → j ≡ stages_before road + ((t - 1) * stage_width road + place)
      → IsEntry (stage_columns road t) place kind → IsNumbered j kind
  unfolding column_number
  stage_kind t place j kind n at e =
      let n1 = length-list_to (λ i. Cut i t) (section_count road) in
      let n2 = length-list_to (λ i. Fill i t) (section_count road) in
      let n3 = length-list_to (λ h. Right h t) (hop_count road) in
      let n4 = length-list_to (λ h. Left h t) (hop_count road) in
      ⊎_elim
      (λ (c : IsEntry (cuts t) place kind).
      let o = entry_of_list_to (λ i. Cut i t) (section_count road) place kind c in
      let m : IsNumber place (section_count road) = record { from_one = o.0; at_most = o.1.0 } in
      let same : (stages_before road + ((t - 1) * stage_width road + 0)) + place ≡ j = omega arith in
      subst (λ k. IsNumbered j k) o.1.1 (stage_number t 0 (section_count road) place n m ∙ ap Some same))
      (λ (r : (p : ℕ) × ((place ≡ length (cuts t) + p) × IsEntry (fills t ++ (rights t ++ (lefts t ++ roads t))) p kind)).
      ⊎_elim
      (λ (c : IsEntry (fills t) r.0 kind).
      let o = entry_of_list_to (λ i. Fill i t) (section_count road) r.0 kind c in
      let m : IsNumber r.0 (section_count road) = record { from_one = o.0; at_most = o.1.0 } in
      let same : (stages_before road + ((t - 1) * stage_width road + section_count road)) + r.0 ≡ j = omega (arith, r.1.0, n1) in
      subst (λ k. IsNumbered j k) o.1.1 (stage_number t (section_count road) (section_count road) r.0 n m ∙ ap Some same))
      (λ (r2 : (p : ℕ) × ((r.0 ≡ length (fills t) + p) × IsEntry (rights t ++ (lefts t ++ roads t)) p kind)).
      ⊎_elim
      (λ (c : IsEntry (rights t) r2.0 kind).
      let o = entry_of_list_to (λ h. Right h t) (hop_count road) r2.0 kind c in
      let m : IsNumber r2.0 (hop_count road) = record { from_one = o.0; at_most = o.1.0 } in
      let same : (stages_before road + ((t - 1) * stage_width road + 2 * section_count road)) + r2.0 ≡ j = omega (arith, r.1.0, r2.1.0, n1, n2) in
      subst (λ k. IsNumbered j k) o.1.1 (stage_number t (2 * section_count road) (hop_count road) r2.0 n m ∙ ap Some same))
      (λ (r3 : (p : ℕ) × ((r2.0 ≡ length (rights t) + p) × IsEntry (lefts t ++ roads t) p kind)).
      ⊎_elim
      (λ (c : IsEntry (lefts t) r3.0 kind).
      let o = entry_of_list_to (λ h. Left h t) (hop_count road) r3.0 kind c in
      let m : IsNumber r3.0 (hop_count road) = record { from_one = o.0; at_most = o.1.0 } in
      let same : (stages_before road + ((t - 1) * stage_width road + (2 * section_count road + hop_count road))) + r3.0 ≡ j = omega (arith, r.1.0, r2.1.0, r3.1.0, n1, n2, n3) in
      subst (λ k. IsNumbered j k) o.1.1 (stage_number t (2 * section_count road + hop_count road) (hop_count road) r3.0 n m ∙ ap Some same))
      (λ (r4 : (p : ℕ) × ((r3.0 ≡ length (lefts t) + p) × IsEntry (roads t) p kind)).
      let o = entry_of_list_to (λ q. Access q t) (access_count road) r4.0 kind r4.1.1 in
      let m : IsNumber r4.0 (access_count road) = record { from_one = o.0; at_most = o.1.0 } in
      let same : (stages_before road + ((t - 1) * stage_width road + (2 * section_count road + 2 * hop_count road))) + r4.0 ≡ j =
      omega (arith, r.1.0, r2.1.0, r3.1.0, r4.1.0, n1, n2, n3, n4) in
      subst (λ k. IsNumbered j k) o.1.1 (stage_number t (2 * section_count road + 2 * hop_count road) (access_count road) r4.0 n m ∙ ap Some same))
      (entry_cases (lefts t) (roads t) r3.0 kind r3.1.1))
      (entry_cases (rights t) (lefts t ++ roads t) r2.0 kind r2.1.1))
      (entry_cases (fills t) (rights t ++ (lefts t ++ roads t)) r.0 kind r.1.1))
      (entry_cases (cuts t) (fills t ++ (rights t ++ (lefts t ++ roads t))) place kind e)

  block_kind : (k place j : ℕ) (kind : Column) → IsNumber k (block_count road) → j ≡ blocks_before road + ((k - 1) * (road.stages - 1) + place)
      → IsEntry (block_columns road k) place kind → IsNumbered j kind
  unfolding column_number
  block_kind k place j kind n at e =
      let o = entry_of_list_to (λ before. Opened k (before + 1)) (road.stages - 1) place kind e in
      let same : (blocks_before road + (k - 1) * (road.stages - 1)) + (place + 1 - 1) ≡ j = omega arith in
      subst (λ c. IsNumbered j c) o.1.1 (block_number k (place + 1) n (omega (arith, o.0)) (omega (arith, o.0, o.1.0)) ∙ ap Some same)

  pub column_number-from_IsColumn : (kind : Column) (j : ℕ) → IsColumn road j kind → column_number road kind ≡ Some j
  unfolding columns_of column_number
  column_number-from_IsColumn kind j e =
      let s : length segments ≡ segment_count road * 3 = length-segments in
      let o : length offsets ≡ section_count road = length-offsets in
      let t : length stages ≡ road.stages * stage_width road = length-stages in
      ⊎_elim
      (λ (l : IsEntry segments j kind).
      let of = entry_of_flat_to segment_columns (segment_count road) 3 j kind (λ k low high. refl) l in
      segment_kind of.list of.place j kind (record { from_one = of.from_one; at_most = of.at_most }) of.number of.is_entry)
      (λ (r : (p : ℕ) × ((j ≡ length segments + p) × IsEntry (offsets ++ (stages ++ blocks)) p kind)).
      ⊎_elim
      (λ (l : IsEntry offsets r.0 kind).
      let of = entry_of_list_to (λ i. Offset i) (section_count road) r.0 kind l in
      let same : offsets_before road + r.0 ≡ j = omega (arith, r.1.0) in
      subst (λ c. IsNumbered j c) of.1.1
      (offset_number r.0 (record { from_one = of.0; at_most = of.1.0 }) ∙ ap Some same))
      (λ (r2 : (p : ℕ) × ((r.0 ≡ length offsets + p) × IsEntry (stages ++ blocks) p kind)).
      ⊎_elim
      (λ (l : IsEntry stages r2.0 kind).
      let of = entry_of_flat_to (stage_columns road) road.stages (stage_width road) r2.0 kind (λ k low high. length-stage road k) l in
      stage_kind of.list of.place j kind (record { from_one = of.from_one; at_most = of.at_most }) (omega (arith, r.1.0, r2.1.0, of.number)) of.is_entry)
      (λ (r3 : (p : ℕ) × ((r2.0 ≡ length stages + p) × IsEntry blocks p kind)).
      let of = entry_of_flat_to (block_columns road) (block_count road) (road.stages - 1) r3.0 kind (λ k low high. length-blocks road k) r3.1.1 in
      block_kind of.list of.place j kind (record { from_one = of.from_one; at_most = of.at_most }) (omega (arith, r.1.0, r2.1.0, r3.1.0, of.number)) of.is_entry)
      (entry_cases stages blocks r2.0 kind r2.1.1))
      (entry_cases offsets (stages ++ blocks) r.0 kind r.1.1))
      (entry_cases segments (offsets ++ (stages ++ blocks)) j kind e)

  -- what the arithmetic answers tells which number has the kind
  pub kinds_found : (kind : Column) (found : Option ℕ) → column_number road kind ≡ found
      → MatchOption found ((j : ℕ) → ¬ IsColumn road j kind) (λ number. (j : ℕ) → IsColumn road j kind ↔ (j ≡ number))
  kinds_found kind None e = λ j c. let h : Some j ≡ None = sym (column_number-from_IsColumn kind j c) ∙ e in cc
  kinds_found kind (Some number) e =
      λ j. (
        λ c. let h : Some j ≡ Some number = sym (column_number-from_IsColumn kind j c) ∙ e in cc,
        λ same. subst (λ n. IsColumn road n kind) (sym same) (IsColumn-from_number kind number e),
      )
