-- The kinds of column that a road has, by the numbers in them. What holds of each of them holds along the list of columns, and
-- the other way round; a kind has a column number exactly where the road has it.
use Rattle.std.proofs.Common.{◌≡◌, ℕ, zero, suc, ◌+◌, ◌-◌, ◌<◌, Some, None, List, [], ◌∷◌, ◌++◌, length, get_or, arith, refl, subst}
use Rattle.std.specs.List.{All}
use Rattle.std.proofs.lemmas.List.Elements.{All-append, All-cons, All-head, All-tail}
use Rattle.algebra.specs.Lists.{list_to, flat_to}
use Rattle.road_types.specs.Numbered.{IsNumber}
use Rattle.road_types.specs.Road.{section_count, segment_count, hop_count, access_count, block_count}
use Rattle.road_types.specs.Columns.{columns_of, segment_columns, stage_columns, block_columns, column_number}
use Rattle.road_types.specs.declared.road.Road.{Road}
use Rattle.road_types.specs.declared.column.Column.{Column}
use Rattle.road_types.specs.declared.column.Column.TheVariants.{A, B, C, Offset, Cut, Fill, Right, Left, Access, Opened}
use Rattle.road_types.proofs.ColumnPlaces.{IsColumn-from_number, column_number-from_IsColumn}
use Rattle.road_points.specs.ColumnKinds.{IsKindOf}
use Rattle.road_points.proofs.FormGroups.{all_left, all_right, all_flat_to, flat_to_all, all_list_to, list_to_all, all_one, second_of}

-- ---- along the columns

module _ (road : Road) (P : Column → Type 0) where
  abbrev segments_part : List Column
  segments_part = flat_to segment_columns (segment_count road)

  abbrev offsets_part : List Column
  offsets_part = list_to (λ i. Offset i) (section_count road)

  abbrev stages_part : List Column
  stages_part = flat_to (stage_columns road) road.stages

  abbrev blocks_part : List Column
  blocks_part = flat_to (block_columns road) (block_count road)

  abbrev cut_part : ℕ → List Column
  cut_part t = list_to (λ i. Cut i t) (section_count road)

  abbrev fill_part : ℕ → List Column
  fill_part t = list_to (λ i. Fill i t) (section_count road)

  abbrev right_part : ℕ → List Column
  right_part t = list_to (λ h. Right h t) (hop_count road)

  abbrev left_part : ℕ → List Column
  left_part t = list_to (λ h. Left h t) (hop_count road)

  abbrev access_part : ℕ → List Column
  access_part t = list_to (λ q. Access q t) (access_count road)

  stage_kinds : ((kind : Column) → IsKindOf road kind → P kind) → (t : ℕ) → IsNumber t road.stages → All P (stage_columns road t)
  stage_kinds h t s =
      All-append P (cut_part t) (fill_part t ++ (right_part t ++ (left_part t ++ access_part t)))
      (all_list_to P (λ i. Cut i t) (section_count road) (λ i n. h (Cut i t) (n, s)))
      (All-append P (fill_part t) (right_part t ++ (left_part t ++ access_part t))
      (all_list_to P (λ i. Fill i t) (section_count road) (λ i n. h (Fill i t) (n, s)))
      (All-append P (right_part t) (left_part t ++ access_part t)
      (all_list_to P (λ i. Right i t) (hop_count road) (λ i n. h (Right i t) (n, s)))
      (All-append P (left_part t) (access_part t)
      (all_list_to P (λ i. Left i t) (hop_count road) (λ i n. h (Left i t) (n, s)))
      (all_list_to P (λ q. Access q t) (access_count road) (λ q n. h (Access q t) (n, s))))))

  pub all_kinds : ((kind : Column) → IsKindOf road kind → P kind) → All P (columns_of road)
  unfolding columns_of
  all_kinds h =
      All-append P segments_part (offsets_part ++ (stages_part ++ blocks_part))
      (all_flat_to P segment_columns (segment_count road)
      (λ g n. All-cons P (A g) (B g ∷ C g ∷ []) (h (A g) n) (All-cons P (B g) (C g ∷ []) (h (B g) n) (all_one P (C g) (h (C g) n)))))
      (All-append P offsets_part (stages_part ++ blocks_part)
      (all_list_to P (λ i. Offset i) (section_count road) (λ i n. h (Offset i) n))
      (All-append P stages_part blocks_part
      (all_flat_to P (stage_columns road) road.stages (stage_kinds h))
      (all_flat_to P (block_columns road) (block_count road)
      (λ k n.
      all_list_to P (λ before. Opened k (before + 1)) (road.stages - 1)
      (λ before m. h (Opened k (before + 1)) (n, (omega (arith, m.from_one), omega (arith, m.from_one, m.at_most))))))))

  module _ (a : All P (columns_of road)) where
    in_segments : All P segments_part
    unfolding columns_of
    in_segments = all_left P segments_part (offsets_part ++ (stages_part ++ blocks_part)) a

    in_offsets : All P offsets_part
    unfolding columns_of
    in_offsets = all_left P offsets_part (stages_part ++ blocks_part) (all_right P segments_part (offsets_part ++ (stages_part ++ blocks_part)) a)

    in_stage : (t : ℕ) → IsNumber t road.stages → All P (stage_columns road t)
    unfolding columns_of
    in_stage =
        flat_to_all P (stage_columns road) road.stages
        (all_left P stages_part blocks_part (all_right P offsets_part (stages_part ++ blocks_part) (all_right P segments_part (offsets_part ++ (stages_part ++ blocks_part)) a)))

    in_block : (k : ℕ) → IsNumber k (block_count road) → All P (block_columns road k)
    unfolding columns_of
    in_block =
        flat_to_all P (block_columns road) (block_count road)
        (all_right P stages_part blocks_part (all_right P offsets_part (stages_part ++ blocks_part) (all_right P segments_part (offsets_part ++ (stages_part ++ blocks_part)) a)))

    in_segment : (g : ℕ) → IsNumber g (segment_count road) → All P (A g ∷ B g ∷ C g ∷ [])
    in_segment g n = flat_to_all P segment_columns (segment_count road) in_segments g n

    pub kinds_all : (kind : Column) → IsKindOf road kind → P kind
    kinds_all (A g) n = All-head P (A g) (B g ∷ C g ∷ []) (in_segment g n)
    kinds_all (B g) n = second_of P (A g) (B g) (C g ∷ []) (in_segment g n)
    kinds_all (C g) n = second_of P (B g) (C g) [] (All-tail P (A g) (B g ∷ C g ∷ []) (in_segment g n))
    kinds_all (Offset i) n = list_to_all P (λ i. Offset i) (section_count road) in_offsets i n
    kinds_all (Cut i t) n =
        list_to_all P (λ i. Cut i t) (section_count road)
        (all_left P (cut_part t) (fill_part t ++ (right_part t ++ (left_part t ++ access_part t))) (in_stage t n.1)) i n.0
    kinds_all (Fill i t) n =
        list_to_all P (λ i. Fill i t) (section_count road)
        (all_left P (fill_part t) (right_part t ++ (left_part t ++ access_part t))
        (all_right P (cut_part t) (fill_part t ++ (right_part t ++ (left_part t ++ access_part t))) (in_stage t n.1))) i n.0
    kinds_all (Right i t) n =
        list_to_all P (λ i. Right i t) (hop_count road)
        (all_left P (right_part t) (left_part t ++ access_part t)
        (all_right P (fill_part t) (right_part t ++ (left_part t ++ access_part t))
        (all_right P (cut_part t) (fill_part t ++ (right_part t ++ (left_part t ++ access_part t))) (in_stage t n.1)))) i n.0
    kinds_all (Left i t) n =
        list_to_all P (λ i. Left i t) (hop_count road)
        (all_left P (left_part t) (access_part t)
        (all_right P (right_part t) (left_part t ++ access_part t)
        (all_right P (fill_part t) (right_part t ++ (left_part t ++ access_part t))
        (all_right P (cut_part t) (fill_part t ++ (right_part t ++ (left_part t ++ access_part t))) (in_stage t n.1))))) i n.0
    kinds_all (Access q t) n =
        list_to_all P (λ q. Access q t) (access_count road)
        (all_right P (left_part t) (access_part t)
        (all_right P (right_part t) (left_part t ++ access_part t)
        (all_right P (fill_part t) (right_part t ++ (left_part t ++ access_part t))
        (all_right P (cut_part t) (fill_part t ++ (right_part t ++ (left_part t ++ access_part t))) (in_stage t n.1))))) q n.0
    kinds_all (Opened k zero) n = absurd (omega (arith, n.1.0))
    kinds_all (Opened k (suc t)) n =
        let e : t + 1 ≡ suc t = omega arith in
        subst (λ (s : ℕ). P (Opened k s)) e
        (list_to_all P (λ before. Opened k (before + 1)) (road.stages - 1) (in_block k n.0) t (record { from_one = omega (arith, n.1.0); at_most = omega (arith, n.1.1) }))

-- ---- kinds and column numbers

module _ (road : Road) where
  -- the kind at a position of the columns has the number after it
  pub number_at : (k : ℕ) (other : Column) → k < length (columns_of road) → column_number road (get_or (columns_of road) k other) ≡ Some (suc k)
  number_at k other l =
      column_number-from_IsColumn road (get_or (columns_of road) k other) (suc k)
      (record { before = k; number = refl; within = l; is_entry = same_entry (columns_of road) k other l })
    where
      same_entry : (xs : List Column) (k : ℕ) (other : Column) → k < length xs → get_or xs k (get_or xs k other) ≡ get_or xs k other
      same_entry [] k other l = absurd (omega arith)
      same_entry (x ∷ xs) zero other l = refl
      same_entry (x ∷ xs) (suc k) other l = same_entry xs k other (omega arith)

  -- a kind with a number is one of the road's
  pub kind_of_number : (kind : Column) (j : ℕ) → column_number road kind ≡ Some j → IsKindOf road kind
  kind_of_number kind j h =
      let e = IsColumn-from_number road kind j h in
      subst (IsKindOf road) e.is_entry (all_kinds road (IsKindOf road) (λ c n. n) e.before kind e.within)

  -- one of the road's kinds has a number
  pub number_of_kind : (kind : Column) → IsKindOf road kind → column_number road kind ≡ None → ⊥
  number_of_kind =
      kinds_all road (λ c. column_number road c ≡ None → ⊥)
      (λ k d l none. let e = number_at k d l in (cc))
