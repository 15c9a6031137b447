-- How far the columns of each kind reach over all offsets and openings of a road, and with it what a row of a form weighs.
use Rattle.std.proofs.Common.{◌≡◌, ℕ, zero, suc, ◌+◌, ◌-◌, ◌*◌, ◌<◌, ◌≤◌, Bool, true, false, ◌&&◌, cond, List, [], ◌∷◌, ◌++◌, length, map, arith, ap, sym, ◌∙◌, refl, ◌⊎◌, inl, inr, ⊎_elim, Option, Some, None}
use Rattle.std.specs.Prelude.{ℤ, pos, neg_ℤ, ◌≤ℤ◌, unsigned_abs}
use Rattle.std.specs.Int.{int_max}
use Rattle.std.specs.Ordering.{int_eq}
use Rattle.std.proofs.lemmas.Int.{ints, clamps}
use Rattle.std.proofs.lemmas.Bool.{cases_lt}
use Rattle.std.proofs.lemmas.Bool.Decides.{Decides-int_eq, nat_tests}
use Rattle.algebra.specs.Lists.{total_of}
use Rattle.algebra.specs.Numbered.{numbered, IsNumber}
use Rattle.algebra.proofs.ListsLemmas.{numbered-map_entry, get_or-map_at}
use Rattle.algebra.proofs.NumberedLemmas.{numbered_past, numbered-map}
use Rattle.programs.specs.Weights.{reach}
use Rattle.programs.proofs.WeightsLemmas.{reach_at, terms_weight, rows_weight}
use Rattle.road_types.specs.Columns.{columns_of, column_number, column_at, stage_column, stages_before, stage_width, bounds_of, opened_bounds}
use Rattle.road_types.specs.Forms.{Form}
use Rattle.road_types.specs.Lines.{deepest}
use Rattle.road_types.specs.Ranges.{whole_range, whole_ranges, whole_opening, whole_openings}
use Rattle.road_types.specs.Road.{section, hop, access, block, no_section, no_hop, section_count, segment_count, hop_count, access_count, block_count}
use Rattle.road_types.specs.RoadPrograms.{term_in, terms_of, row_of}
use Rattle.road_types.specs.RecordFaults.{is_number}
use Rattle.road_types.specs.Volumes.{thickness_of}
use Rattle.road_types.specs.WellFormed.{IsSolidSlab, IsSlabTable}
use Rattle.road_types.specs.inside.Loads.{height_reach, grade_reach, curve_reach}
use Rattle.road_types.specs.declared.road.Road.{Road}
use Rattle.road_types.specs.declared.road.Slab.{Slab}
use Rattle.road_types.specs.declared.column.Column.{Column}
use Rattle.road_types.specs.declared.column.Column.TheVariants.{A, B, C, Offset, Cut, Fill, Right, Left, Access, Opened}
use Rattle.term_store.specs.declared.term.Term.{Term}
use Rattle.road_types.proofs.Acceptance.{number_of_test, test_of_number}
use Rattle.road_types.proofs.ColumnPlaces.{IsColumn-from_number, segment_number, stage_number, block_number, offset_number}

-- the reach of a column that is there, and 0 of none
abbrev pub found_reach : Option ℕ → ℕ → ℕ
found_reach None r = 0
found_reach (Some j) r = r

-- a table's slabs behind the first one
later_solid : (slab : Slab) (slabs : List Slab) → ((k : ℕ) (other : Slab) → IsNumber k (length (slab ∷ slabs)) → IsSolidSlab (numbered other (slab ∷ slabs) k))
    → (k : ℕ) (other : Slab) → IsNumber k (length slabs) → IsSolidSlab (numbered other slabs k)
later_solid slab slabs h zero other n = absurd (omega (arith, n.from_one))
later_solid slab slabs h (suc k) other n = h (suc (suc k)) other (record { from_one = omega arith; at_most = omega (arith, n.at_most) })

-- a thickness isn't below 0
pub thickness_from : (slabs : List Slab) → ((k : ℕ) (other : Slab) → IsNumber k (length slabs) → IsSolidSlab (numbered other slabs k)) → pos 0 ≤ℤ thickness_of slabs
unfolding thickness_of
thickness_from [] h = omega (arith, ints)
thickness_from (slab ∷ slabs) h =
    let first = h 1 slab (record { from_one = omega arith; at_most = omega arith }) in
    let rest = thickness_from slabs (later_solid slab slabs h) in
    omega (arith, ints, first.thick.at_least)

-- the reach of a whole range of offsets
whole_reach : (cut fill : ℤ) → pos 0 ≤ℤ cut → pos 0 ≤ℤ fill → reach (neg_ℤ cut, fill) ≡ unsigned_abs (int_max cut fill)
whole_reach cut fill p q = omega (arith, ints, clamps)

reach_from_zero : (x : ℤ) → reach (pos 0, x) ≡ unsigned_abs x
reach_from_zero x = omega (arith, ints)

-- an opening that may lie at each stage from 2 on, or never
opened_whole : (stages t : ℕ) → 2 ≤ t → t ≤ stages → opened_bounds (2, stages + 1) t ≡ (pos 0, pos 1)
opened_whole stages t low high = grind (arith, nat_tests)

and_false : (b : Bool) → (b && false) ≡ false
and_false true = refl
and_false false = refl

column_at_false : (b : Bool) (before place : ℕ) → b ≡ false → column_at b before place ≡ None
column_at_false true before place h = cc
column_at_false false before place h = refl

pub bool_cases : (b : Bool) → (b ≡ true) ⊎ (b ≡ false)
bool_cases true = inl refl
bool_cases false = inr refl

-- ---- terms

terms_weight-append : (bounds : List (ℤ × ℤ)) (ts more : List (Term ℤ)) → terms_weight bounds (ts ++ more) ≡ terms_weight bounds ts + terms_weight bounds more
terms_weight-append bounds [] more = omega arith
terms_weight-append bounds (t ∷ ts) more = omega (arith, terms_weight-append bounds ts more)

-- a coefficient that isn't 0, in its column
some_weight : (bounds : List (ℤ × ℤ)) (j : ℕ) (a : ℤ) (r : ℕ) (b : Bool) → int_eq a (pos 0) ≡ b → reach_at bounds j ≡ r
    → terms_weight bounds (cond b [] (record { column = j; value = a } ∷ [])) ≡ unsigned_abs a * r
some_weight bounds j a r true e h =
    let zero_is : a ≡ pos 0 = (Decides-int_eq a (pos 0)).0 e in
    let none : unsigned_abs a ≡ 0 = ap unsigned_abs zero_is in
    sym (ap (λ n. n * r) none ∙ omega arith)
some_weight bounds j a r false e h = let same = ap (λ n. unsigned_abs a * n) h in omega arith

term_weight : (bounds : List (ℤ × ℤ)) (found : Option ℕ) (a : ℤ) (r : ℕ) → ((j : ℕ) → found ≡ Some j → reach_at bounds j ≡ r)
    → terms_weight bounds (term_in found a) ≡ unsigned_abs a * found_reach found r
term_weight bounds None a r h = omega arith
term_weight bounds (Some j) a r h = some_weight bounds j a r (int_eq a (pos 0)) refl (h j refl)

module _ (road : Road) where
  -- the bounds of all columns over all offsets and openings
  abbrev pub whole_bounds : List (ℤ × ℤ)
  whole_bounds = map (bounds_of road (whole_ranges road) (whole_openings road)) (columns_of road)

  abbrev pub kind_reach : Column → ℕ
  kind_reach kind = reach (bounds_of road (whole_ranges road) (whole_openings road) kind)

  abbrev pub reach_in : Column → ℕ
  reach_in kind = found_reach (column_number road kind) (kind_reach kind)

  abbrev pub entry_weight : Column × ℤ → ℕ
  entry_weight entry = unsigned_abs entry.1 * reach_in entry.0

  abbrev pub form_weight : Form → ℕ
  form_weight form = total_of entry_weight form.entries + unsigned_abs form.right

  -- the bounds of a column are those of its kind
  reach_of_column : (kind : Column) (j : ℕ) → column_number road kind ≡ Some j → reach_at whole_bounds j ≡ kind_reach kind
  reach_of_column kind j e =
      let at = numbered-map_entry (bounds_of road (whole_ranges road) (whole_openings road)) (pos 0, pos 0) (columns_of road) j kind (IsColumn-from_number road kind j e) in
      ap reach at

  pub terms_weight-entries : (entries : List (Column × ℤ)) → terms_weight whole_bounds (terms_of road entries) ≡ total_of entry_weight entries
  terms_weight-entries [] = refl
  terms_weight-entries (e ∷ es) =
      let first = term_weight whole_bounds (column_number road e.0) e.1 (kind_reach e.0) (reach_of_column e.0) in
      let rest = terms_weight-entries es in
      let both = terms_weight-append whole_bounds (term_in (column_number road e.0) e.1) (terms_of road es) in
      omega arith

  pub rows_weight-forms : (forms : List Form) → rows_weight whole_bounds (map (row_of road) forms) ≡ total_of form_weight forms
  rows_weight-forms [] = refl
  rows_weight-forms (form ∷ forms) =
      let first = terms_weight-entries form.entries in
      let rest = rows_weight-forms forms in
      omega arith

  -- ---- reaches by kind

  reach_there : (kind : Column) (j : ℕ) → column_number road kind ≡ Some j → reach_in kind ≡ kind_reach kind
  reach_there kind j e = ap (λ found. found_reach found (kind_reach kind)) e

  reach_none : (kind : Column) → column_number road kind ≡ None → reach_in kind ≡ 0
  reach_none kind e = ap (λ found. found_reach found (kind_reach kind)) e

  pub reach-A : (g : ℕ) → IsNumber g (segment_count road) → reach_in (A g) ≡ height_reach road
  unfolding column_number
  reach-A g n = reach_there (A g) (3 * (g - 1) + 1) (segment_number road g 1 n)

  pub reach-B : (g : ℕ) → IsNumber g (segment_count road) → reach_in (B g) ≡ grade_reach road
  unfolding column_number
  reach-B g n = reach_there (B g) (3 * (g - 1) + 2) (segment_number road g 2 n)

  pub reach-C : (g : ℕ) → IsNumber g (segment_count road) → reach_in (C g) ≡ curve_reach road
  unfolding column_number
  reach-C g n = reach_there (C g) (3 * (g - 1) + 3) (segment_number road g 3 n)

  -- the range of a section's offsets over its whole slabs
  whole_at : (i : ℕ) → numbered (pos 0, pos 0) (whole_ranges road) i ≡ whole_range (section road i)
  unfolding thickness_of
  whole_at i = numbered-map whole_range no_section road.sections i

  pub reach-Offset : (i : ℕ) → IsNumber i (section_count road) → IsSlabTable (section road i).cut → IsSlabTable (section road i).fill
      → reach_in (Offset i) ≡ unsigned_abs (deepest (section road i))
  unfolding column_number
  reach-Offset i n cut fill =
      reach_there (Offset i) _ (offset_number road i n)
      ∙ (ap reach (whole_at i)
      ∙ whole_reach (thickness_of (section road i).cut) (thickness_of (section road i).fill)
      (thickness_from (section road i).cut cut.solid) (thickness_from (section road i).fill fill.solid))

  pub reach-Cut : (i t : ℕ) → IsNumber t road.stages → IsNumber i (section_count road) → reach_in (Cut i t) ≡ unsigned_abs (section road i).cut_max
  unfolding column_number
  reach-Cut i t n m = reach_there (Cut i t) _ (stage_number road t 0 (section_count road) i n m) ∙ reach_from_zero (section road i).cut_max

  pub reach-Fill : (i t : ℕ) → IsNumber t road.stages → IsNumber i (section_count road) → reach_in (Fill i t) ≡ unsigned_abs (section road i).fill_max
  unfolding column_number
  reach-Fill i t n m = reach_there (Fill i t) _ (stage_number road t (section_count road) (section_count road) i n m) ∙ reach_from_zero (section road i).fill_max

  pub reach-Access : (q t : ℕ) → IsNumber t road.stages → IsNumber q (access_count road) → reach_in (Access q t) ≡ unsigned_abs (access road q).max
  unfolding column_number
  reach-Access q t n m =
      reach_there (Access q t) _ (stage_number road t (2 * section_count road + 2 * hop_count road) (access_count road) q n m)
      ∙ reach_from_zero (access road q).max

  -- a hop past an end has no columns and no caps

  pub hop-none : (h : ℕ) → is_number h (hop_count road) ≡ false → hop road h ≡ no_hop
  hop-none zero e = refl
  hop-none (suc k) e =
      ⊎_elim
      (λ (l : hop_count road < suc k). numbered_past no_hop road.hops (suc k) l)
      (λ (l : suc k ≤ hop_count road).
      let yes = test_of_number (suc k) (hop_count road) (record { from_one = omega arith; at_most = l }) in
      absurd (let both : true ≡ false = sym yes ∙ e in cc))
      (cases_lt (hop_count road) (suc k))

  no_stage_column : (t before count place : ℕ) → is_number place count ≡ false → stage_column road t before count place ≡ None
  no_stage_column t before count place e =
      column_at_false (is_number t road.stages && is_number place count) (stages_before road + ((t - 1) * stage_width road + before)) place
      (ap (λ b. is_number t road.stages && b) e ∙ and_false (is_number t road.stages))

  pub reach-Right : (h t : ℕ) → IsNumber t road.stages → reach_in (Right h t) ≡ unsigned_abs (hop road h).right_max
  unfolding column_number
  reach-Right h t n =
      ⊎_elim
      (λ (e : is_number h (hop_count road) ≡ true).
      reach_there (Right h t) _ (stage_number road t (2 * section_count road) (hop_count road) h n (number_of_test h (hop_count road) e))
      ∙ reach_from_zero (hop road h).right_max)
      (λ (e : is_number h (hop_count road) ≡ false).
      reach_none (Right h t) (no_stage_column t (2 * section_count road) (hop_count road) h e)
      ∙ sym (ap (λ x. unsigned_abs x.right_max) (hop-none h e)))
      (bool_cases (is_number h (hop_count road)))

  pub reach-Left : (h t : ℕ) → IsNumber t road.stages → reach_in (Left h t) ≡ unsigned_abs (hop road h).left_max
  unfolding column_number
  reach-Left h t n =
      ⊎_elim
      (λ (e : is_number h (hop_count road) ≡ true).
      reach_there (Left h t) _ (stage_number road t (2 * section_count road + hop_count road) (hop_count road) h n (number_of_test h (hop_count road) e))
      ∙ reach_from_zero (hop road h).left_max)
      (λ (e : is_number h (hop_count road) ≡ false).
      reach_none (Left h t) (no_stage_column t (2 * section_count road + hop_count road) (hop_count road) h e)
      ∙ sym (ap (λ x. unsigned_abs x.left_max) (hop-none h e)))
      (bool_cases (is_number h (hop_count road)))

  -- the range of a block's openings
  opening_at : (k : ℕ) → IsNumber k (block_count road) → numbered (0, 0) (whole_openings road) k ≡ (2, road.stages + 1)
  opening_at zero n = absurd (omega (arith, n.from_one))
  opening_at (suc k) n = get_or-map_at (λ b. whole_opening road) road.blocks k (0, 0) (block road (suc k)) (omega (arith, n.at_most))

  pub kind_reach-Opened : (k t : ℕ) → IsNumber k (block_count road) → 2 ≤ t → t ≤ road.stages → kind_reach (Opened k t) ≡ 1
  kind_reach-Opened k t n low high =
      ap (λ (opening : ℕ × ℕ). reach (opened_bounds opening t)) (opening_at k n) ∙ ap reach (opened_whole road.stages t low high)

  pub reach-Opened : (k t : ℕ) → IsNumber k (block_count road) → 2 ≤ t → t ≤ road.stages → reach_in (Opened k t) ≡ 1
  unfolding column_number
  reach-Opened k t n low high = reach_there (Opened k t) _ (block_number road k t n low high) ∙ kind_reach-Opened k t n low high

  pub reach-Opened-first : (k : ℕ) → reach_in (Opened k 1) ≡ 0
  unfolding column_number
  reach-Opened-first k = reach_none (Opened k 1) (column_at_false _ _ _ (and_false (is_number k (block_count road))))
