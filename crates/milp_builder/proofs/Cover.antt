-- The parts of a box fit the road, and each plan inside the box is inside one of them or both.
use Rattle.std.proofs.Common.{◌≡◌, ℕ, zero, suc, ◌+◌, ◌-◌, ◌≤◌, ◌<◌, List, length, get_or, set, arith, sym, subst, inl, inr, ⊎_elim, Option, Some, None, ◌∙◌, refl, Bool, true, false}
use Rattle.std.specs.Prelude.{ℤ, pos, ◌*ℤ◌, ◌<ℤ◌, ◌≤ℤ◌, IfSome, IsTrue, ◌↔◌, ◌&&◌}
use Rattle.std.proofs.lemmas.Bool.{cases_eq, cases_lt}
use Rattle.std.proofs.lemmas.List.{length-set, get_or-set_same, get_or-set_other}
use Rattle.algebra.proofs.Order.{int_le_total}
use Rattle.road_types.specs.declared.road.Road.{Road}
use Rattle.road_types.specs.declared.road.Section.{Section}
use Rattle.road_types.specs.Breakpoints.{IsBreakpoint}
use Rattle.road_types.specs.Numbered.{numbered, IsNumber}
use Rattle.road_types.specs.Ranges.{height_range, IsHeightRange}
use Rattle.road_types.specs.Road.{section, section_count, block_count}
use Rattle.plan_rules.specs.declared.plan.Plan.{Plan}
use Rattle.plan_rules.specs.Plans.{opening}
use Rattle.plan_rules.specs.Rules.{IsWithin, offset_of}
use Rattle.milp_builder.specs.declared.boxes.BoxRange.{BoxRange}
use Rattle.milp_builder.specs.declared.boxes.Split.{Split}
use Rattle.milp_builder.specs.declared.boxes.Split.TheVariants.{Removal, Height}
use Rattle.milp_builder.specs.Boxes.{opening_range, IsOpeningRange, IsBoxOf, IsAmong, IsInside}
use Rattle.milp_builder.specs.Parts.{SplitsOpenings, SplitsOffsets, IsSplitOf, with_opening_range, with_height_range, first_part, second_part, AreParts, Covers}

-- what holds of the new entry at its number, and of the old entries at all others, holds at each number
numbered_set : {A : Type 0} (P : ℕ → A → Type 0) (other : A) (xs : List A) (k : ℕ) (x : A) → IsNumber k (length xs)
    → P k x → ((j : ℕ) → IsNumber j (length xs) → P j (numbered other xs j))
    → (j : ℕ) → IsNumber j (length xs) → P j (numbered other (set xs (k - 1) x) j)
numbered_set P other xs zero x n here each j m = absurd (omega (arith, n.from_one))
numbered_set P other xs (suc k) x n here each zero m = absurd (omega (arith, m.from_one))
numbered_set P other xs (suc k) x n here each (suc j) m =
    let before : suc k - 1 ≡ k = omega arith in
    subst (λ (i : ℕ). P (suc j) (get_or (set xs i x) j other)) (sym before)
    (⊎_elim
    (λ (e : j ≡ k). subst (λ (i : ℕ). P (suc i) (get_or (set xs k x) i other)) (sym e) (subst (P (suc k)) (sym (get_or-set_same xs k x other (omega (arith, n.at_most)))) here))
    (λ (e : j ≡ k → ⊥). subst (P (suc j)) (sym (get_or-set_other xs k j x other e)) (each (suc j) m))
    (cases_eq j k))

pub number_along : (i m n : ℕ) → m ≡ n → IsNumber i m → IsNumber i n
number_along i m n e h = record { from_one = h.from_one; at_most = omega (arith, h.at_most) }

-- ---- a box with one other range

module _ (road : Road) (box : BoxRange) (fits : IsBoxOf road box) where
  block_of : (k : ℕ) → IsNumber k (length box.opens) → IsNumber k (block_count road)
  block_of k n = number_along k (length box.opens) (block_count road) fits.opens_count n

  of_block : (k : ℕ) → IsNumber k (block_count road) → IsNumber k (length box.opens)
  of_block k n = number_along k (block_count road) (length box.opens) (sym fits.opens_count) n

  section_of : (i : ℕ) → IsNumber i (length box.heights) → IsNumber i (section_count road)
  section_of i n = number_along i (length box.heights) (section_count road) fits.heights_count n

  of_section : (i : ℕ) → IsNumber i (section_count road) → IsNumber i (length box.heights)
  of_section i n = number_along i (section_count road) (length box.heights) (sym fits.heights_count) n

  other_openings : (P : ℕ → ℕ × ℕ → Type 0) (k : ℕ) (range : ℕ × ℕ) → IsNumber k (block_count road) → P k range
      → ((j : ℕ) → IsNumber j (block_count road) → P j (opening_range box j))
      → (j : ℕ) → IsNumber j (block_count road) → P j (opening_range (with_opening_range box k range) j)
  other_openings P k range n new old j m =
      numbered_set P (0, 0) box.opens k range (of_block k n) new (λ i l. old i (block_of i l)) j (of_block j m)

  other_heights : (P : ℕ → ℤ × ℤ → Type 0) (i : ℕ) (range : ℤ × ℤ) → IsNumber i (section_count road) → P i range
      → ((j : ℕ) → IsNumber j (section_count road) → P j (height_range box.heights j))
      → (j : ℕ) → IsNumber j (section_count road) → P j (height_range (with_height_range box i range).heights j)
  other_heights P i range n new old j m =
      numbered_set P (pos 0, pos 0) box.heights i range (of_section i n) new (λ h l. old h (section_of h l)) j (of_section j m)

  openings_fit : (k : ℕ) (range : ℕ × ℕ) → IsNumber k (block_count road) → IsOpeningRange road range → IsBoxOf road (with_opening_range box k range)
  openings_fit k range n new = record {
    opens_count = length-set box.opens (k - 1) range ∙ fits.opens_count;
    heights_count = fits.heights_count;
    opens = other_openings (λ (j : ℕ) (r : ℕ × ℕ). IsOpeningRange road r) k range n new fits.opens;
    heights = fits.heights;
  }

  heights_fit : (i : ℕ) (range : ℤ × ℤ) → IsNumber i (section_count road) → IsHeightRange (section road i) range → IsBoxOf road (with_height_range box i range)
  heights_fit i range n new = record {
    opens_count = fits.opens_count;
    heights_count = length-set box.heights (i - 1) range ∙ fits.heights_count;
    opens = fits.opens;
    heights = other_heights (λ (j : ℕ) (r : ℤ × ℤ). IsHeightRange (section road j) r) i range n new fits.heights;
  }

  inside_openings : (plan : Plan) (k : ℕ) (range : ℕ × ℕ) → IsNumber k (block_count road) → IsInside road plan box → IsAmong range (opening plan k)
      → IsInside road plan (with_opening_range box k range)
  inside_openings plan k range n inside new = record {
    opens = other_openings (λ (j : ℕ) (r : ℕ × ℕ). IsAmong r (opening plan j)) k range n new inside.opens;
    heights = inside.heights;
  }

  inside_heights : (plan : Plan) (i : ℕ) (range : ℤ × ℤ) → IsNumber i (section_count road) → IsInside road plan box
      → IsWithin range.0 range.1 plan.den (offset_of road plan i) → IsInside road plan (with_height_range box i range)
  inside_heights plan i range n inside new = record {
    opens = inside.opens;
    heights = other_heights (λ (j : ℕ) (r : ℤ × ℤ). IsWithin r.0 r.1 plan.den (offset_of road plan j)) i range n new inside.heights;
  }

  -- ---- the two parts

  removal_covers : (k stage : ℕ) → SplitsOpenings road box k stage → Covers road box (first_part box (Removal k stage)) (second_part box (Removal k stage))
  removal_covers k stage s =
      let was = fits.opens k s.number in
      let range = opening_range box k in
      record {
        first_fits = openings_fit k (range.0, stage) s.number (record { from_two = was.from_two; some = s.up_to; at_most = omega (arith, was.at_most, s.after) });
        second_fits = openings_fit k (stage + 1, range.1) s.number (record { from_two = omega (arith, was.from_two, s.up_to); some = omega (arith, s.after); at_most = was.at_most });
        each = λ plan inside.
            let at = inside.opens k s.number in
            ⊎_elim
            (λ (l : opening plan k < stage + 1). inl (inside_openings plan k (range.0, stage) s.number inside (record { from = at.from; to = omega arith })))
            (λ (l : stage + 1 ≤ opening plan k). inr (inside_openings plan k (stage + 1, range.1) s.number inside (record { from = l; to = at.to })))
            (cases_lt (opening plan k) (stage + 1));
      }

  height_covers : (i : ℕ) (at : ℤ) → SplitsOffsets road box i at → Covers road box (first_part box (Height i at)) (second_part box (Height i at))
  height_covers i at s =
      let was = fits.heights i s.number in
      let range = height_range box.heights i in
      record {
        first_fits = heights_fit i (range.0, at) s.number (record { low = was.low; high = s.breakpoint; ordered = s.above });
        second_fits = heights_fit i (at, range.1) s.number (record { low = s.breakpoint; high = was.high; ordered = s.below });
        each = λ plan inside.
            let within = inside.heights i s.number in
            ⊎_elim
            (λ (l : offset_of road plan i ≤ℤ (at *ℤ plan.den)). inl (inside_heights plan i (range.0, at) s.number inside (record { at_least = within.at_least; at_most = l })))
            (λ (l : (at *ℤ plan.den) ≤ℤ offset_of road plan i). inr (inside_heights plan i (at, range.1) s.number inside (record { at_least = l; at_most = within.at_most })))
            (int_le_total (offset_of road plan i) (at *ℤ plan.den));
      }

  parts_cover : (split : Split) → IsSplitOf road box split → Covers road box (first_part box split) (second_part box split)
  parts_cover (Removal k stage) s = removal_covers k stage s
  parts_cover (Height i at) s = height_covers i at s

  pub found_parts_cover : (split : Split) (found : Option (BoxRange × BoxRange)) → AreParts road box split found
      → IfSome found (λ parts. Covers road box parts.0 parts.1)
  found_parts_cover split None h = tt
  found_parts_cover split (Some parts) h =
      subst (λ (p : BoxRange × BoxRange). Covers road box p.0 p.1) (sym h.1) (parts_cover split h.0)

-- ---- the tests of a split, and its parts

pub number_from_test : (r : Bool) (i m n : ℕ) → r ≡ true → (IsTrue r ↔ IsNumber i m) → m ≡ n → IsNumber i n
number_from_test r i m n t h e = number_along i m n e (h.0 t)

pub splits_from_tests : (road : Road) (box : BoxRange) (i : ℕ) (at : ℤ) (s : Section) (breakpoint inside r : Bool) → IsNumber i (section_count road) → s ≡ section road i
    → (IsTrue breakpoint ↔ IsBreakpoint s at) → (IsTrue inside ↔ (((height_range box.heights i).0 <ℤ at) × (at <ℤ (height_range box.heights i).1))) → r ≡ (breakpoint && inside)
    → IsTrue r ↔ SplitsOffsets road box i at
splits_from_tests road box i at s true true true n e b w h = (λ _. record { number = n; breakpoint = subst (λ (x : Section). IsBreakpoint x at) e (b.0 refl); above = (w.0 refl).0; below = (w.0 refl).1 }, λ _. refl)
splits_from_tests road box i at s true true false n e b w h = cc
splits_from_tests road box i at s true false true n e b w h = cc
splits_from_tests road box i at s true false false n e b w h = (λ x. cc, λ d. w.1 (d.above, d.below))
splits_from_tests road box i at s false true true n e b w h = cc
splits_from_tests road box i at s false true false n e b w h = (λ x. cc, λ d. b.1 (subst (λ (x : Section). IsBreakpoint x at) (sym e) d.breakpoint))
splits_from_tests road box i at s false false true n e b w h = cc
splits_from_tests road box i at s false false false n e b w h = (λ x. cc, λ d. w.1 (d.above, d.below))

pub pair_is : {A : Type 0} (a b c d : A) → a ≡ c → b ≡ d → ◌≡◌ {A = A × A} (a, b) (c, d)
pair_is a b c d p q = cc
