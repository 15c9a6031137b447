-- The slabs in a range of offsets: split at an offset inside, some in each range between two breakpoints, and no more than all.
use Rattle.std.proofs.Common.{◌≡◌, ℕ, zero, suc, ◌+◌, ◌≤◌, List, [], ◌∷◌, ◌++◌, length, length-append, Bool, true, false, cond, arith, ap, sym, subst, refl, ⊎_elim}
use Rattle.std.specs.Prelude.{ℤ, pos, neg_ℤ, ◌+ℤ◌, ◌≤ℤ◌, ◌<ℤ◌, int_le, ◌&&◌}
use Rattle.std.proofs.lemmas.Int.{ints}
use Rattle.algebra.proofs.Order.{int_lt_or_le}
use Rattle.road_types.specs.declared.road.Slab.{Slab}
use Rattle.road_types.specs.declared.road.Section.{Section}
use Rattle.road_types.specs.Volumes.{thickness_of}
use Rattle.road_types.specs.Breakpoints.{leading_thickness}
use Rattle.road_types.specs.Ranges.{IsHeightRange}
use Rattle.road_types.specs.Lines.{areas_between}
use Rattle.road_types.proofs.Acceptance.{both_true, true_both}
use Rattle.volume_lines.specs.SlabTables.{HasSlabTables}
use Rattle.volume_lines.proofs.SlabRises.{AreThick}
use Rattle.volume_lines.proofs.Slopes.{leading_from_zero}
use Rattle.volume_lines.proofs.LinesLaws.{thick_table}
use Rattle.branch_bound.specs.Leaves.{slab_count}
use Rattle.branch_bound.specs.inside.Choices.{slab_choices_in}

le_from_test : (a b : ℤ) → int_le a b ≡ true → a ≤ℤ b
le_from_test a b e = grind (arith, ints)

test_from_le : (a b : ℤ) → a ≤ℤ b → int_le a b ≡ true
test_from_le a b e = grind (arith, ints)

-- 1 where a test holds, and else 0
abbrev counted : Bool → ℕ
counted b = cond b 1 0

length_tested : (b : Bool) (area : ℤ) (rest : List ℤ) → length (cond b (area ∷ []) [] ++ rest) ≡ counted b + length rest
length_tested true area rest = omega arith
length_tested false area rest = omega arith

counted_twice : (p q r : Bool) → (p ≡ true → r ≡ true) → (q ≡ true → r ≡ true) → (p ≡ true → q ≡ true → ⊥) → counted p + counted q ≤ counted r
counted_twice true true r h k l = absurd (l refl refl)
counted_twice true false r h k l = subst (λ (b : Bool). 1 ≤ counted b) (sym (h refl)) (omega arith)
counted_twice false true r h k l = subst (λ (b : Bool). 1 ≤ counted b) (sym (k refl)) (omega arith)
counted_twice false false r h k l = omega arith

-- whether a slab from top to bottom lies between two depths
abbrev lies : ℤ → ℤ → ℤ → ℤ → Bool
lies low high top bottom = int_le low top && int_le bottom high

record Lies (low high top bottom : ℤ) : Type 0 where
  from : low ≤ℤ top
  to : bottom ≤ℤ high

lies_is : (low high top bottom : ℤ) → lies low high top bottom ≡ true → Lies low high top bottom
lies_is low high top bottom h =
    let both = both_true (int_le low top) (int_le bottom high) h in
    record { from = le_from_test low top both.0; to = le_from_test bottom high both.1 }

is_lies : (low high top bottom : ℤ) → Lies low high top bottom → lies low high top bottom ≡ true
is_lies low high top bottom h = true_both (int_le low top) (int_le bottom high) (test_from_le low top h.from) (test_from_le bottom high h.to)

one_slab : (low at high top bottom : ℤ) → low ≤ℤ at → at ≤ℤ high → top <ℤ bottom
    → counted (lies low at top bottom) + counted (lies at high top bottom) ≤ counted (lies low high top bottom)
one_slab low at high top bottom a b t =
    counted_twice (lies low at top bottom) (lies at high top bottom) (lies low high top bottom)
    (λ h. let l = lies_is low at top bottom h in is_lies low high top bottom (record { from = l.from; to = omega (arith, ints, l.to) }))
    (λ h. let l = lies_is at high top bottom h in is_lies low high top bottom (record { from = omega (arith, ints, l.from); to = l.to }))
    (λ h k. let l = lies_is low at top bottom h in let m = lies_is at high top bottom k in omega (arith, ints, l.to, m.from))

slabs_split : (slabs : List Slab) (top low at high : ℤ) → AreThick slabs → low ≤ℤ at → at ≤ℤ high
    → length (areas_between slabs top low at) + length (areas_between slabs top at high) ≤ length (areas_between slabs top low high)
unfolding areas_between
slabs_split [] top low at high t a b = omega arith
slabs_split (slab ∷ slabs) top low at high t a b =
    let bottom = top +ℤ slab.thick in
    let more = slabs_split slabs bottom low at high t.1 a b in
    let here = one_slab low at high top bottom a b (omega (arith, ints, t.0)) in
    omega (
      arith,
      more,
      here,
      length_tested (lies low at top bottom) slab.area (areas_between slabs bottom low at),
      length_tested (lies at high top bottom) slab.area (areas_between slabs bottom at high),
      length_tested (lies low high top bottom) slab.area (areas_between slabs bottom low high),
    )

counted_at_most : (b : Bool) → counted b ≤ 1
counted_at_most true = omega arith
counted_at_most false = omega arith

slabs_at_most : (slabs : List Slab) (top low high : ℤ) → length (areas_between slabs top low high) ≤ length slabs
unfolding areas_between
slabs_at_most [] top low high = omega arith
slabs_at_most (slab ∷ slabs) top low high =
    let bottom = top +ℤ slab.thick in
    let more = slabs_at_most slabs bottom low high in
    let one : counted (lies low high top bottom) ≤ 1 = counted_at_most (lies low high top bottom) in
    omega (arith, more, one, length_tested (lies low high top bottom) slab.area (areas_between slabs bottom low high))

-- between two depths of the table's own, the second greater, lies some slab
some_slab : (slabs : List Slab) (top low high : ℤ) (k m : ℕ) → AreThick slabs → low ≤ℤ (top +ℤ leading_thickness slabs k)
    → (top +ℤ leading_thickness slabs m) ≤ℤ high → leading_thickness slabs k <ℤ leading_thickness slabs m
    → 1 ≤ length (areas_between slabs top low high)
unfolding areas_between thickness_of
some_slab [] top low high zero zero t a b l = absurd (omega (arith, ints))
some_slab [] top low high zero (suc m) t a b l = absurd (omega (arith, ints))
some_slab [] top low high (suc k) zero t a b l = absurd (omega (arith, ints))
some_slab [] top low high (suc k) (suc m) t a b l = absurd (omega (arith, ints))
some_slab (slab ∷ slabs) top low high zero zero t a b l = absurd (omega (arith, ints))
some_slab (slab ∷ slabs) top low high zero (suc m) t a b l =
    let bottom = top +ℤ slab.thick in
    let rest = leading_from_zero slabs m t.1 in
    let here = is_lies low high top bottom (record { from = omega (arith, ints); to = omega (arith, ints, rest) }) in
    let first : counted (lies low high top bottom) ≡ 1 = ap counted here in
    omega (arith, first, length_tested (lies low high top bottom) slab.area (areas_between slabs bottom low high))
some_slab (slab ∷ slabs) top low high (suc k) zero t a b l =
    absurd (omega (arith, ints, leading_from_zero slabs k t.1, t.0))
some_slab (slab ∷ slabs) top low high (suc k) (suc m) t a b l =
    let bottom = top +ℤ slab.thick in
    let more = some_slab slabs bottom low high k m t.1 (omega (arith, ints)) (omega (arith, ints)) (omega (arith, ints)) in
    omega (arith, more, length_tested (lies low high top bottom) slab.area (areas_between slabs bottom low high))

module _ (s : Section) (tables : HasSlabTables s) where
  thick_cut : AreThick s.cut
  thick_cut = thick_table s.cut tables.cut

  thick_fill : AreThick s.fill
  thick_fill = thick_table s.fill tables.fill

  -- a range split at an offset inside
  pub slabs_of_parts : (low at high : ℤ) → low ≤ℤ at → at ≤ℤ high
      → slab_choices_in s (low, at) + slab_choices_in s (at, high) ≤ slab_choices_in s (low, high)
  slabs_of_parts low at high a b =
      let below = slabs_split s.cut (pos 0) (neg_ℤ high) (neg_ℤ at) (neg_ℤ low) thick_cut (omega (arith, ints)) (omega (arith, ints)) in
      let above = slabs_split s.fill (pos 0) low at high thick_fill a b in
      omega (
        arith,
        below,
        above,
        length-append (areas_between s.cut (pos 0) (neg_ℤ at) (neg_ℤ low)) (areas_between s.fill (pos 0) low at),
        length-append (areas_between s.cut (pos 0) (neg_ℤ high) (neg_ℤ at)) (areas_between s.fill (pos 0) at high),
        length-append (areas_between s.cut (pos 0) (neg_ℤ high) (neg_ℤ low)) (areas_between s.fill (pos 0) low high),
      )

  pub slabs_of_all : (range : ℤ × ℤ) → slab_choices_in s range ≤ slab_count s
  slabs_of_all range =
      omega (
        arith,
        slabs_at_most s.cut (pos 0) (neg_ℤ range.1) (neg_ℤ range.0),
        slabs_at_most s.fill (pos 0) range.0 range.1,
        length-append (areas_between s.cut (pos 0) (neg_ℤ range.1) (neg_ℤ range.0)) (areas_between s.fill (pos 0) range.0 range.1),
      )

  cut_some : (range : ℤ × ℤ) → 1 ≤ length (areas_between s.cut (pos 0) (neg_ℤ range.1) (neg_ℤ range.0)) → 1 ≤ slab_choices_in s range
  cut_some range h = omega (arith, length-append (areas_between s.cut (pos 0) (neg_ℤ range.1) (neg_ℤ range.0)) (areas_between s.fill (pos 0) range.0 range.1))

  fill_some : (range : ℤ × ℤ) → 1 ≤ length (areas_between s.fill (pos 0) range.0 range.1) → 1 ≤ slab_choices_in s range
  fill_some range h = omega (arith, length-append (areas_between s.cut (pos 0) (neg_ℤ range.1) (neg_ℤ range.0)) (areas_between s.fill (pos 0) range.0 range.1))

  no_leading : (slabs : List Slab) → leading_thickness slabs 0 ≡ pos 0
  unfolding thickness_of
  no_leading slabs = refl

  -- a range between two breakpoints has some slab
  pub some_slabs : (range : ℤ × ℤ) → IsHeightRange s range → 1 ≤ slab_choices_in s range
  some_slabs range h =
      let k = h.low.0 in
      let m = h.high.0 in
      let less = h.ordered in
      ⊎_elim
      (λ (e : range.0 ≡ leading_thickness s.fill k).
      ⊎_elim
      (λ (f : range.1 ≡ leading_thickness s.fill m).
      fill_some range (some_slab s.fill (pos 0) range.0 range.1 k m thick_fill (omega (arith, ints, e)) (omega (arith, ints, f)) (omega (arith, ints, e, f, less))))
      (λ (f : range.1 ≡ neg_ℤ (leading_thickness s.cut m)).
      absurd (omega (arith, ints, e, f, less, leading_from_zero s.fill k thick_fill, leading_from_zero s.cut m thick_cut)))
      h.high.1)
      (λ (e : range.0 ≡ neg_ℤ (leading_thickness s.cut k)).
      ⊎_elim
      (λ (f : range.1 ≡ leading_thickness s.fill m).
      ⊎_elim
      (λ (z : pos 0 <ℤ leading_thickness s.cut k).
      cut_some range (some_slab s.cut (pos 0) (neg_ℤ range.1) (neg_ℤ range.0) 0 k thick_cut
      (omega (arith, ints, f, no_leading s.cut, leading_from_zero s.fill m thick_fill)) (omega (arith, ints, e)) (omega (arith, ints, z, no_leading s.cut))))
      (λ (z : leading_thickness s.cut k ≤ℤ pos 0).
      fill_some range (some_slab s.fill (pos 0) range.0 range.1 0 m thick_fill
      (omega (arith, ints, e, z, no_leading s.fill, leading_from_zero s.cut k thick_cut)) (omega (arith, ints, f)) (omega (arith, ints, e, f, z, less, no_leading s.fill, leading_from_zero s.cut k thick_cut))))
      (int_lt_or_le (pos 0) (leading_thickness s.cut k)))
      (λ (f : range.1 ≡ neg_ℤ (leading_thickness s.cut m)).
      cut_some range (some_slab s.cut (pos 0) (neg_ℤ range.1) (neg_ℤ range.0) m k thick_cut (omega (arith, ints, f)) (omega (arith, ints, e)) (omega (arith, ints, e, f, less))))
      h.high.1)
      h.low.1
