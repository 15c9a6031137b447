-- Changes of a single multiplier, and what sweeps over the rows come to.
use Rattle.std.proofs.Common.{◌≡◌, ℕ, zero, suc, ◌+◌, ◌-◌, ◌<◌, ◌≤◌, Bool, true, false, ◌||◌, List, [], ◌∷◌, length, get_or, set, arith, refl, sym, ap, subst, ◌∙◌, inl, inr, ⊎_elim}
use Rattle.std.specs.Prelude.{ℤ, pos, negsuc, ◌^◌, ◌↔◌, IsTrue, ◌+ℤ◌, ◌≤ℤ◌, ◌<ℤ◌, unsigned_abs}
use Rattle.std.proofs.lemmas.Bool.{cases_eq, false≢true}
use Rattle.std.proofs.lemmas.Int.{ints}
use Rattle.std.proofs.lemmas.List.{length-set}
use Rattle.std.proofs.lemmas.List.Elements.{All-set}
use Rattle.term_store.specs.declared.side.Side.TheVariants.{AtLeast}
use Rattle.algebra.specs.Numbered.{numbered, IsNumber}
use Rattle.algebra.proofs.NumberedLemmas.{numbered_at, numbered_in, same_by_number}
use Rattle.algebra.proofs.Order.{int_le_refl}
use Rattle.programs.specs.Programs.{Program, row_at, row_count}
use Rattle.safe_bounds.specs.Values.{IsMultiplier, multiplier_at, value_of}
use Rattle.safe_bounds.proofs.DrawnLemmas.{set_here, set_elsewhere}
use Rattle.bound_tools.specs.Ascents.{AreAllowed, IsUnit, IsBestAt, IsBestByOnes, RoseOrIsBest, changed}
use Rattle.bound_tools.specs.inside.Climbs.{CanStand, HasRisen, DoesNotRaise, IsTried, IsRaised, IsSwept, HasRisenBy, IsClimbing}

-- ---- one multiplier changed

-- a place of an allowed list
pub row_place : (program : Program) (mults : List ℤ) (i : ℕ) → AreAllowed program mults → IsNumber i (row_count program) → i - 1 < length mults
row_place program mults i h n = let size = h.within.each_row in omega (arith, n.from_one, n.at_most)

row_number : (program : Program) (mults : List ℤ) (i : ℕ) → length mults ≡ row_count program → IsNumber i (row_count program) → IsNumber i (length mults)
row_number program mults i size n = record { from_one = n.from_one; at_most = omega (arith, n.at_most) }

-- a number that can stand at row i makes allowed multipliers
pub allowed_with : (program : Program) (mults : List ℤ) (i : ℕ) (y : ℤ) → IsNumber i (row_count program) → AreAllowed program mults → CanStand program i y → AreAllowed program (set mults (i - 1) y)
allowed_with program mults i y n h c =
    let here = set_here mults i y (row_number program mults i h.within.each_row n) in
    record {
      within = record {
        each_row = length-set mults (i - 1) y ∙ h.within.each_row;
        within = All-set IsMultiplier mults (i - 1) y c.within h.within.within;
      };
      signs = record {
        each = λ j m side.
            ⊎_elim
            (λ (e : j ≡ i). subst (λ k. pos 0 ≤ℤ multiplier_at (set mults (i - 1) y) k) (sym e) (subst (λ z. pos 0 ≤ℤ z) (sym here) (c.sign (ap (λ k. (row_at program k).side) (sym e) ∙ side))))
            (λ (d : j ≡ i → ⊥). subst (λ z. pos 0 ≤ℤ z) (sym (set_elsewhere mults j i y n.from_one d)) (h.signs.each j m side))
            (cases_eq j i);
      };
    }

-- and the other way round
can_stand_of : (program : Program) (mults : List ℤ) (i : ℕ) (y : ℤ) → length mults ≡ row_count program → IsNumber i (row_count program) → AreAllowed program (set mults (i - 1) y) → CanStand program i y
can_stand_of program mults i y size n h =
    let new = set mults (i - 1) y in
    let here = set_here mults i y (row_number program mults i size n) in
    let at = row_number program new i h.within.each_row n in
    record {
      within = subst IsMultiplier here (numbered_in IsMultiplier (pos 0) new h.within.within i at);
      sign = λ side. subst (λ z. pos 0 ≤ℤ z) here (h.signs.each i n side);
    }

-- the multiplier of row i, as the code finds it
at_row : (mults : List ℤ) (i : ℕ) (by y : ℤ) → 1 ≤ i → y ≡ get_or mults (i - 1) (pos 0) +ℤ by → y ≡ multiplier_at mults i +ℤ by
at_row mults i by y l e = e ∙ ap (λ z. z +ℤ by) (sym (numbered_at (pos 0) mults i l))

-- set back
pub set_back : (mults : List ℤ) (k : ℕ) (y z : ℤ) → z ≡ get_or mults k (pos 0) → k < length mults → set (set mults k y) k z ≡ mults
set_back [] k y z e l = absurd (omega arith)
set_back (x ∷ xs) zero y z e l = ap (λ w. w ∷ xs) e
set_back (x ∷ xs) (suc k) y z e l = ap (λ ys. x ∷ ys) (set_back xs k y z e (omega arith))

-- what can't stand isn't allowed
pub not_allowed : (program : Program) (scale : ℤ) (mults : List ℤ) (i : ℕ) (by y : ℤ) → IsNumber i (row_count program) → AreAllowed program mults → y ≡ get_or mults (i - 1) (pos 0) +ℤ by → (CanStand program i y → ⊥)
    → IsTried program scale i by false mults mults
not_allowed program scale mults i by y n h e none =
    let same = at_row mults i by y n.from_one e in
    (refl, λ allowed. absurd (none (can_stand_of program mults i y h.within.each_row n (subst (λ z. AreAllowed program (set mults (i - 1) z)) (sym same) allowed))))

pub not_above : (program : Program) (scale : ℤ) (mults : List ℤ) (i : ℕ) (by y value risen : ℤ) → IsNumber i (row_count program) → y ≡ get_or mults (i - 1) (pos 0) +ℤ by
    → value ≡ value_of program scale mults → risen ≡ value_of program scale (set mults (i - 1) y) → risen ≤ℤ value
    → DoesNotRaise program scale mults i by
not_above program scale mults i by y value risen n e v r l allowed =
    let same = at_row mults i by y n.from_one e in
    let below = subst (λ w. w ≤ℤ value_of program scale mults) r (subst (λ w. risen ≤ℤ w) v l) in
    subst (λ z. value_of program scale (set mults (i - 1) z) ≤ℤ value_of program scale mults) same below

pub above : (program : Program) (scale : ℤ) (mults new : List ℤ) (value risen : ℤ) → AreAllowed program new → value ≡ value_of program scale mults → risen ≡ value_of program scale new → value <ℤ risen
    → HasRisen program scale mults new
above program scale mults new value risen h v r l = record { allowed = h; above = subst (λ w. value_of program scale mults <ℤ w) r (subst (λ w. w <ℤ risen) v l) }

-- ---- a row

-- of allowed multipliers, whether they were changed or not
pub allowed_tried : (program : Program) (scale : ℤ) (i : ℕ) (by : ℤ) (made : Bool) (old new : List ℤ) → AreAllowed program old → IsTried program scale i by made old new → AreAllowed program new
allowed_tried program scale i by true old new h t = t.allowed
allowed_tried program scale i by false old new h t = subst (AreAllowed program) (sym t.0) h

pub not_fallen : (program : Program) (scale : ℤ) (i : ℕ) (by : ℤ) (made : Bool) (first old new : List ℤ) → value_of program scale first ≤ℤ value_of program scale old → IsTried program scale i by made old new
    → value_of program scale first ≤ℤ value_of program scale new
not_fallen program scale i by true first old new l t = let a = t.above in omega (arith, ints)
not_fallen program scale i by false first old new l t = subst (λ ys. value_of program scale first ≤ℤ value_of program scale ys) (sym t.0) l

pub risen_on : (program : Program) (scale : ℤ) (i : ℕ) (by : ℤ) (old new last : List ℤ) → IsTried program scale i by true old new → AreAllowed program last → value_of program scale new ≤ℤ value_of program scale last
    → IsTried program scale i by true old last
risen_on program scale i by old new last t h l = record { allowed = h; above = let a = t.above in omega (arith, ints) }

pub unit_narrow : (by : ℤ) → IsUnit by → unsigned_abs by ≤ 2 ^ 41
unit_narrow by unit = ⊎_elim (λ (e : by ≡ pos 1). rw e (omega arith)) (λ (e : by ≡ negsuc 0). rw e (omega arith)) unit

pub climb_start : (program : Program) (scale : ℤ) (old : List ℤ) (value by : ℤ) → AreAllowed program old → value ≡ value_of program scale old → IsUnit by → IsClimbing program scale old old value by
climb_start program scale old value by h v unit = record { allowed = h; never_falls = int_le_refl (value_of program scale old); value_is = v; narrow = unit_narrow by unit }

pub climb_more : (program : Program) (scale : ℤ) (i : ℕ) (made : Bool) (old now new : List ℤ) (value change risen by : ℤ) → IsClimbing program scale old now value change → unsigned_abs by ≤ 2 ^ 41
    → IsTried program scale i by made now new → risen ≡ value_of program scale new → IsClimbing program scale old new risen by
climb_more program scale i made old now new value change risen by h b t v = record {
  allowed = allowed_tried program scale i by made now new h.allowed t;
  never_falls = not_fallen program scale i by made old now new h.never_falls t;
  value_is = v;
  narrow = b;
}

-- a test that is told true, and one that is told false
pub told_true : {P : Type 0} (b : Bool) → b ≡ true → (IsTrue b ↔ P) → P
told_true b e h = h.0 e

pub told_false : {P : Type 0} (b : Bool) → b ≡ false → (IsTrue b ↔ P) → P → ⊥
told_false b e h p = false≢true (sym e ∙ h.1 p)

-- neither 1 nor -1 raises
pub best_at : (program : Program) (scale : ℤ) (i : ℕ) (old new last : List ℤ) → IsTried program scale i (pos 1) false old new → IsTried program scale i (negsuc 0) false new last
    → IsRaised program scale i false old last
best_at program scale i old new last up down =
    let same = down.0 ∙ up.0 in (
      same,
      λ by unit allowed.
          ⊎_elim
          (λ (e : by ≡ pos 1). subst (λ b. DoesNotRaise program scale old i b) (sym e) up.1 allowed)
          (λ (e : by ≡ negsuc 0). subst (λ b. DoesNotRaise program scale old i b) (sym e) (subst (λ ys. DoesNotRaise program scale ys i (negsuc 0)) up.0 down.1) allowed)
          unit,
    )

pub raised_down : (program : Program) (scale : ℤ) (i : ℕ) (made : Bool) (old new last : List ℤ) → IsTried program scale i (pos 1) false old new → IsTried program scale i (negsuc 0) made new last
    → IsRaised program scale i made old last
raised_down program scale i true old new last up down = subst (λ ys. HasRisen program scale ys last) up.0 down
raised_down program scale i false old new last up down = best_at program scale i old new last up down

-- ---- a sweep

pub allowed_raised : (program : Program) (scale : ℤ) (i : ℕ) (made : Bool) (old new : List ℤ) → AreAllowed program old → IsRaised program scale i made old new → AreAllowed program new
allowed_raised program scale i true old new h t = t.allowed
allowed_raised program scale i false old new h t = subst (AreAllowed program) (sym t.0) h

pub allowed_swept : (program : Program) (scale : ℤ) (rows : ℕ) (made : Bool) (old new : List ℤ) → AreAllowed program old → IsSwept program scale rows made old new → AreAllowed program new
allowed_swept program scale rows true old new h t = t.allowed
allowed_swept program scale rows false old new h t = subst (AreAllowed program) (sym t.0) h

pub swept_none : (program : Program) (scale : ℤ) (old : List ℤ) → IsSwept program scale 0 false old old
swept_none program scale old = (refl, λ i n. absurd (omega (arith, n.from_one, n.at_most)))

-- one row more
pub swept_more : (program : Program) (scale : ℤ) (rows : ℕ) (before made : Bool) (old now new : List ℤ) → IsSwept program scale rows before old now → IsRaised program scale (rows + 1) made now new
    → IsSwept program scale (rows + 1) (made || before) old new
swept_more program scale rows true true old now new s r = record { allowed = r.allowed; above = let a = s.above in let b = r.above in omega (arith, ints) }
swept_more program scale rows true false old now new s r = record { allowed = subst (AreAllowed program) (sym r.0) s.allowed; above = subst (λ ys. value_of program scale old <ℤ value_of program scale ys) (sym r.0) s.above }
swept_more program scale rows false true old now new s r = subst (λ ys. HasRisen program scale ys new) s.0 r
swept_more program scale rows false false old now new s r = (
  r.0 ∙ s.0,
  λ i n.
      ⊎_elim
      (λ (e : i ≡ rows + 1). subst (λ k. IsBestAt program scale old k) (sym e) (subst (λ ys. IsBestAt program scale ys (rows + 1)) s.0 r.1))
      (λ (d : i ≡ rows + 1 → ⊥). s.1 i (record { from_one = n.from_one; at_most = omega (arith, n.at_most) }))
      (cases_eq i (rows + 1)),
)

-- ---- several sweeps

pub allowed_by : (program : Program) (scale : ℤ) (sweeps : ℕ) (old new : List ℤ) → AreAllowed program old → HasRisenBy program scale sweeps old new → AreAllowed program new
allowed_by program scale zero old new h r = subst (AreAllowed program) (sym r) h
allowed_by program scale (suc sweeps) old new h r = r.allowed

pub not_fallen_by : (program : Program) (scale : ℤ) (sweeps : ℕ) (old new : List ℤ) → HasRisenBy program scale sweeps old new → value_of program scale old ≤ℤ value_of program scale new
not_fallen_by program scale zero old new r = subst (λ ys. value_of program scale old ≤ℤ value_of program scale ys) (sym r) (int_le_refl (value_of program scale old))
not_fallen_by program scale (suc sweeps) old new r = let a = r.above in omega (arith, ints)

pub not_fallen_end : (program : Program) (scale : ℤ) (sweeps rows : ℕ) (old now new : List ℤ) → HasRisenBy program scale sweeps old now → IsSwept program scale rows false now new → value_of program scale old ≤ℤ value_of program scale new
not_fallen_end program scale sweeps rows old now new r s =
    subst (λ ys. value_of program scale old ≤ℤ value_of program scale ys) (sym s.0) (not_fallen_by program scale sweeps old now r)

-- one sweep more, which changed some multiplier
pub risen_more : (program : Program) (scale : ℤ) (sweeps rows : ℕ) (old now new : List ℤ) → HasRisenBy program scale sweeps old now → IsSwept program scale rows true now new → HasRisenBy program scale (sweeps + 1) old new
risen_more program scale sweeps rows old now new r s =
    let l = not_fallen_by program scale sweeps old now r in
    let next : suc sweeps ≡ sweeps + 1 = omega arith in
    subst (λ n. HasRisenBy program scale n old new) next (record { allowed = s.allowed; above = let a = s.above in omega (arith, ints) })

-- the last sweep changed nothing
pub risen_or_best : (program : Program) (scale : ℤ) (sweeps : ℕ) (old now new : List ℤ) → HasRisenBy program scale sweeps old now → IsSwept program scale (row_count program) false now new
    → RoseOrIsBest program scale old new
risen_or_best program scale zero old now new r s = inr (s.0 ∙ r, subst (IsBestByOnes program scale) r (record { each = s.1 }))
risen_or_best program scale (suc sweeps) old now new r s = inl (subst (λ ys. value_of program scale old <ℤ value_of program scale ys) (sym s.0) r.above)

-- every sweep changed some multiplier
pub risen_all : (program : Program) (scale : ℤ) (sweeps : ℕ) (old new : List ℤ) → 1 ≤ sweeps → HasRisenBy program scale sweeps old new → RoseOrIsBest program scale old new
risen_all program scale zero old new l r = absurd (omega arith)
risen_all program scale (suc sweeps) old new l r = inl r.above
