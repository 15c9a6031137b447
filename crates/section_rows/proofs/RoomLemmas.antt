-- Room and width that are left in a store that grew by a row, and how large a slope is as the code has it.
use Rattle.std.proofs.Common.{◌≡◌, ℕ, ◌+◌, ◌^◌, ◌<◌, ◌≤◌, List, [], ◌∷◌, length, ap, ap₂, ◌∙◌, to_z, of_z, FitsSigned, arith}
use Rattle.std.specs.Prelude.{ℤ, pos, ◌-ℤ◌, ◌*ℤ◌, ◌≤ℤ◌, unsigned_abs}
use Rattle.std.specs.Int.{w64}
use Rattle.std.proofs.lemmas.Int.{ints, to_z-of_z}
use Rattle.algebra.proofs.Magnitudes.{fits_w64}
use Rattle.road_types.specs.Lines.{volume_at}
use Rattle.road_types.specs.declared.road.Section.{Section}
use Rattle.term_store.specs.HeldRows.{HeldRows}
use Rattle.term_store.specs.declared.term.Term.{Term}
use Rattle.form_rows.specs.FormRows.{Grew}
use Rattle.form_rows.proofs.GrewLemmas.{grew_count}

pub room_now : (n k room : ℕ) → n + (k + 1) ≤ room → n < room
room_now n k room h = omega arith

pub room_after : (a b : HeldRows (Term ℤ)) (row : List (Term ℤ)) (k : ℕ) → Grew a b (row ∷ []) → length a.rows + (k + 1) ≤ a.room → length b.rows + k ≤ b.room
room_after a b row k g h = omega (arith, grew_count a b (row ∷ []) g, g.room)

pub width_after : (a b : HeldRows (Term ℤ)) (more : List (List (Term ℤ))) (n : ℕ) → Grew a b more → n ≤ a.width → n ≤ b.width
width_after a b more n g h = rw g.width h

pub slope_small : (slope : ℤ) → unsigned_abs slope ≤ 2 ^ 24 → unsigned_abs (to_z w64 (of_z w64 slope)) ≤ 2 ^ 60
slope_small slope h =
    let fits : FitsSigned w64 slope = fits_w64 slope (omega (arith, h)) in
    simp to_z-of_z (omega (arith, h))

-- a number that is small, as the code has it
pub number_small : (x : ℤ) (n m : ℕ) → unsigned_abs x ≤ n → n ≤ m → m < 2 ^ 63 → unsigned_abs (to_z w64 (of_z w64 x)) ≤ m
number_small x n m h few small =
    let fits : FitsSigned w64 x = fits_w64 x (omega (arith, h, few, small)) in
    simp to_z-of_z (omega (arith, h, few))

-- the difference of a volume and of a line at an end of a range, either way, as the code has them
pub above_line : (at : Section) (slope end volume line right s e : ℤ) → unsigned_abs slope ≤ 2 ^ 24 → unsigned_abs end ≤ 40000000 → unsigned_abs volume ≤ 2 ^ 50 → unsigned_abs line ≤ 2 ^ 50
    → slope ≡ s → end ≡ e → volume ≡ volume_at at (to_z w64 (of_z w64 end)) → line ≡ to_z w64 (of_z w64 slope) *ℤ to_z w64 (of_z w64 end)
    → right ≡ to_z w64 (of_z w64 volume) -ℤ to_z w64 (of_z w64 line) → right ≡ volume_at at e -ℤ s *ℤ e
above_line at slope end volume line right s e slope_width end_width volume_width line_width is_slope is_end is_volume is_line is_right =
    let slope_fits : FitsSigned w64 slope = fits_w64 slope (omega (arith, slope_width)) in
    let end_fits : FitsSigned w64 end = fits_w64 end (omega (arith, end_width)) in
    let volume_fits : FitsSigned w64 volume = fits_w64 volume (omega (arith, volume_width)) in
    let line_fits : FitsSigned w64 line = fits_w64 line (omega (arith, line_width)) in
    let volume_there = simp to_z-of_z at is_volume ∙ ap (volume_at at) is_end in
    simp to_z-of_z at is_right ∙ ap₂ (λ (x y : ℤ). x -ℤ y) volume_there (simp to_z-of_z at is_line ∙ ap₂ (λ (x y : ℤ). x *ℤ y) is_slope is_end)

pub below_line : (at : Section) (slope end volume line right s e : ℤ) → unsigned_abs slope ≤ 2 ^ 24 → unsigned_abs end ≤ 40000000 → unsigned_abs volume ≤ 2 ^ 50 → unsigned_abs line ≤ 2 ^ 50
    → slope ≡ s → end ≡ e → volume ≡ volume_at at (to_z w64 (of_z w64 end)) → line ≡ to_z w64 (of_z w64 slope) *ℤ to_z w64 (of_z w64 end)
    → right ≡ to_z w64 (of_z w64 line) -ℤ to_z w64 (of_z w64 volume) → right ≡ s *ℤ e -ℤ volume_at at e
below_line at slope end volume line right s e slope_width end_width volume_width line_width is_slope is_end is_volume is_line is_right =
    let slope_fits : FitsSigned w64 slope = fits_w64 slope (omega (arith, slope_width)) in
    let end_fits : FitsSigned w64 end = fits_w64 end (omega (arith, end_width)) in
    let volume_fits : FitsSigned w64 volume = fits_w64 volume (omega (arith, volume_width)) in
    let line_fits : FitsSigned w64 line = fits_w64 line (omega (arith, line_width)) in
    let volume_there = simp to_z-of_z at is_volume ∙ ap (volume_at at) is_end in
    simp to_z-of_z at is_right ∙ ap₂ (λ (x y : ℤ). x -ℤ y) (simp to_z-of_z at is_line ∙ ap₂ (λ (x y : ℤ). x *ℤ y) is_slope is_end) volume_there

pub area_small : (area : ℤ) → pos 0 ≤ℤ area → area ≤ℤ pos 10000000 → unsigned_abs area ≤ 2 ^ 24
area_small area p q = omega (arith, ints)
