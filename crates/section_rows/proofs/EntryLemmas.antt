-- The entries of the height at a station, as the code makes them.
use Rattle.std.proofs.Common.{◌≡◌, ℕ, List, [], ◌∷◌, ◌++◌, ap, ap₂, ◌∙◌, subst}
use Rattle.std.specs.Prelude.{ℤ, pos, neg_ℤ, ◌-ℤ◌, ◌*ℤ◌}
use Rattle.road_types.specs.Forms.{negated}
use Rattle.road_types.specs.Heights.{segment_at, segment_start, steps_along}
use Rattle.road_types.specs.RoadPrograms.{terms_of}
use Rattle.road_types.specs.SectionForms.{station_entries}
use Rattle.road_types.specs.declared.road.Road.{Road}
use Rattle.road_types.specs.declared.column.Column.{Column}
use Rattle.road_types.specs.declared.column.Column.TheVariants.{A, B, C}
use Rattle.term_store.specs.HeldRows.{HeldRows}
use Rattle.term_store.specs.declared.term.Term.{Term}
use Rattle.form_rows.specs.FormRows.{Grew}

-- a row that was cleared, made of entries and put
pub row_put : (road : Road) (a b : HeldRows (Term ℤ)) (none all : List (Term ℤ)) (made due : List (Column × ℤ)) → none ≡ [] → all ≡ none ++ terms_of road made → made ≡ due
    → Grew a b (all ∷ []) → Grew a b (terms_of road due ∷ [])
row_put road a b none all made due e p q g =
    subst (λ terms. Grew a b (terms ∷ [])) (p ∙ ap (λ terms. terms ++ terms_of road made) e ∙ ap (terms_of road) q) g

module _ (road : Road) (g : ℕ) (station at s : ℤ) (is_at : station ≡ at) (is_segment : g ≡ segment_at road.knots station) (is_steps : s ≡ station -ℤ segment_start road.knots g) where
  segment_there : g ≡ segment_at road.knots at
  segment_there = is_segment ∙ ap (segment_at road.knots) is_at

  steps_there : s ≡ steps_along road.knots at
  steps_there = is_steps ∙ ap₂ (λ (x : ℤ) (k : ℕ). x -ℤ segment_start road.knots k) is_at segment_there

  pub height_made : (square : ℤ) → square ≡ s *ℤ s → (A g, pos 1) ∷ (B g, s) ∷ (C g, square) ∷ [] ≡ station_entries road at
  height_made square is_square =
      ap (λ (q : ℤ). (A g, pos 1) ∷ (B g, s) ∷ (C g, q) ∷ []) is_square
      ∙ ap₂ (λ (k : ℕ) (x : ℤ). (A k, pos 1) ∷ (B k, x) ∷ (C k, x *ℤ x) ∷ []) segment_there steps_there

  pub opposite_made : (square first second : ℤ) → square ≡ s *ℤ s → first ≡ neg_ℤ s → second ≡ neg_ℤ square
      → (A g, neg_ℤ (pos 1)) ∷ (B g, first) ∷ (C g, second) ∷ [] ≡ negated (station_entries road at)
  opposite_made square first second is_square is_first is_second =
      ap₂ (λ (x y : ℤ). (A g, neg_ℤ (pos 1)) ∷ (B g, x) ∷ (C g, y) ∷ []) is_first (is_second ∙ ap neg_ℤ is_square)
      ∙ ap₂ (λ (k : ℕ) (x : ℤ). (A k, neg_ℤ (pos 1)) ∷ (B k, neg_ℤ x) ∷ (C k, neg_ℤ (x *ℤ x)) ∷ []) segment_there steps_there
