-- How many forms each group has, and with them how many rows a road has.
use Rattle.std.proofs.Common.{◌≡◌, ℕ, ◌+◌, ◌-◌, ◌*◌, [], ◌∷◌, ◌++◌, length, arith, refl}
use Rattle.std.proofs.lemmas.List.{length-append}
use Rattle.algebra.specs.Lists.{list_to, flat_to}
use Rattle.algebra.proofs.ListsLemmas.{length-list_to, length-flat_to}
use Rattle.road_types.specs.Heights.{segment_length}
use Rattle.road_types.specs.Road.{section_count, segment_count, fixed_count, pit_count, block_count, fixed_point}
use Rattle.road_types.specs.Forms.{between_forms}
use Rattle.road_types.specs.Lines.{Lines}
use Rattle.road_types.specs.SectionForms.{grade_entries, station_entries, offset_form, offset_forms, next_height_form, next_grade_form, continuity_forms, grade_end_forms, fixed_forms, lines_forms, volume_forms, section_forms}
use Rattle.road_types.specs.HaulForms.{balance_form, balance_forms, pit_form, pit_forms, transit_form, transit_forms, cut_stop_form, fill_stop_form, stop_forms, order_form, order_forms, haul_forms}
use Rattle.road_types.specs.RoadPrograms.{forms_of, section_row_count, haul_row_count, row_count}
use Rattle.road_types.specs.declared.road.Road.{Road}

module _ (road : Road) where
  pub length-offset_forms : length (offset_forms road) ≡ section_count road
  length-offset_forms = length-list_to (offset_form road) (section_count road)

  pub length-continuity_forms : length (continuity_forms road) ≡ (segment_count road - 1) * 2
  length-continuity_forms =
      length-flat_to (λ g. next_height_form road g ∷ next_grade_form road g ∷ []) (segment_count road - 1) 2 (λ k low high. refl)

  pub length-grade_end_forms : length (grade_end_forms road) ≡ segment_count road * 2
  length-grade_end_forms =
      length-flat_to (λ g. between_forms (grade_entries g (segment_length road.knots g)) road.grade.0 road.grade.1) (segment_count road) 2 (λ k low high. refl)

  pub length-fixed_forms : length (fixed_forms road) ≡ fixed_count road * 2
  length-fixed_forms =
      length-flat_to (λ f. between_forms (station_entries road (fixed_point road f).station) (fixed_point road f).low (fixed_point road f).high)
      (fixed_count road) 2 (λ k low high. refl)

  pub length-volume_forms : (lines : ℕ → Lines) → length (volume_forms road lines) ≡ section_count road * 4
  length-volume_forms lines = length-flat_to (λ i. lines_forms road i (lines i)) (section_count road) 4 (λ k low high. refl)

  pub length-section_forms : (lines : ℕ → Lines) → length (section_forms road lines) ≡ section_row_count road
  length-section_forms lines =
      omega (
        arith,
        length-append (offset_forms road) (continuity_forms road ++ (grade_end_forms road ++ (fixed_forms road ++ volume_forms road lines))),
        length-append (continuity_forms road) (grade_end_forms road ++ (fixed_forms road ++ volume_forms road lines)),
        length-append (grade_end_forms road) (fixed_forms road ++ volume_forms road lines),
        length-append (fixed_forms road) (volume_forms road lines),
        length-offset_forms,
        length-continuity_forms,
        length-grade_end_forms,
        length-fixed_forms,
        length-volume_forms lines,
      )

  pub length-balance_forms : length (balance_forms road) ≡ road.stages * section_count road
  length-balance_forms =
      length-flat_to (λ t. list_to (balance_form road t) (section_count road)) road.stages (section_count road)
      (λ k low high. length-list_to (balance_form road k) (section_count road))

  pub length-pit_forms : length (pit_forms road) ≡ pit_count road
  length-pit_forms = length-list_to (pit_form road) (pit_count road)

  pub length-transit_forms : length (transit_forms road) ≡ block_count road * road.stages
  length-transit_forms =
      length-flat_to (λ k. list_to (transit_form road k) road.stages) (block_count road) road.stages
      (λ k low high. length-list_to (transit_form road k) road.stages)

  length-stops : (k : ℕ) → length (flat_to (λ before. cut_stop_form road k (before + 1) ∷ fill_stop_form road k (before + 1) ∷ []) (road.stages - 1)) ≡ 2 * (road.stages - 1)
  length-stops k =
      omega (arith, length-flat_to (λ before. cut_stop_form road k (before + 1) ∷ fill_stop_form road k (before + 1) ∷ []) (road.stages - 1) 2 (λ j low high. refl))

  pub length-stop_forms : length (stop_forms road) ≡ block_count road * (2 * (road.stages - 1))
  length-stop_forms =
      length-flat_to (λ k. flat_to (λ before. cut_stop_form road k (before + 1) ∷ fill_stop_form road k (before + 1) ∷ []) (road.stages - 1))
      (block_count road) (2 * (road.stages - 1)) (λ k low high. length-stops k)

  pub length-order_forms : length (order_forms road) ≡ block_count road * (road.stages - 2)
  length-order_forms =
      length-flat_to (λ k. list_to (λ before. order_form road k (before + 1)) (road.stages - 2)) (block_count road) (road.stages - 2)
      (λ k low high. length-list_to (λ before. order_form road k (before + 1)) (road.stages - 2))

  pub length-haul_forms : length (haul_forms road) ≡ haul_row_count road
  length-haul_forms =
      omega (
        arith,
        length-append (balance_forms road) (pit_forms road ++ (transit_forms road ++ (stop_forms road ++ order_forms road))),
        length-append (pit_forms road) (transit_forms road ++ (stop_forms road ++ order_forms road)),
        length-append (transit_forms road) (stop_forms road ++ order_forms road),
        length-append (stop_forms road) (order_forms road),
        length-balance_forms,
        length-pit_forms,
        length-transit_forms,
        length-stop_forms,
        length-order_forms,
      )

  pub length-forms_of : (lines : ℕ → Lines) → length (forms_of road lines) ≡ row_count road
  length-forms_of lines =
      omega (arith, length-append (section_forms road lines) (haul_forms road), length-section_forms lines, length-haul_forms)
