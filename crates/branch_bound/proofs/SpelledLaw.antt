-- The certificate of a search has a text: its tree stands on few levels, and its numbers are within their widths.
use Rattle.std.proofs.Common.{◌≡◌, ℕ, zero, suc, ◌+◌, ◌*◌, ◌^◌, ◌<◌, max, Option, Some, None, List, [], ◌∷◌, length, refl, sym, subst, arith, ⊎_elim}
use Rattle.std.specs.Prelude.{ℤ, pos, neg_ℤ, ◌≤ℤ◌, unsigned_abs}
use Rattle.std.proofs.lemmas.Int.{ints}
use Rattle.algebra.proofs.NumberedLemmas.{all_from_numbers}
use Rattle.numbers.specs.Fractions.{Fraction}
use Rattle.road_types.specs.Numbered.{IsNumber}
use Rattle.road_types.specs.WellFormed.{IsWellFormed, IsSlabTable}
use Rattle.road_types.specs.Volumes.{thickness_of}
use Rattle.road_types.specs.Breakpoints.{IsBreakpoint, leading_thickness}
use Rattle.road_types.specs.RoadPrograms.{row_count}
use Rattle.road_types.specs.Road.{section, section_count}
use Rattle.road_types.specs.declared.road.Road.{Road}
use Rattle.road_types.specs.declared.road.Slab.{Slab}
use Rattle.plan_rules.specs.declared.plan.Plan.{Plan}
use Rattle.plan_rules.specs.Rules.{IsAdmissible}
use Rattle.plan_text.specs.PlanText.{AreBytes}
use Rattle.road_points.proofs.PlanFacts.{facts_of_admissible}
use Rattle.milp_builder.specs.Boxes.{IsBoxOf, root_box}
use Rattle.milp_builder.specs.Parts.{IsSplitOf, first_part, second_part}
use Rattle.milp_builder.specs.declared.boxes.BoxRange.{BoxRange}
use Rattle.milp_builder.specs.declared.boxes.Split.{Split}
use Rattle.milp_builder.specs.declared.boxes.Split.TheVariants.{Removal, Height}
use Rattle.milp_builder.proofs.Cover.{found_parts_cover}
use Rattle.milp_builder.proofs.RootBox.{root_box_fits}
use Rattle.milp_builder.proofs.LeadingSlabs.{AreSolid, first_solid, rest_solid, thickness_nonneg}
use Rattle.cert_tree.specs.Trees.{BoxTree, low, dead, fork, AreMultipliersBehind, IsWithinWidths}
use Rattle.cert_tree.specs.Soundness.{IsSound, SplitsFit}
use Rattle.cert_tree.proofs.LeafLemmas.{box_rows}
use Rattle.cert_text.specs.NodeText.{IsSpelledTree, IsSpelledSplit, most_levels}
use Rattle.cert_tree.specs.Trees.{box_tree_of}
use Rattle.cert_text.specs.CertText.{IsStatedOrNone, IsPricedOrNone}
use Rattle.cert_text.specs.declared.cert.Cert.{Cert}
use Rattle.cert_text.specs.Certs.{priced_of, ArePaired, IsSpelledCert}
use Rattle.branch_bound.specs.inside.Depths.{depth}
use Rattle.branch_bound.specs.inside.Grown.{Grown}
use Rattle.branch_bound.specs.inside.Least.{IsLeastKey}
use Rattle.branch_bound.specs.inside.Searches.{best_cost, best_plan, IsBest}
use Rattle.branch_bound.specs.declared.best.Best.{Best}
use Rattle.branch_bound.proofs.DepthLaw.{few_splits}
use Rattle.branch_bound.proofs.EnoughNodes.{splits_of_sound}
use Rattle.branch_bound.proofs.PlanWidths.{admissible_fits}

-- every split of the tree has a text
abbrev AreSpelledSplits : BoxTree → Type 0
AreSpelledSplits (low scale mults cause) = Unit {0}
AreSpelledSplits (dead mults) = Unit {0}
AreSpelledSplits (fork split first second) = IsSpelledSplit split × AreSpelledSplits first × AreSpelledSplits second

less_left : (a b n : ℕ) → 1 + max a b < suc n → a < n
less_left a b n h = grind arith

less_right : (a b n : ℕ) → 1 + max a b < suc n → b < n
less_right a b n h = grind arith

spelled_tree : (rows levels : ℕ) (tree : BoxTree) → depth tree < levels → IsWithinWidths rows tree → AreSpelledSplits tree → IsSpelledTree rows levels tree
spelled_tree rows zero (low scale mults cause) d w s = absurd (omega arith)
spelled_tree rows zero (dead mults) d w s = absurd (omega arith)
spelled_tree rows zero (fork split first second) d w s = absurd (omega arith)
spelled_tree rows (suc levels) (low scale mults cause) d w s = w
spelled_tree rows (suc levels) (dead mults) d w s = w
spelled_tree rows (suc levels) (fork split first second) d w s = (
  s.0,
  spelled_tree rows levels first (less_left (depth first) (depth second) levels d) w.0 s.1,
  spelled_tree rows levels second (less_right (depth first) (depth second) levels d) w.1 s.2,
)

-- so many slabs are at most so thick
thickness_to : (slabs : List Slab) → AreSolid slabs → thickness_of slabs ≤ℤ pos (length slabs * 10000000)
unfolding thickness_of
thickness_to [] h = omega (arith, ints)
thickness_to (s ∷ rest) h =
    let first = first_solid s rest h in
    let others = thickness_to rest (rest_solid s rest h) in
    omega (arith, ints, first.thick.at_most)

leading_from : (slabs : List Slab) (k : ℕ) → AreSolid slabs → pos 0 ≤ℤ leading_thickness slabs k
unfolding thickness_of
leading_from [] zero h = omega (arith, ints)
leading_from [] (suc k) h = omega (arith, ints)
leading_from (s ∷ rest) zero h = omega (arith, ints)
leading_from (s ∷ rest) (suc k) h =
    let first = first_solid s rest h in
    let others = leading_from rest k (rest_solid s rest h) in
    omega (arith, ints, first.thick.at_least)

leading_to : (slabs : List Slab) (k : ℕ) → AreSolid slabs → leading_thickness slabs k ≤ℤ thickness_of slabs
unfolding thickness_of
leading_to [] zero h = omega (arith, ints)
leading_to [] (suc k) h = omega (arith, ints)
leading_to (s ∷ rest) zero h = let all = thickness_nonneg (s ∷ rest) h in omega (arith, ints)
leading_to (s ∷ rest) (suc k) h = let others = leading_to rest k (rest_solid s rest h) in omega (arith, ints)

table_leading : (slabs : List Slab) (k : ℕ) → IsSlabTable slabs → (pos 0 ≤ℤ leading_thickness slabs k) × (leading_thickness slabs k ≤ℤ pos 40000000)
table_leading slabs k h =
    let from = leading_from slabs k h.solid in
    let to = leading_to slabs k h.solid in
    let all = thickness_to slabs h.solid in
    let few = h.few in
    (from, omega (arith, ints))

-- a breakpoint has at most 18 digits
small_breakpoint : (road : Road) (well : IsWellFormed road) (i : ℕ) (at : ℤ) → IsNumber i (section_count road) → IsBreakpoint (section road i) at → unsigned_abs at < 10 ^ 18
small_breakpoint road well i at n b =
    let s = well.sections i n in
    let fill = table_leading (section road i).fill b.0 s.fill in
    let cut = table_leading (section road i).cut b.0 s.cut in
    ⊎_elim
    (λ (e : at ≡ leading_thickness (section road i).fill b.0). omega (arith, ints, e, fill.0, fill.1))
    (λ (e : at ≡ neg_ℤ (leading_thickness (section road i).cut b.0)). omega (arith, ints, e, cut.0, cut.1))
    b.1

module _ (road : Road) (well : IsWellFormed road) where
  spelled_split : (box : BoxRange) (split : Split) → IsBoxOf road box → IsSplitOf road box split → IsSpelledSplit split
  spelled_split box (Removal k stage) fits s =
      let few = well.counted.blocks_to in
      let stages = well.counted.stages_to in
      let range = fits.opens k s.number in
      let n = s.number in
      (omega (arith, n.at_most, few), omega (arith, s.after, range.at_most, stages))
  spelled_split box (Height i at) fits s =
      let few = well.counted.sections_to in
      let n = s.number in
      (omega (arith, n.at_most, few), small_breakpoint road well i at n s.breakpoint)

  spelled_splits : (tree : BoxTree) (box : BoxRange) → IsBoxOf road box → SplitsFit road tree box → AreSpelledSplits tree
  spelled_splits (low scale mults cause) box fits h = tt
  spelled_splits (dead mults) box fits h = tt
  spelled_splits (fork split first second) box fits h =
      let cover = found_parts_cover road box fits split (Some (first_part box split, second_part box split)) (h.0, refl) in (
        spelled_split box split fits h.0,
        spelled_splits first (first_part box split) cover.first_fits h.1,
        spelled_splits second (second_part box split) cover.second_fits h.2,
      )

  widths_of_sound : (bound : Option Fraction) (tree : BoxTree) (box : BoxRange) → IsSound road bound tree box → IsWithinWidths (row_count road) tree
  widths_of_sound bound (low scale mults cause) box h =
      (h.scale_within, subst (λ (n : ℕ). AreMultipliersBehind n 0 mults) (box_rows road box) h.mults_sound.on_rows)
  widths_of_sound bound (dead mults) box h = subst (λ (n : ℕ). AreMultipliersBehind n 0 mults) (box_rows road box) h.mults_sound.on_rows
  widths_of_sound bound (fork split first second) box h =
      (widths_of_sound bound first (first_part box split) h.1, widths_of_sound bound second (second_part box split) h.2)

  -- an admissible plan over a denominator within the limit has a text
  byte_openings : (plan : Plan) → IsAdmissible road plan → AreBytes plan.opens
  byte_openings plan h =
      let facts = facts_of_admissible road plan h in
      all_from_numbers (λ (stage : ℕ). stage < 2 ^ 8) 0 plan.opens
      (λ k n.
      let o = facts.opening k (subst (IsNumber k) h.is_plan.opens n) in
      let top = o.at_most in
      let few = well.counted.stages_to in
      omega (arith, top, few))

  planned_text : (best : Option Best) → IsBest road best → IsPricedOrNone road (priced_of (best_plan best) (best_cost best))
  planned_text None h = tt
  planned_text (Some best) h = (
    record { fits = admissible_fits road best.plan well h.den_within h.plan_at.admissible; openings = byte_openings best.plan h.plan_at.admissible },
    record { lowest = h.plan_at.cost_is.lowest; den_within = h.cost_key.scale; num_within = h.cost_key.value },
  )

  paired : (best : Option Best) → ArePaired (best_plan best) (best_cost best)
  paired None = tt
  paired (Some best) = tt

  stated_bound : (grown : Grown) (bound : Option Fraction) → IsLeastKey grown bound → IsStatedOrNone bound
  stated_bound grown None h = tt
  stated_bound grown (Some bound) h = record { lowest = h.lowest; den_within = h.key.scale; num_within = h.key.value }

  spelled_levels : (bound : Option Fraction) (tree : BoxTree) → IsSound road bound tree (root_box road) → IsSpelledTree (row_count road) most_levels tree
  unfolding most_levels
  spelled_levels bound tree sound =
      let fits = splits_of_sound road bound tree (root_box road) sound in
      let deep = few_splits road well tree fits in
      spelled_tree (row_count road) 433 tree (omega (arith, deep)) (widths_of_sound bound tree (root_box road) sound)
      (spelled_splits tree (root_box road) (root_box_fits road well) fits)

  -- the certificate has a text
  pub spelled_found : (best : Option Best) (grown : Grown) (cert : Cert) → IsBest road best → cert.plan ≡ best_plan best → cert.cost ≡ best_cost best
      → IsLeastKey grown cert.bound → IsSound road cert.bound (box_tree_of cert.tree) (root_box road) → IsSpelledCert road cert
  spelled_found best grown cert b p c bound sound =
      let pair = subst (λ (q : Option Plan). ArePaired q (best_cost best)) (sym p) (paired best) in
      let pair' = subst (λ (f : Option Fraction). ArePaired cert.plan f) (sym c) pair in
      let planned = subst (λ (q : Option Plan). IsPricedOrNone road (priced_of q (best_cost best))) (sym p) (planned_text best b) in
      let planned' = subst (λ (f : Option Fraction). IsPricedOrNone road (priced_of cert.plan f)) (sym c) planned in
      record {
        paired = pair';
        has_text = record { planned = planned'; bound = stated_bound grown cert.bound bound; tree = spelled_levels cert.bound (box_tree_of cert.tree) sound };
      }
