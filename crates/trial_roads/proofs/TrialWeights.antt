-- The trial road of every number is light: what each part of it weighs, and all of it.
use Rattle.std.proofs.Common.{◌≡◌, ℕ, zero, suc, ◌+◌, ◌-◌, ◌*◌, ◌/◌, ◌^◌, ◌<◌, ◌≤◌, length, arith, ap, sym, subst, refl}
use Rattle.std.specs.Prelude.{ℤ, pos, ◌-ℤ◌, unsigned_abs, replicate}
use Rattle.std.specs.Int.{int_max}
use Rattle.std.specs.List.{All}
use Rattle.std.proofs.lemmas.Int.{ints}
use Rattle.std.proofs.lemmas.List.{length-replicate}
use Rattle.std.proofs.lemmas.Nat.{mul-le, div-add-mod'}
use Rattle.algebra.specs.Totals.{total_to}
use Rattle.algebra.proofs.TotalsLemmas.{total_to_bound}
use Rattle.algebra.proofs.NumberedLemmas.{numbered_all, all_from_numbers}
use Rattle.algebra.proofs.Magnitudes.{unsigned_abs_max_le, unsigned_abs_le, unsigned_abs_pos}
use Rattle.road_types.specs.Numbered.{numbered, IsNumber}
use Rattle.road_types.specs.Heights.{steps_along, segment_start, segment_at, segment_length}
use Rattle.road_types.specs.Lines.{widest_area, deepest}
use Rattle.road_types.specs.Volumes.{thickness_of}
use Rattle.road_types.specs.Road.{section, hop, block, no_hop, section_count, hop_count}
use Rattle.road_types.specs.RoadPrograms.{road_weight}
use Rattle.road_types.specs.WellFormed.{IsBetween}
use Rattle.road_types.specs.inside.Loads.{height_reach, grade_reach, height_load, grade_load, earth_cap, line_load, section_load, joint_load, segment_load, hop_load, access_load, pit_load, haul_cap, block_load, load_of}
use Rattle.road_types.specs.declared.road.Road.{Road}
use Rattle.road_types.specs.declared.road.Section.{Section}
use Rattle.road_types.specs.declared.road.Hop.{Hop}
use Rattle.road_types.proofs.WeightLemmas.{road_weight-load}
use Rattle.trial_roads.specs.Draws.{state_after, drawn}
use Rattle.trial_roads.specs.TrialRoads.{drawn_slab, drawn_section, state_behind, trial_hop, road_of_size}
use Rattle.trial_roads.proofs.DrawLemmas.{drawn_small}
use Rattle.trial_roads.proofs.TrialFacts.{between, copy_at, well_formed, count, hops, section_is, hop_is, block_number}

-- ---- totals of so many

total_le : (f : ℕ → ℕ) (b m n : ℕ) → ((k : ℕ) → 1 ≤ k → k ≤ m → f k ≤ b) → m ≤ n → total_to f m ≤ n * b
total_le f b m n h l = omega (arith, total_to_bound f b m h, mul-le m b n b l (omega arith))

-- ---- sections

area_le : (least x : ℕ) → least ≤ 250 → unsigned_abs (drawn_slab least x).area ≤ 350
area_le least x p = omega (arith, unsigned_abs_pos (least + drawn x 100), drawn_small x 100 (omega arith))

widest_le : (x i : ℕ) → unsigned_abs (widest_area (drawn_section x i)) ≤ 350
widest_le x i =
    let none : unsigned_abs (pos 0) ≤ 350 = omega arith in
    let a = (drawn_slab 150 (state_after x 2)).area in
    let b = (drawn_slab 250 (state_after x 3)).area in
    let c = (drawn_slab 150 (state_after x 4)).area in
    let d = (drawn_slab 250 (state_after x 5)).area in
    let of_a = unsigned_abs_max_le (pos 0) a 350 none (area_le 150 (state_after x 2) (omega arith)) in
    let of_b = unsigned_abs_max_le (int_max (pos 0) a) b 350 of_a (area_le 250 (state_after x 3) (omega arith)) in
    let of_c = unsigned_abs_max_le (int_max (int_max (pos 0) a) b) c 350 of_b (area_le 150 (state_after x 4) (omega arith)) in
    unsigned_abs_max_le (int_max (int_max (int_max (pos 0) a) b) c) d 350 of_c (area_le 250 (state_after x 5) (omega arith))

deepest_is : (x i : ℕ) → unsigned_abs (deepest (drawn_section x i)) ≡ 3000
unfolding thickness_of
deepest_is x i = refl

line_le : (x i : ℕ) → line_load (drawn_section x i) ≤ 350 * 3000
line_le x i =
    mul-le (unsigned_abs (widest_area (drawn_section x i))) (unsigned_abs (deepest (drawn_section x i))) 350 3000 (widest_le x i) (omega (arith, deepest_is x i))

ground_le : (g : ℕ) → g < 2001 → unsigned_abs (pos g -ℤ pos 1000) ≤ 1000
ground_le g p = unsigned_abs_le (pos g -ℤ pos 1000) 1000 (omega (arith, ints, p)) (omega (arith, ints, p))

module _ (n number : ℕ) (from : 8 ≤ n) (to : n ≤ 24) where
  abbrev road : Road
  road = road_of_size n number

  -- ---- stations

  station_between : (k : ℕ) → IsBetween (pos 0) (pos 23) (numbered (pos 0) road.knots k)
  unfolding road_of_size
  station_between zero = between 0 23 0 (omega arith) (omega arith)
  station_between (suc zero) = between 0 23 0 (omega arith) (omega arith)
  station_between (suc (suc zero)) = between 0 23 (n / 2) (omega arith) (omega (arith, half_le, to))
    where
      half_le : n / 2 ≤ n
      half_le = let parts = div-add-mod' n 2 in omega (arith, parts)
  station_between (suc (suc (suc zero))) = between 0 23 (n - 1) (omega arith) (omega (arith, to))
  station_between (suc (suc (suc (suc k)))) = between 0 23 0 (omega arith) (omega arith)

  apart_le : (x y : ℤ) → IsBetween (pos 0) (pos 23) x → IsBetween (pos 0) (pos 23) y → unsigned_abs (x -ℤ y) ≤ 23
  apart_le x y p q =
      unsigned_abs_le (x -ℤ y) 23 (omega (arith, ints, p.at_least, p.at_most, q.at_least, q.at_most)) (omega (arith, ints, p.at_least, p.at_most, q.at_least, q.at_most))

  steps_le : (i : ℕ) → i ≤ n → unsigned_abs (steps_along road.knots (pos (i - 1))) ≤ 23
  steps_le i p =
      let g = segment_at road.knots (pos (i - 1)) in
      apart_le (pos (i - 1)) (segment_start road.knots g) (between 0 23 (i - 1) (omega arith) (omega (arith, p, to))) (station_between g)

  length_le : (g : ℕ) → unsigned_abs (segment_length road.knots g) ≤ 23
  length_le g = apart_le (numbered (pos 0) road.knots (suc g)) (numbered (pos 0) road.knots g) (station_between (suc g)) (station_between g)

  -- ---- heights and grades

  height_is : (s : ℕ) → height_load road s ≡ 20000 + (s * 1200 + s * s * 200)
  unfolding road_of_size
  height_is s = refl

  height_le : (s : ℕ) → s ≤ 23 → height_load road s ≤ 200000
  height_le s p = omega (arith, height_is s, mul-le s s 23 23 p p)

  grade_is : (s : ℕ) → grade_load road s ≡ 1200 + 2 * s * 200
  unfolding road_of_size
  grade_is s = refl

  grade_le : (s : ℕ) → s ≤ 23 → grade_load road s ≤ 20000
  grade_le s p = omega (arith, grade_is s)

  -- ---- what each part weighs

  drawn_section_is : (x i : ℕ) → section_load road (drawn_section x i)
      ≡ (height_load road (unsigned_abs (steps_along road.knots (pos (i - 1))))
      + (unsigned_abs (deepest (drawn_section x i)) + unsigned_abs (pos (drawn (state_after x 1) 2001) -ℤ pos 1000)))
      + (4 * (3 * line_load (drawn_section x i) + 2 * 2000000) + (2 * 2000000 + 2 * 5000000))
  unfolding road_of_size
  drawn_section_is x i = refl

  drawn_section_le : (x i : ℕ) → i ≤ n → section_load road (drawn_section x i) ≤ 100000000
  drawn_section_le x i p =
      let h = height_le (unsigned_abs (steps_along road.knots (pos (i - 1)))) (steps_le i p) in
      let g = ground_le (drawn (state_after x 1) 2001) (drawn_small (state_after x 1) 2001 (omega arith)) in
      omega (arith, drawn_section_is x i, h, g, deepest_is x i, line_le x i)

  section_le : (i : ℕ) → 1 ≤ i → i ≤ n → section_load road (section road i) ≤ 100000000
  section_le i p q =
      subst (λ s. section_load road s ≤ 100000000) (sym (section_is n number from to i (record { from_one = p; at_most = q })))
      (drawn_section_le (state_behind number (i - 1)) i q)

  reaches_are : height_reach road + grade_reach road ≡ 21200
  unfolding road_of_size
  reaches_are = refl

  joint_le : (g : ℕ) → joint_load road g ≤ 300000
  joint_le g =
      let s = unsigned_abs (segment_length road.knots g) in
      omega (arith, height_le s (length_le g), grade_le s (length_le g), reaches_are)

  segment_is : (g : ℕ) → segment_load road g ≡ 2 * grade_load road (unsigned_abs (segment_length road.knots g)) + 2400
  unfolding road_of_size
  segment_is g = refl

  segment_le : (g : ℕ) → segment_load road g ≤ 50000
  segment_le g = let s = unsigned_abs (segment_length road.knots g) in omega (arith, segment_is g, grade_le s (length_le g))

  hop_load_is : hop_load road trial_hop ≡ 96000000
  unfolding road_of_size
  hop_load_is = refl

  each_hop_le : (h : ℕ) → 1 ≤ h → h ≤ n - 1 → hop_load road (hop road h) ≤ 96000000
  each_hop_le h p q =
      subst (λ x. hop_load road x ≤ 96000000) (sym (hop_is n number from to h (record { from_one = p; at_most = q }))) (omega (arith, hop_load_is))

  access_le : (q : ℕ) → 1 ≤ q → q ≤ 2 → access_load road q ≤ 72000000
  unfolding road_of_size
  access_le zero p l = absurd (omega (arith, p))
  access_le (suc zero) p l = omega arith
  access_le (suc (suc zero)) p l = omega arith
  access_le (suc (suc (suc q))) p l = absurd (omega (arith, l))

  pit_le : (p : ℕ) → 1 ≤ p → p ≤ 2 → pit_load road p ≤ 8000000
  unfolding road_of_size
  pit_le zero m l = absurd (omega (arith, m))
  pit_le (suc zero) m l = omega arith
  pit_le (suc (suc zero)) m l = omega arith
  pit_le (suc (suc (suc p))) m l = absurd (omega (arith, l))

  -- what a hop may take, also past the ends of the road, where there is none

  abbrev IsSmallHop : Hop → Type 0
  IsSmallHop h = (unsigned_abs h.right_max ≤ 4000000) × (unsigned_abs h.left_max ≤ 4000000)

  small_hop : (h : ℕ) → IsSmallHop (hop road h)
  unfolding road_of_size
  small_hop h = numbered_all IsSmallHop no_hop (replicate (n - 1) trial_hop) (omega arith, omega arith) (all_copies (n - 1)) h
    where
      all_copies : (k : ℕ) → All IsSmallHop (replicate k trial_hop)
      all_copies k = all_from_numbers IsSmallHop no_hop (replicate k trial_hop) (λ i m. subst IsSmallHop (sym (copy_at no_hop trial_hop k i (copied k i m))) (omega arith, omega arith))
        where
          copied : (k i : ℕ) → IsNumber i (length (replicate k trial_hop)) → IsNumber i k
          copied k i m = record { from_one = m.from_one; at_most = omega (arith, m.at_most, length-replicate k trial_hop) }

  haul_cap_le : (i : ℕ) → haul_cap road i ≤ 8000000
  haul_cap_le i = let right = small_hop i in let left = small_hop (i - 1) in omega (arith, right.0, left.1)

  block_is : block_load road 1
      ≡ (2 * (unsigned_abs (section road (block road 1).section).cut_max + haul_cap road (block road 1).section) + 1 * haul_cap road (block road 1).section)
      + (1 * (3 * earth_cap (section road (block road 1).section)) + (2 * 0 + 1000))
  unfolding road_of_size
  block_is = refl

  block_le : (k : ℕ) → 1 ≤ k → k ≤ 1 → block_load road k ≤ 40000000
  block_le zero p l = absurd (omega (arith, p))
  block_le (suc (suc k)) p l = absurd (omega (arith, l))
  block_le (suc zero) p l =
      let i = (block road 1).section in
      let at = section_is n number from to i (block_number n number from to 1 (record { from_one = omega arith; at_most = omega arith })) in
      omega (arith, block_is, haul_cap_le i, ap (λ (s : Section). unsigned_abs s.cut_max) at, ap earth_cap at)

  -- ---- all of it

  load_is : load_of road
      ≡ (total_to (λ i. section_load road (section road i)) (section_count road)
      + (total_to (joint_load road) 1 + total_to (segment_load road) 2))
      + ((0 + total_to (λ h. hop_load road (hop road h)) (hop_count road))
      + (total_to (access_load road) 2 + (total_to (pit_load road) 2 + total_to (block_load road) 1)))
  unfolding road_of_size
  load_is = refl

  pub light : road_weight road ≤ 2 ^ 46
  light =
      let many = count n number from to in
      let gaps = hops n number from to in
      let of_sections = total_le (λ i. section_load road (section road i)) 100000000 (section_count road) 24 (λ i p q. section_le i p (omega (arith, q, many))) (omega (arith, many, to)) in
      let of_joints = total_le (joint_load road) 300000 1 1 (λ g p q. joint_le g) (omega arith) in
      let of_segments = total_le (segment_load road) 50000 2 2 (λ g p q. segment_le g) (omega arith) in
      let of_hops = total_le (λ h. hop_load road (hop road h)) 96000000 (hop_count road) 24 (λ h p q. each_hop_le h p (omega (arith, q, gaps))) (omega (arith, gaps, to)) in
      let of_accesses = total_le (access_load road) 72000000 2 2 (λ q p l. access_le q p l) (omega arith) in
      let of_pits = total_le (pit_load road) 8000000 2 2 (λ p m l. pit_le p m l) (omega arith) in
      let of_blocks = total_le (block_load road) 40000000 1 1 (λ k p l. block_le k p l) (omega arith) in
      omega (arith, road_weight-load road (well_formed n number from to), load_is, of_sections, of_joints, of_segments, of_hops, of_accesses, of_pits, of_blocks)
