-- The rules of a plan, by rule, stage and place: limits, continuity, fixed points, volumes, caps, flows, blocks. A place is kept
-- where the rule holds there; a plan of the road is admissible where every place of every rule is kept.
use Rattle.std.specs.Prelude.{◌≡◌, ℕ, zero, suc, ◌+◌, ◌-◌, ◌<◌, ◌≤◌, ◌==◌, nat_le, ◌&&◌, if◌then◌else◌, ℤ, pos, neg_ℤ, ◌+ℤ◌, ◌-ℤ◌, ◌*ℤ◌, ◌≤ℤ◌}
use Rattle.algebra.specs.Sums.{sum_to}
use Rattle.road_types.specs.Numbered.{IsNumber}
use Rattle.road_types.specs.Heights.{height_along, grade_along, segment_at, steps_along, segment_length}
use Rattle.road_types.specs.Volumes.{net_volume, thickness_of}
use Rattle.road_types.specs.Road.{section, hop, fixed_point, pit, access, block, section_count, segment_count, fixed_count, pit_count, access_count, block_count, serves}
use Rattle.road_types.specs.declared.road.Road.{Road}
use Rattle.road_types.specs.declared.road.PitKind.{PitKind}
use Rattle.road_types.specs.declared.road.PitKind.TheVariants.{Borrow, Waste}
use Rattle.plan_rules.specs.declared.plan.Plan.{Plan}
use Rattle.plan_rules.specs.declared.verdict.Rule.{Rule}
use Rattle.plan_rules.specs.declared.verdict.Rule.TheVariants.{P1, P2, P3, P4, P5, P6, P7, P8, P9}
use Rattle.plan_rules.specs.Plans.{IsPlanOf, piece_of, amount, opening}

-- ---- heights and offsets

-- the plan's height at a station: of the first segment that ends there or after it
abbrev pub height_at : Road → Plan → ℤ → ℤ
height_at road plan station =
    let p = piece_of plan (segment_at road.knots station) in
    height_along p.a p.b p.c (steps_along road.knots station)

-- how far the plan lies above the ground at section i
abbrev pub offset_of : Road → Plan → ℕ → ℤ
offset_of road plan i = height_at road plan (section road i).station -ℤ plan.den *ℤ (section road i).ground

-- ---- limits, continuity, grade and fixed points

-- low*D <= x <= high*D
pub record IsWithin (low high den x : ℤ) : Type 0 where
  pub at_least : (low *ℤ den) ≤ℤ x
  pub at_most : x ≤ℤ (high *ℤ den)

-- a segment's numbers are within the road's limits
pub record IsInLimits (road : Road) (plan : Plan) (g : ℕ) : Type 0 where
  pub height : IsWithin road.low road.high plan.den (piece_of plan g).a
  pub grade : IsWithin road.grade.0 road.grade.1 plan.den (piece_of plan g).b
  pub curve : IsWithin (neg_ℤ road.curve) road.curve plan.den (piece_of plan g).c

-- every segment's numbers are within the road's limits
pub record IsLimited (road : Road) (plan : Plan) : Type 0 where
  pub each : (g : ℕ) → IsNumber g (segment_count road) → IsInLimits road plan g

-- the height at the end of segment g, and the grade there
abbrev pub end_height : Road → Plan → ℕ → ℤ
end_height road plan g = let p = piece_of plan g in height_along p.a p.b p.c (segment_length road.knots g)

abbrev pub end_grade : Road → Plan → ℕ → ℤ
end_grade road plan g = let p = piece_of plan g in grade_along p.b p.c (segment_length road.knots g)

-- the next segment begins with the height and the grade with which segment g ends
pub record IsContinuous (road : Road) (plan : Plan) (g : ℕ) : Type 0 where
  pub height : (piece_of plan (g + 1)).a ≡ end_height road plan g
  pub grade : (piece_of plan (g + 1)).b ≡ end_grade road plan g

abbrev pub EndsInGrade : Road → Plan → ℕ → Type 0
EndsInGrade road plan g = IsWithin road.grade.0 road.grade.1 plan.den (end_grade road plan g)

abbrev pub PassesFixedPoint : Road → Plan → ℕ → Type 0
PassesFixedPoint road plan f =
    IsWithin (fixed_point road f).low (fixed_point road f).high plan.den (height_at road plan (fixed_point road f).station)

-- ---- volumes

-- what is filled in section i in stage t, less what is cut
abbrev pub fill_less_cut : Plan → ℕ → ℕ → ℤ
fill_less_cut plan i t = amount plan.fill t i -ℤ amount plan.cut t i

-- the offset lies within the section's slabs, and fill less cut over all stages is the volume of the offset
pub record HasItsVolume (road : Road) (plan : Plan) (i : ℕ) : Type 0 where
  pub range : IsWithin (neg_ℤ (thickness_of (section road i).cut)) (thickness_of (section road i).fill) plan.den (offset_of road plan i)
  pub volume : sum_to (fill_less_cut plan i) road.stages
      ≡ net_volume (section road i).cut (section road i).fill (offset_of road plan i) plan.den

-- ---- caps and capacities

-- 0 <= amount <= cap*D
abbrev pub IsCapped : ℤ → ℤ → ℤ → Type 0
IsCapped cap den x = IsWithin (pos 0) cap den x

-- The amounts of a stage are counted through: cut, fill, right, left, access roads.
-- With N sections they begin after 0, N, 2N, 3N-1 and 4N-2 others.

abbrev pub fill_before : Road → ℕ
fill_before road = section_count road

abbrev pub right_before : Road → ℕ
right_before road = fill_before road + section_count road

abbrev pub left_before : Road → ℕ
left_before road = right_before road + (section_count road - 1)

abbrev pub roads_before : Road → ℕ
roads_before road = left_before road + (section_count road - 1)

abbrev pub amount_count : Road → ℕ
amount_count road = roads_before road + access_count road

-- the amount that is counted at this place of stage t, and its cap
pub record IsAmountCapped (road : Road) (plan : Plan) (t place : ℕ) : Type 0 where
  pub cut : IsNumber place (section_count road) → IsCapped (section road place).cut_max plan.den (amount plan.cut t place)
  pub fill : (i : ℕ) → place ≡ fill_before road + i → IsNumber i (section_count road)
      → IsCapped (section road i).fill_max plan.den (amount plan.fill t i)
  pub right : (h : ℕ) → place ≡ right_before road + h → IsNumber h (section_count road - 1)
      → IsCapped (hop road h).right_max plan.den (amount plan.right t h)
  pub left : (h : ℕ) → place ≡ left_before road + h → IsNumber h (section_count road - 1)
      → IsCapped (hop road h).left_max plan.den (amount plan.left t h)
  pub roads : (q : ℕ) → place ≡ roads_before road + q → IsNumber q (access_count road)
      → IsCapped (access road q).max plan.den (amount plan.roads t q)

-- what goes over access road q in so many stages
abbrev pub access_amount : Plan → ℕ → ℕ → ℤ
access_amount plan q stages = sum_to (λ t. amount plan.roads t q) stages

-- what goes over it in all stages, where it belongs to pit p
abbrev pub pit_share : Road → Plan → ℕ → ℕ → ℤ
pit_share road plan p q = if (access road q).pit == p then access_amount plan q road.stages else pos 0

-- a pit's total over its access roads and all stages is at most its capacity
abbrev pub IsPitCapped : Road → Plan → ℕ → Type 0
IsPitCapped road plan p = sum_to (pit_share road plan p) (access_count road) ≤ℤ ((pit road p).capacity *ℤ plan.den)

abbrev pub KeepsCaps : Road → Plan → ℕ → ℕ → Type 0
KeepsCaps road plan zero place = IsPitCapped road plan place
KeepsCaps road plan (suc t) place = IsAmountCapped road plan (suc t) place

-- ---- flows

-- the amount on access road q in stage t, where it stands at section i and its pit is of this kind
abbrev pub access_share : Road → Plan → PitKind → ℕ → ℕ → ℕ → ℤ
access_share road plan kind t i q =
    if serves road kind i q then amount plan.roads t q else pos 0

abbrev pub borrowed_in : Road → Plan → ℕ → ℕ → ℤ
borrowed_in road plan t i = sum_to (access_share road plan Borrow t i) (access_count road)

abbrev pub wasted_out : Road → Plan → ℕ → ℕ → ℤ
wasted_out road plan t i = sum_to (access_share road plan Waste t i) (access_count road)

-- to the right from the section before, to the left from the section after
abbrev pub hauled_in : Plan → ℕ → ℕ → ℤ
hauled_in plan t i = amount plan.right t (i - 1) +ℤ amount plan.left t i

-- to the right over hop i, to the left over hop i-1
abbrev pub hauled_out : Plan → ℕ → ℕ → ℤ
hauled_out plan t i = amount plan.right t i +ℤ amount plan.left t (i - 1)

-- what is cut at section i in stage t, hauled in and borrowed
abbrev pub earth_in : Road → Plan → ℕ → ℕ → ℤ
earth_in road plan t i = (amount plan.cut t i +ℤ hauled_in plan t i) +ℤ borrowed_in road plan t i

-- what is filled there, hauled out and wasted
abbrev pub earth_out : Road → Plan → ℕ → ℕ → ℤ
earth_out road plan t i = (amount plan.fill t i +ℤ hauled_out plan t i) +ℤ wasted_out road plan t i

-- the two sides are equal
abbrev pub IsBalanced : Road → Plan → ℕ → ℕ → Type 0
IsBalanced road plan t i = earth_in road plan t i ≡ earth_out road plan t i

-- ---- blocks

-- a stage from 2 on, or the one after the last, which means never
pub record IsOpening (road : Road) (stage : ℕ) : Type 0 where
  pub from_two : 2 ≤ stage
  pub at_most : stage ≤ road.stages + 1

-- before its opening no more leaves the block's section than is cut there; from then on nothing is cut or filled there
pub record RespectsBlock (road : Road) (plan : Plan) (t k : ℕ) : Type 0 where
  pub standing : t < opening plan k → hauled_out plan t (block road k).section ≤ℤ amount plan.cut t (block road k).section
  pub no_cut : opening plan k ≤ t → amount plan.cut t (block road k).section ≡ pos 0
  pub no_fill : opening plan k ≤ t → amount plan.fill t (block road k).section ≡ pos 0

-- ---- all rules

-- the rule holds at this stage and place
unfoldable pub Keeps : Road → Plan → Rule → ℕ → ℕ → Type 0
Keeps road plan P1 stage g = IsInLimits road plan g
Keeps road plan P2 stage g = IsContinuous road plan g
Keeps road plan P3 stage g = EndsInGrade road plan g
Keeps road plan P4 stage f = PassesFixedPoint road plan f
Keeps road plan P5 stage i = HasItsVolume road plan i
Keeps road plan P6 stage place = KeepsCaps road plan stage place
Keeps road plan P7 stage i = IsBalanced road plan stage i
Keeps road plan P8 stage k = IsOpening road (opening plan k)
Keeps road plan P9 stage k = RespectsBlock road plan stage k

-- how many places a rule without stages has
abbrev pub at_no_stage : ℕ → ℕ → ℕ
at_no_stage stage count = if stage == 0 then count else 0

-- how many places a rule has in each of the road's stages
abbrev pub at_each_stage : Road → ℕ → ℕ → ℕ
at_each_stage road stage count = if nat_le 1 stage && nat_le stage road.stages then count else 0

-- how many places a rule has at a stage; stage 0 stands for a rule without stages
unfoldable pub place_count : Road → Rule → ℕ → ℕ
place_count road P1 stage = at_no_stage stage (segment_count road)
place_count road P2 stage = at_no_stage stage (segment_count road - 1)
place_count road P3 stage = at_no_stage stage (segment_count road)
place_count road P4 stage = at_no_stage stage (fixed_count road)
place_count road P5 stage = at_no_stage stage (section_count road)
place_count road P6 stage = at_no_stage stage (pit_count road) + at_each_stage road stage (amount_count road)
place_count road P7 stage = at_each_stage road stage (section_count road)
place_count road P8 stage = at_no_stage stage (block_count road)
place_count road P9 stage = at_each_stage road stage (block_count road)

abbrev pub IsPlace : Road → Rule → ℕ → ℕ → Type 0
IsPlace road rule stage place = IsNumber place (place_count road rule stage)

-- a plan of the road, with every place of every rule kept
pub record IsAdmissible (road : Road) (plan : Plan) : Type 0 where
  pub is_plan : IsPlanOf road plan
  pub keeps : (rule : Rule) (stage place : ℕ) → IsPlace road rule stage place → Keeps road plan rule stage place

-- a place of a rule that isn't kept
pub record IsBroken (road : Road) (plan : Plan) (rule : Rule) (stage place : ℕ) : Type 0 where
  pub is_place : IsPlace road rule stage place
  pub not_kept : ¬ Keeps road plan rule stage place

-- the number of a rule
abbrev pub rule_number : Rule → ℕ
rule_number P1 = 1
rule_number P2 = 2
rule_number P3 = 3
rule_number P4 = 4
rule_number P5 = 5
rule_number P6 = 6
rule_number P7 = 7
rule_number P8 = 8
rule_number P9 = 9

-- a broken place before which everything is kept: of lesser rules, of lesser stages of its rule, lesser places of its stage
pub record IsFirstBroken (road : Road) (plan : Plan) (rule : Rule) (stage place : ℕ) : Type 0 where
  pub broken : IsBroken road plan rule stage place
  pub lesser_rules : (r : Rule) (s p : ℕ) → rule_number r < rule_number rule → IsPlace road r s p → Keeps road plan r s p
  pub lesser_stages : (s p : ℕ) → s < stage → IsPlace road rule s p → Keeps road plan rule s p
  pub lesser_places : (p : ℕ) → p < place → IsPlace road rule stage p → Keeps road plan rule stage p
