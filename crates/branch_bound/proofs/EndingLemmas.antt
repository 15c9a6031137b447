-- The tree at the end proves the least of its leaves' bounds, and that meets the cost of the plan unless a leaf was left open below it.
use Rattle.std.proofs.Common.{◌≡◌, ◌⊎◌, ℕ, Bool, true, false, cond, Option, Some, None, List, refl, ap, arith, inl, inr, ⊎_elim}
use Rattle.std.specs.Prelude.{◌||◌, ℤ, pos, ◌*ℤ◌, ◌≤ℤ◌, ◌<ℤ◌}
use Rattle.std.proofs.lemmas.Int.{ints}
use Rattle.algebra.proofs.Products.{mults}
use Rattle.algebra.proofs.Order.{int_lt_or_le, int_le_antisymm}
use Rattle.numbers.specs.Fractions.{Fraction}
use Rattle.numbers.proofs.FractionsLemmas.{same_lowest_fraction}
use Rattle.road_types.specs.Accepted.{IsAccepted}
use Rattle.road_types.specs.declared.road.Road.{Road}
use Rattle.plan_rules.specs.declared.plan.Plan.{Plan}
use Rattle.plan_rules.specs.Costs.{cost_of}
use Rattle.milp_builder.specs.Boxes.{root_box}
use Rattle.milp_builder.specs.Parts.{first_part, second_part}
use Rattle.milp_builder.specs.declared.boxes.BoxRange.{BoxRange}
use Rattle.milp_builder.proofs.RootBox.{root_box_fits, root_box_covers}
use Rattle.cert_tree.specs.Trees.{BoxTree, low, dead, fork}
use Rattle.cert_tree.specs.Soundness.{box_value, IsAtLeastBound, IsSound, has_low}
use Rattle.cert_tree.specs.LeastBounds.{IsAtMostLeaves, IsOfSomeLeaf, IsLeastOfLeaves}
use Rattle.cert_tree.specs.declared.tree.Why.{Why}
use Rattle.cert_tree.proofs.Lift.{sound_bounds}
use Rattle.best_first.proofs.KeyLemmas.{at_most_along}
use Rattle.branch_bound.specs.Noted.{Noted, low_with, dead_with, fork_with, tree_of, AreShown}
use Rattle.branch_bound.specs.Endings.{HasPlanAt, IsBelowCost, HasOpenBelow}
use Rattle.branch_bound.specs.inside.Grown.{Grown, dead_leaf, whole_leaf, stopped_leaf, waiting_leaf, grown_fork, IsGoodNode, IsProvedOfBox, left_note, left_cause, reaches, cause_of, noted_of}
use Rattle.branch_bound.specs.declared.work.Proved.{Proved}
use Rattle.branch_bound.specs.declared.notes.NodeNote.{NodeNote}
use Rattle.branch_bound.specs.declared.notes.NodeNote.TheVariants.{Fractional, Closed, Dead, Pivots, Wide, Limit, Nodes}

-- both sides of a test
in_both : (P : Noted → Type 0) (b : Bool) (x y : Noted) → P x → P y → P (cond b x y)
in_both P true x y h k = h
in_both P false x y h k = k

-- what is at most each leaf's bound is at most each low leaf's
abbrev pub IsWithinLeaves : Road → Option Fraction → BoxTree → BoxRange → Type 0
IsWithinLeaves road bound (low scale mults cause) box = IsAtLeastBound (box_value road box scale mults) scale bound
IsWithinLeaves road bound (dead mults) box = Unit {0}
IsWithinLeaves road bound (fork split first second) box =
    IsWithinLeaves road bound first (first_part box split) × IsWithinLeaves road bound second (second_part box split)

within_leaves : (road : Road) (tree : BoxTree) (box : BoxRange) (bound : Fraction) → IsAtMostLeaves road bound tree box → IsWithinLeaves road (Some bound) tree box
within_leaves road (low scale mults cause) box bound h = h
within_leaves road (dead mults) box bound h = tt
within_leaves road (fork split first second) box bound h =
    (within_leaves road first (first_part box split) bound h.0, within_leaves road second (second_part box split) bound h.1)

neither_first : (a b : Bool) → (a || b) ≡ false → a ≡ false
neither_first false b e = refl
neither_first true b e = cc

neither_second : (a b : Bool) → (a || b) ≡ false → b ≡ false
neither_second false b e = e
neither_second true b e = cc

first_or : (a b : Bool) → a ≡ true → (a || b) ≡ true
first_or true b e = refl
first_or false b e = cc

second_or : (a b : Bool) → b ≡ true → (a || b) ≡ true
second_or true b e = refl
second_or false b e = e

one_of : (a b : Bool) → (a || b) ≡ true → (a ≡ true) ⊎ (b ≡ true)
one_of true b e = inl refl
one_of false b e = inr e

none_within : (road : Road) (tree : BoxTree) (box : BoxRange) → has_low tree ≡ false → IsWithinLeaves road None tree box
none_within road (low scale mults cause) box h = cc
none_within road (dead mults) box h = tt
none_within road (fork split first second) box h = (
  none_within road first (first_part box split) (neither_first (has_low first) (has_low second) h),
  none_within road second (second_part box split) (neither_second (has_low first) (has_low second) h),
)

pub least_within : (road : Road) (tree : BoxTree) (box : BoxRange) (bound : Option Fraction) → IsLeastOfLeaves road tree box bound → IsWithinLeaves road bound tree box
least_within road tree box None h = none_within road tree box h
least_within road tree box (Some bound) h = within_leaves road tree box bound h.1

low_sound : (road : Road) (bound : Option Fraction) (box : BoxRange) (proved : Proved) (cause : Option Why) → IsProvedOfBox road box proved
    → IsWithinLeaves road bound (low proved.scale proved.mults cause) box → IsSound road bound (low proved.scale proved.mults cause) box
low_sound road bound box proved cause p h = record { scale_within = p.scale_within; mults_sound = p.mults_sound; bounded = h }

-- the tree at the end is sound for every bound within its leaves
pub sound_at_end : (road : Road) (cost bound : Option Fraction) (grown : Grown) (box : BoxRange) → IsGoodNode road cost grown box
    → IsWithinLeaves road bound (tree_of (noted_of cost grown)) box → IsSound road bound (tree_of (noted_of cost grown)) box
sound_at_end road cost bound (dead_leaf mults) box good h = good
sound_at_end road cost bound (whole_leaf proved) box good h = low_sound road bound box proved None good.0 h
sound_at_end road cost bound (stopped_leaf proved note) box good h =
    (in_both (λ n. IsWithinLeaves road bound (tree_of n) box → IsSound road bound (tree_of n) box) (reaches cost proved)
    (low_with proved.scale proved.mults None Closed) (low_with proved.scale proved.mults (Some (cause_of note)) note)
    (λ w. low_sound road bound box proved None good.0 w)
    (λ w. low_sound road bound box proved (Some (cause_of note)) good.0 w)) h
sound_at_end road cost bound (waiting_leaf leaf) box good h =
    (in_both (λ n. IsWithinLeaves road bound (tree_of n) box → IsSound road bound (tree_of n) box) (reaches cost leaf.proved)
    (low_with leaf.proved.scale leaf.proved.mults None Closed) (low_with leaf.proved.scale leaf.proved.mults (Some (left_cause leaf.reason)) (left_note leaf.reason))
    (λ w. low_sound road bound box leaf.proved None good.own_bound w)
    (λ w. low_sound road bound box leaf.proved (Some (left_cause leaf.reason)) good.own_bound w)) h
sound_at_end road cost bound (grown_fork split note key first second) box good h =
    (good.0, sound_at_end road cost bound first (first_part box split) good.3 h.0, sound_at_end road cost bound second (second_part box split) good.4 h.1)

-- ---- the bound meets the cost, or a leaf below the cost is open

below_or_above : (cost : Fraction) (value scale : ℤ) → IsBelowCost (Some cost) value scale ⊎ IsAtLeastBound value scale (Some cost)
below_or_above cost value scale = int_lt_or_le (value *ℤ cost.den) (cost.num *ℤ scale)

-- a shown leaf is open below the cost, or its bound is at least the cost, and then there is one
leaf_ends : (road : Road) (cost : Option Fraction) (count : ℕ) (scale : ℤ) (mults : List (ℕ × ℤ)) (cause : Option Why) (note : NodeNote) (box : BoxRange)
    → AreShown road cost count (low_with scale mults cause note) box
    → HasOpenBelow road cost (low_with scale mults cause note) box ⊎ IsAtLeastBound (box_value road box scale mults) scale cost
leaf_ends road None count scale mults (Some why) note box h = inl tt
leaf_ends road (Some cost) count scale mults (Some why) note box h = below_or_above cost (box_value road box scale mults) scale
leaf_ends road cost count scale mults None Closed box h = inr h.1
leaf_ends road cost count scale mults None Dead box h = absurd h
leaf_ends road cost count scale mults None (Fractional trail den point scale' mults') box h = absurd h
leaf_ends road cost count scale mults None (Nodes trail den point scale' mults') box h = let e = h.0 in cc
leaf_ends road cost count scale mults None (Pivots trail) box h = let e = h.0 in cc
leaf_ends road cost count scale mults None (Wide trail op) box h = let e = h.0 in cc
leaf_ends road cost count scale mults None (Limit trail number) box h = let e = h.0 in cc

pub leaves_end : (road : Road) (cost : Option Fraction) (count : ℕ) (noted : Noted) (box : BoxRange) → AreShown road cost count noted box
    → HasOpenBelow road cost noted box ⊎ IsWithinLeaves road cost (tree_of noted) box
leaves_end road cost count (low_with scale mults cause note) box h = leaf_ends road cost count scale mults cause note box h
leaves_end road cost count (dead_with mults note) box h = inr tt
leaves_end road cost count (fork_with split note first second) box h =
    ⊎_elim
    (λ o. inl (inl o))
    (λ f. ⊎_elim (λ o. inl (inr o)) (λ s. inr (f, s)) (leaves_end road cost count second (second_part box split) h.2))
    (leaves_end road cost count first (first_part box split) h.1)

-- a bound that is some leaf's is at least what is within all leaves
some_above : (road : Road) (tree : BoxTree) (box : BoxRange) (bound cost : Fraction) → pos 1 ≤ℤ bound.den → pos 1 ≤ℤ cost.den
    → IsSound road (Some bound) tree box → IsOfSomeLeaf road bound tree box → IsWithinLeaves road (Some cost) tree box → (cost.num *ℤ bound.den) ≤ℤ (bound.num *ℤ cost.den)
some_above road (low scale mults cause) box bound cost b c sound is within =
    let value = box_value road box scale mults in
    at_most_along (cost.num, cost.den) (value, scale) (bound.num, bound.den) c sound.scale_within.from_one b within (let e = is in omega (arith, ints))
some_above road (dead mults) box bound cost b c sound is within = absurd is
some_above road (fork split first second) box bound cost b c sound is within =
    ⊎_elim
    (λ i. some_above road first (first_part box split) bound cost b c sound.1 i within.0)
    (λ i. some_above road second (second_part box split) bound cost b c sound.2 i within.1)
    is

no_low_within : (road : Road) (tree : BoxTree) (box : BoxRange) → IsWithinLeaves road None tree box → has_low tree ≡ true → ⊥
no_low_within road (low scale mults cause) box h l = absurd h
no_low_within road (dead mults) box h l = cc
no_low_within road (fork split first second) box h l =
    ⊎_elim
    (λ i. no_low_within road first (first_part box split) h.0 i)
    (λ i. no_low_within road second (second_part box split) h.1 i)
    (one_of (has_low first) (has_low second) l)

low_of_some : (road : Road) (tree : BoxTree) (box : BoxRange) (bound : Fraction) → IsOfSomeLeaf road bound tree box → has_low tree ≡ true
low_of_some road (low scale mults cause) box bound h = refl
low_of_some road (dead mults) box bound h = absurd h
low_of_some road (fork split first second) box bound h =
    ⊎_elim
    (λ i. first_or (has_low first) (has_low second) (low_of_some road first (first_part box split) bound i))
    (λ i. second_or (has_low first) (has_low second) (low_of_some road second (second_part box split) bound i))
    h

-- cost/den isn't below the bound where the plan doesn't undercut it
at_most_cost : (bound cost : Fraction) (total den : ℤ) → pos 1 ≤ℤ den → pos 1 ≤ℤ bound.den → pos 1 ≤ℤ cost.den → cost.num *ℤ den ≡ total *ℤ cost.den
    → ((total *ℤ bound.den) <ℤ (bound.num *ℤ den) → ⊥) → (bound.num *ℤ cost.den) ≤ℤ (cost.num *ℤ bound.den)
at_most_cost bound cost total den d b c same none =
    let not_less = ⊎_elim (λ l. absurd (none l)) (λ (h : (bound.num *ℤ den) ≤ℤ (total *ℤ bound.den)). h) (int_lt_or_le (total *ℤ bound.den) (bound.num *ℤ den)) in
    at_most_along (bound.num, bound.den) (total, den) (cost.num, cost.den) b d c not_less (omega (arith, ints, same))

ends_at_cost : (road : Road) → IsAccepted road → (plan : Option Plan) (cost bound : Option Fraction) (noted : Noted)
    → HasPlanAt road plan cost → IsLeastOfLeaves road (tree_of noted) (root_box road) bound
    → IsSound road bound (tree_of noted) (root_box road) → IsWithinLeaves road cost (tree_of noted) (root_box road) → cost ≡ bound
ends_at_cost road a None None None noted has least sound within = refl
ends_at_cost road a None None (Some bound) noted has least sound within =
    absurd (no_low_within road (tree_of noted) (root_box road) within (low_of_some road (tree_of noted) (root_box road) bound least.2))
ends_at_cost road a None (Some cost) bound noted has least sound within = absurd has
ends_at_cost road a (Some plan) None bound noted has least sound within = absurd has
ends_at_cost road a (Some plan) (Some cost) None noted has least sound within =
    absurd (sound_bounds road a None tt (tree_of noted) (root_box road) (root_box_fits road a.well_formed) sound plan has.admissible (root_box_covers road plan has.admissible))
ends_at_cost road a (Some plan) (Some cost) (Some bound) noted has least sound within =
    let den = least.0.positive in
    let free = sound_bounds road a (Some bound) den (tree_of noted) (root_box road) (root_box_fits road a.well_formed) sound plan has.admissible (root_box_covers road plan has.admissible) in
    let is_plan = has.admissible.is_plan in
    let below = at_most_cost bound cost (cost_of road plan) plan.den is_plan.den den has.cost_is.lowest.positive has.cost_is.value.same
    (λ less. free (record { is_plan = is_plan; less = less })) in
    let above = some_above road (tree_of noted) (root_box road) bound cost den has.cost_is.lowest.positive sound least.2 within in
    ap (λ (f : Fraction). Some f) (same_lowest_fraction cost bound has.cost_is.lowest least.0 (int_le_antisymm (cost.num *ℤ bound.den) (bound.num *ℤ cost.den) above below))

-- the least of the leaves' bounds is the cost of the plan, or a leaf below it is open; where neither a bound nor a plan is, every leaf is dead
pub ends_so : (road : Road) → IsAccepted road → (plan : Option Plan) (cost bound : Option Fraction) (count : ℕ) (noted : Noted)
    → HasPlanAt road plan cost → AreShown road cost count noted (root_box road) → IsLeastOfLeaves road (tree_of noted) (root_box road) bound
    → IsSound road bound (tree_of noted) (root_box road) → (cost ≡ bound) ⊎ HasOpenBelow road cost noted (root_box road)
ends_so road a plan cost bound count noted has shown least sound =
    ⊎_elim (λ o. inr o) (λ within. inl (ends_at_cost road a plan cost bound noted has least sound within)) (leaves_end road cost count noted (root_box road) shown)
