-- The least of the leaves' bounds.
use Rattle.std.proofs.Common.{◌≡◌, ◌≢◌, ℕ, ℤ, pos, ◌≤◌, ◌^◌, Bool, true, false, ◌||◌, Option, Some, None, List, refl, sym, ap, subst, arith, inl, inr, ⊎_elim, ◌∙◌}
use Rattle.std.specs.Prelude.{◌<◌, ◌*ℤ◌, ◌≤ℤ◌, int_le, if◌then◌else◌, unsigned_abs, IsSome, IfSome}
use Rattle.std.proofs.lemmas.Bool.{false≢true}
use Rattle.std.proofs.lemmas.Int.{ints}
use Rattle.algebra.specs.Scale.{IsScale, greatest_scale}
use Rattle.algebra.proofs.Magnitudes.{unsigned_abs_le}
use Rattle.algebra.proofs.Products.{mults}
use Rattle.algebra.proofs.Order.{int_le_refl, int_eq_of_mul_right}
use Rattle.numbers.specs.Fractions.{Fraction, IsReduced, HasValue}
use Rattle.road_types.specs.declared.road.Road.{Road}
use Rattle.milp_builder.specs.Parts.{first_part, second_part, AreParts}
use Rattle.milp_builder.specs.declared.boxes.BoxRange.{BoxRange}
use Rattle.milp_builder.specs.declared.boxes.Split.{Split}
use Rattle.best_first.specs.Keys.{IsKey}
use Rattle.best_first.proofs.KeyLemmas.{at_most_along}
use Rattle.cert_tree.specs.Trees.{BoxTree, low, dead, fork, box_node_of, box_tree_of, IsWithinWidths}
use Rattle.cert_tree.specs.declared.tree.Why.{Why}
use Rattle.cert_tree.specs.Soundness.{box_value, has_low}
use Rattle.cert_tree.specs.LeastBounds.{IsAtMostLeaves, IsOfSomeLeaf, IsLeastOfLeaves}
use Rattle.cert_tree.specs.declared.tree.Tree.{Tree}
use Rattle.cert_tree.specs.declared.tree.Tree.TheOpen.{Tree-F}
use Rattle.cert_tree.specs.declared.tree.Tree.TheFolds.{fold-roll-Tree}
use Rattle.cert_tree.specs.declared.tree.Tree.TheVariants.{Split as split_node, rolls-Split}
use Rattle.search_trees.specs.inside.LeastPairs.{over, IsFractionOf, IsLeastPair, IsKeyOrNone, lesser}

-- what is at most a bound is at most the leaves that the bound is at most
along_leaves : (road : Road) (rows : ℕ) (bound other : Fraction) (tree : BoxTree) (box : BoxRange) → pos 1 ≤ℤ bound.den → pos 1 ≤ℤ other.den
    → (bound.num *ℤ other.den) ≤ℤ (other.num *ℤ bound.den) → IsWithinWidths rows tree → IsAtMostLeaves road other tree box → IsAtMostLeaves road bound tree box
along_leaves road rows bound other (low scale mults cause) box one_b one_o less w h =
    at_most_along (bound.num, bound.den) (other.num, other.den) (box_value road box scale mults, scale) one_b one_o w.0.from_one less h
along_leaves road rows bound other (dead mults) box one_b one_o less w h = tt
along_leaves road rows bound other (fork split first second) box one_b one_o less w h =
    (along_leaves road rows bound other first (first_part box split) one_b one_o less w.0 h.0, along_leaves road rows bound other second (second_part box split) one_b one_o less w.1 h.1)

-- from n*e = m*d and m*s = v*e: n*s = v*d, where e isn't 0
same_value : (n d m e v s : ℤ) → e ≢ pos 0 → n *ℤ e ≡ m *ℤ d → m *ℤ s ≡ v *ℤ e → n *ℤ s ≡ v *ℤ d
same_value n d m e v s some first second =
    let left : (n *ℤ e) *ℤ s ≡ (m *ℤ d) *ℤ s = ap (λ (x : ℤ). x *ℤ s) first in
    let right : (m *ℤ s) *ℤ d ≡ (v *ℤ e) *ℤ d = ap (λ (x : ℤ). x *ℤ d) second in
    let left' = simp mults at left in
    let right' = simp mults at right in
    int_eq_of_mul_right (n *ℤ s) (v *ℤ d) e some (simp mults (omega (arith, ints)))

-- a bound of the same value is some leaf's too
same_leaf : (road : Road) (bound other : Fraction) (tree : BoxTree) (box : BoxRange) → other.den ≢ pos 0
    → bound.num *ℤ other.den ≡ other.num *ℤ bound.den → IsOfSomeLeaf road other tree box → IsOfSomeLeaf road bound tree box
same_leaf road bound other (low scale mults cause) box some same h =
    same_value bound.num bound.den other.num other.den (box_value road box scale mults) scale some same h
same_leaf road bound other (dead mults) box some same h = absurd h
same_leaf road bound other (fork split first second) box some same h =
    ⊎_elim
    (λ i. inl (same_leaf road bound other first (first_part box split) some same i))
    (λ i. inr (same_leaf road bound other second (second_part box split) some same i))
    h

-- neither of two
pub neither : (a b : Bool) → (a || b) ≡ false → (a ≡ false) × (b ≡ false)
neither false b h = (refl, h)
neither true b h = absurd (false≢true (sym h))

both_false : (a b : Bool) → a ≡ false → b ≡ false → (a || b) ≡ false
both_false false b p q = q
both_false true b p q = absurd (false≢true (sym p))

-- without a low leaf everything is at most the low leaves
at_most_none : (road : Road) (bound : Fraction) (tree : BoxTree) (box : BoxRange) → has_low tree ≡ false → IsAtMostLeaves road bound tree box
at_most_none road bound (low scale mults cause) box h = absurd (false≢true (sym h))
at_most_none road bound (dead mults) box h = tt
at_most_none road bound (fork split first second) box h =
    let none = neither (has_low first) (has_low second) h in
    (at_most_none road bound first (first_part box split) none.0, at_most_none road bound second (second_part box split) none.1)

-- one leaf's
pub low_least : (road : Road) (box : BoxRange) (value scale : ℤ) (mults : List (ℕ × ℤ)) (cause : Option Why) → value ≡ box_value road box scale mults
    → unsigned_abs value ≤ 2 ^ 86 → IsScale scale → IsLeastPair road (low scale mults cause) box (Some (value, scale))
low_least road box value scale mults cause e within s =
    let same : value *ℤ scale ≡ box_value road box scale mults *ℤ scale = ap (λ (v : ℤ). v *ℤ scale) e in
    (record { value = within; scale = s }, subst (λ (v : ℤ). (value *ℤ scale) ≤ℤ (v *ℤ scale)) e (int_le_refl (value *ℤ scale)), same)

-- of two, the lesser
lesser_least : (road : Road) (rows : ℕ) (split : Split) (first second : BoxTree) (box : BoxRange) (pair other : ℤ × ℤ) (less : Bool)
    → less ≡ int_le (pair.0 *ℤ other.1) (other.0 *ℤ pair.1) → IsWithinWidths rows first → IsWithinWidths rows second
    → IsLeastPair road first (first_part box split) (Some pair) → IsLeastPair road second (second_part box split) (Some other)
    → IsLeastPair road (fork split first second) box (if less then Some pair else Some other)
lesser_least road rows split first second box pair other true e w v p q =
    let at : (pair.0 *ℤ other.1) ≤ℤ (other.0 *ℤ pair.1) = omega (arith, ints, e) in
    (p.0, (p.1, along_leaves road rows (over pair) (over other) second (second_part box split) p.0.scale.from_one q.0.scale.from_one at v q.1), inl p.2)
lesser_least road rows split first second box pair other false e w v p q =
    let at : (other.0 *ℤ pair.1) ≤ℤ (pair.0 *ℤ other.1) = omega (arith, ints, e) in
    (q.0, (along_leaves road rows (over other) (over pair) first (first_part box split) q.0.scale.from_one p.0.scale.from_one at w p.1, q.1), inr q.2)

pub fork_least : (road : Road) (rows : ℕ) (split : Split) (first second : BoxTree) (box : BoxRange) (least other : Option (ℤ × ℤ))
    → IsWithinWidths rows first → IsWithinWidths rows second
    → IsLeastPair road first (first_part box split) least → IsLeastPair road second (second_part box split) other
    → IsLeastPair road (fork split first second) box (lesser least other)
fork_least road rows split first second box None None w v p q = both_false (has_low first) (has_low second) p q
fork_least road rows split first second box None (Some other) w v p q = (q.0, (at_most_none road (over other) first (first_part box split) p, q.1), inr q.2)
fork_least road rows split first second box (Some pair) None w v p q = (p.0, (p.1, at_most_none road (over pair) second (second_part box split) q), inl p.2)
fork_least road rows split first second box (Some pair) (Some other) w v p q =
    lesser_least road rows split first second box pair other (int_le (pair.0 *ℤ other.1) (other.0 *ℤ pair.1)) refl w v p q

pub split_least : (road : Road) (rows : ℕ) (split : Split) (first second : BoxTree) (box one two : BoxRange) (least other : Option (ℤ × ℤ))
    → AreParts road box split (Some (one, two)) → IsWithinWidths rows (fork split first second)
    → IsLeastPair road first one least → IsLeastPair road second two other → IsLeastPair road (fork split first second) box (lesser least other)
split_least road rows split first second box one two least other parts w p q =
    let first_is = ap (λ (r : BoxRange × BoxRange). r.0) parts.1 in
    let second_is = ap (λ (r : BoxRange × BoxRange). r.1) parts.1 in
    fork_least road rows split first second box least other w.0 w.1
    (subst (λ (x : BoxRange). IsLeastPair road first x least) first_is p)
    (subst (λ (x : BoxRange). IsLeastPair road second x other) second_is q)

pub key_or_none : (road : Road) (tree : BoxTree) (box : BoxRange) (least : Option (ℤ × ℤ)) → IsLeastPair road tree box least → IsKeyOrNone least
key_or_none road tree box None h = tt
key_or_none road tree box (Some pair) h = h.0

-- ---- in lowest terms

pub fraction_found : (pair : ℤ × ℤ) (result : Option Fraction) → IsKey pair
    → (pair.1 ≢ pos 0 → unsigned_abs pair.0 < 2 ^ 127 → unsigned_abs pair.1 < 2 ^ 127 → IsSome result)
    → IfSome result (λ f. HasValue f pair.0 pair.1) → IfSome result IsReduced → IsFractionOf pair result
fraction_found pair None key some value reduced =
    let one = key.scale.from_one in
    let scale = unsigned_abs_le pair.1 greatest_scale (omega (arith, ints, one)) key.scale.at_most in
    let within = key.value in
    absurd (false≢true (some (λ e. omega (arith, ints, one, e)) (omega arith) (omega arith)))
fraction_found pair (Some f) key some value reduced = (reduced, value)

pub key_of : (road : Road) (tree : BoxTree) (box : BoxRange) (pair : ℤ × ℤ) → IsLeastPair road tree box (Some pair) → IsKey pair
key_of road tree box pair h = h.0

pub least_fraction : (road : Road) (rows : ℕ) (tree : BoxTree) (box : BoxRange) (pair : ℤ × ℤ) (result : Option Fraction) → IsWithinWidths rows tree
    → IsLeastPair road tree box (Some pair) → IsFractionOf pair result → IsLeastOfLeaves road tree box result
least_fraction road rows tree box pair None w h f = absurd f
least_fraction road rows tree box pair (Some bound) w h f =
    let lowest = f.0.lowest in
    let same = f.1.same in
    let less : (bound.num *ℤ pair.1) ≤ℤ (pair.0 *ℤ bound.den) = omega (arith, ints, same) in
    (lowest, along_leaves road rows bound (over pair) tree box lowest.positive h.0.scale.from_one less w h.1, same_leaf road bound (over pair) tree box f.1.defined same h.2)

-- ---- the tree as it is stored

pub split_tree : (tree : Tree) (split : Split) (first second : Tree) → tree ≡ split_node split first second
    → box_tree_of tree ≡ fork split (box_tree_of first) (box_tree_of second)
split_tree tree split first second e =
    ap box_tree_of e ∙ ap box_tree_of (sym (rolls-Split split first second)) ∙ fold-roll-Tree BoxTree box_node_of (Tree-F.Split split first second)
