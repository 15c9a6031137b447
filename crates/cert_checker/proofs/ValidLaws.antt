-- Nothing is refused in a certificate exactly where it is valid, and what a valid one states is proved.
use Rattle.std.proofs.Common.{◌≡◌, ◌↔◌, inl, inr, ℕ, ℤ, pos, zero, suc, ◌+◌, ◌*ℤ◌, ◌≤ℤ◌, ◌<ℤ◌, ◌||◌, ◌&&◌, int_lt, if◌then◌else◌, Bool, true, false, IsTrue, Option, Some, None, List, [], ◌∷◌, All, refl, sym, ap, subst, ◌∙◌, arith}
use Rattle.std.proofs.lemmas.Int.{ints}
use Rattle.std.proofs.lemmas.Bool.{cases_Bool, cond-true, cond-false}
use Rattle.std.proofs.lemmas.List.Elements.{All-nil, All-cons, All-head, All-tail}
use Rattle.algebra.specs.Scale.{IsScale}
use Rattle.term_store.specs.declared.side.Side.{Side}
use Rattle.term_store.specs.declared.side.Side.TheVariants.{Equal, AtLeast}
use Rattle.numbers.specs.Fractions.{Fraction, IsReduced, HasValue}
use Rattle.programs.specs.Programs.{Program, row_at, row_count}
use Rattle.safe_bounds.proofs.SparseLemmas.{signs-dense, signs_of_pairs}
use Rattle.road_types.specs.declared.road.Road.{Road}
use Rattle.road_types.specs.RoadPrograms.{row_count as road_row_count}
use Rattle.milp_builder.specs.BoxPrograms.{box_program}
use Rattle.milp_builder.specs.Parts.{first_part, second_part}
use Rattle.milp_builder.specs.declared.boxes.BoxRange.{BoxRange}
use Rattle.cert_tree.specs.Trees.{BoxTree, low, dead, fork, AreMultipliersBehind}
use Rattle.cert_tree.specs.Soundness.{told_value, AreSound, IsSoundLow, IsSoundDead, IsSound, IsAtLeastBound, has_low}
use Rattle.cert_text.specs.NodeText.{IsSpelledTree}
use Rattle.cert_checker.specs.declared.refusal.Refusal.{Refusal}
use Rattle.cert_checker.specs.declared.refusal.CertRule.{CertRule}
use Rattle.cert_checker.specs.Refusals.{refused, first_of, is_at_least, has_wrong_sign, sign_refusal, bound_refusal, value_refusal, low_refusal, dead_refusal, line_count, FindsNext, IsTreeRefusal}
use Rattle.cert_tree.proofs.LeafLemmas.{box_rows, rises_by_row}

pub is_value_of : (stated value : Fraction) (num den : ℤ) (same : Bool) → IsReduced stated → (IsTrue same ↔ (stated ≡ value)) → HasValue value num den → ((other : Fraction) → IsReduced other → HasValue other num den → other ≡ value) → IsTrue same ↔ HasValue stated num den
is_value_of stated value num den same r e v one =
    (λ t. subst (λ f. HasValue f num den) (sym (e.0 t)) v, λ h. e.1 (one stated r h))

-- ---- leaves

pub first_none : (a b : Option Refusal) → None ≡ first_of a b → (a ≡ None) × (b ≡ None)
first_none None b e = (refl, sym e)
first_none (Some refusal) b e = cc

pub none_first : (a b : Option Refusal) → a ≡ None → b ≡ None → first_of a b ≡ None
none_first a b p q = ap (λ x. first_of x b) p ∙ q

-- a choice of a refusal that is none
not_refused : (test : Bool) (rule : CertRule) (line : ℕ) → (if test then refused rule line else None) ≡ None → test ≡ false
not_refused true rule line e = cc
not_refused false rule line e = refl

-- a sign is right where it isn't wrong
right_of : (program : Program) (mult : ℕ × ℤ) → has_wrong_sign program mult ≡ false → (row_at program mult.0).side ≡ AtLeast → pos 0 ≤ℤ mult.1
unfolding has_wrong_sign
right_of program mult e side =
    let below : int_lt mult.1 (pos 0) ≡ false = sym (ap (λ (s : Side). is_at_least s && int_lt mult.1 (pos 0)) side) ∙ e in
    omega (arith, ints, below)

right_signs : (program : Program) (line : ℕ) (mults : List (ℕ × ℤ)) → sign_refusal program line mults ≡ None → All (λ p. (row_at program p.0).side ≡ AtLeast → pos 0 ≤ℤ p.1) mults
right_signs program line [] e = let P : ℕ × ℤ → Type 0 = λ p. (row_at program p.0).side ≡ AtLeast → pos 0 ≤ℤ p.1 in All-nil P
right_signs program line (mult ∷ mults) e =
    let P : ℕ × ℤ → Type 0 = λ p. (row_at program p.0).side ≡ AtLeast → pos 0 ≤ℤ p.1 in
    elim (cases_Bool (has_wrong_sign program mult)) [
      | inl yes' ↦ let bad = sym (cond-true _ _ _ yes') ∙ e in cc
      | inr no' ↦ All-cons P mult mults (right_of program mult no') (right_signs program (line + 1) mults (sym (cond-false _ _ _ no') ∙ e))
    ]

wrong_of : (program : Program) (mult : ℕ × ℤ) (side : Side) → (row_at program mult.0).side ≡ side → ((row_at program mult.0).side ≡ AtLeast → pos 0 ≤ℤ mult.1) → has_wrong_sign program mult ≡ false
unfolding has_wrong_sign
wrong_of program mult Equal is h = ap (λ (s : Side). is_at_least s && int_lt mult.1 (pos 0)) is
wrong_of program mult AtLeast is h =
    let from = h is in
    let below : false ≡ int_lt mult.1 (pos 0) = omega (arith, ints, from) in
    ap (λ (s : Side). is_at_least s && int_lt mult.1 (pos 0)) is ∙ sym below

no_sign_refusal : (program : Program) (line : ℕ) (mults : List (ℕ × ℤ)) → All (λ p. (row_at program p.0).side ≡ AtLeast → pos 0 ≤ℤ p.1) mults → sign_refusal program line mults ≡ None
no_sign_refusal program line [] h = refl
no_sign_refusal program line (mult ∷ mults) h =
    let P : ℕ × ℤ → Type 0 = λ p. (row_at program p.0).side ≡ AtLeast → pos 0 ≤ℤ p.1 in
    let here = wrong_of program mult (row_at program mult.0).side refl (All-head P mult mults h) in
    cond-false _ _ _ here ∙ no_sign_refusal program (line + 1) mults (All-tail P mult mults h)

pub are_sound : (road : Road) (box : BoxRange) (line : ℕ) (mults : List (ℕ × ℤ)) → AreMultipliersBehind (road_row_count road) 0 mults → sign_refusal (box_program road box) line mults ≡ None → AreSound road box mults
are_sound road box line mults h e = record {
  on_rows = subst (λ n. AreMultipliersBehind n 0 mults) (sym (box_rows road box)) h;
  right_signs = signs-dense (box_program road box) mults (right_signs (box_program road box) line mults e);
}

pub no_sign : (road : Road) (box : BoxRange) (line : ℕ) (mults : List (ℕ × ℤ)) → AreSound road box mults → sign_refusal (box_program road box) line mults ≡ None
no_sign road box line mults h =
    let program = box_program road box in
    no_sign_refusal program line mults (signs_of_pairs program mults (rises_by_row (row_count program) 0 mults (omega arith) h.on_rows) h.right_signs)

-- the bound is met where it isn't refused
bound_met : (bound : Option Fraction) (line : ℕ) (value scale : ℤ) → (bound ≡ None → ⊥) → bound_refusal bound line value scale ≡ None → IsAtLeastBound value scale bound
bound_met None line value scale some e = absurd (some refl)
bound_met (Some bound) line value scale some e =
    let test = not_refused (int_lt (value *ℤ bound.den) (bound.num *ℤ scale)) _ line e in
    omega (arith, ints, test)

met_bound : (bound : Option Fraction) (line : ℕ) (value scale : ℤ) → IsAtLeastBound value scale bound → bound_refusal bound line value scale ≡ None
met_bound None line value scale h = absurd h
met_bound (Some bound) line value scale h =
    let test : false ≡ int_lt (value *ℤ bound.den) (bound.num *ℤ scale) = omega (arith, ints, h) in
    cond-false _ _ _ (sym test)

pub value_met : (line : ℕ) (value : ℤ) → value_refusal line value ≡ None → pos 0 <ℤ value
value_met line value e = elim (cases_Bool (int_lt (pos 0) value)) [
  | inl yes' ↦ omega (arith, ints, yes')
  | inr no' ↦ let bad = sym (cond-false _ _ _ no') ∙ e in cc
]

pub met_value : (line : ℕ) (value : ℤ) → pos 0 <ℤ value → value_refusal line value ≡ None
met_value line value h = let test : true ≡ int_lt (pos 0) value = omega (arith, ints, h) in cond-true _ _ _ (sym test)

-- ---- trees

-- without a bound no leaf is low
abbrev pub StatesLow : Option Fraction → BoxTree → Type 0
StatesLow bound tree = bound ≡ None → has_low tree ≡ false

or_none : (a b : Bool) → (a || b) ≡ false → (a ≡ false) × (b ≡ false)
or_none true b e = cc
or_none false b e = (refl, e)

sound_low : (road : Road) (bound : Option Fraction) (scale : ℤ) (mults : List (ℕ × ℤ)) (box : BoxRange) (line : ℕ) → IsScale scale → AreMultipliersBehind (road_row_count road) 0 mults → (bound ≡ None → ⊥) → None ≡ low_refusal (box_program road box) bound line scale mults → IsSoundLow road bound box scale mults
unfolding low_refusal
sound_low road bound scale mults box line s m some e =
    let parts = first_none _ _ e in
    record {
      scale_within = s;
      mults_sound = are_sound road box line mults m parts.0;
      bounded = bound_met bound line (told_value (box_program road box) scale mults) scale some parts.1;
    }

sound_dead : (road : Road) (mults : List (ℕ × ℤ)) (box : BoxRange) (line : ℕ) → AreMultipliersBehind (road_row_count road) 0 mults → None ≡ dead_refusal (box_program road box) line mults → IsSoundDead road box mults
unfolding dead_refusal
sound_dead road mults box line m e =
    let parts = first_none _ _ e in
    record {
      mults_sound = are_sound road box line mults m parts.0;
      above_zero = value_met line (told_value (box_program road box) (pos 0) mults) parts.1;
    }

true_not_false : true ≡ false → ⊥
true_not_false e = cc

-- a tree in which nothing is refused is sound
pub sound_tree : (road : Road) (bound : Option Fraction) (levels : ℕ) (tree : BoxTree) (box : BoxRange) (line : ℕ) → IsSpelledTree (road_row_count road) levels tree → StatesLow bound tree → IsTreeRefusal road bound tree box line None → IsSound road bound tree box
sound_tree road bound zero tree box line t s r = absurd t
sound_tree road bound (suc levels) (low scale mults cause) box line t s r =
    sound_low road bound scale mults box line t.0 t.1 (λ none. true_not_false (s none)) r
sound_tree road bound (suc levels) (dead mults) box line t s r = sound_dead road mults box line t r
sound_tree road bound (suc levels) (fork split first second) box line t s (inl r) = let e = r.1 in cc
sound_tree road bound (suc levels) (fork split first second) box line t s (inr r) =
    let parts = both r.1.0 r.1.1.0 r.1.1.1 in (
      r.0,
      sound_tree road bound levels first (first_part box split) (line + 1) t.1 (λ none. (or_none (has_low first) (has_low second) (s none)).0) parts.0,
      sound_tree road bound levels second (second_part box split) (line + 1 + line_count first) t.2 (λ none. (or_none (has_low first) (has_low second) (s none)).1) parts.1,
    )
  where
    both : (sooner : Option Refusal) → IsTreeRefusal road bound first (first_part box split) (line + 1) sooner → FindsNext sooner (IsTreeRefusal road bound second (second_part box split) (line + 1 + line_count first) None) None → IsTreeRefusal road bound first (first_part box split) (line + 1) None × IsTreeRefusal road bound second (second_part box split) (line + 1 + line_count first) None
    both None f g = (f, g)
    both (Some refusal) f g = cc

-- in a sound tree nothing is refused
pub sound_unrefused : (road : Road) (bound : Option Fraction) (tree : BoxTree) (box : BoxRange) (line : ℕ) (found : Option Refusal) → IsSound road bound tree box → IsTreeRefusal road bound tree box line found → found ≡ None
unfolding low_refusal dead_refusal
sound_unrefused road bound (low scale mults cause) box line found h r =
    r ∙ none_first _ _ (no_sign road box line mults h.mults_sound) (met_bound bound line (told_value (box_program road box) scale mults) scale h.bounded)
sound_unrefused road bound (dead mults) box line found h r =
    r ∙ none_first _ _ (no_sign road box line mults h.mults_sound) (met_value line (told_value (box_program road box) (pos 0) mults) h.above_zero)
sound_unrefused road bound (fork split first second) box line found h (inl r) = absurd (r.0 h.0)
sound_unrefused road bound (fork split first second) box line found h (inr r) =
    let one = sound_unrefused road bound first (first_part box split) (line + 1) r.1.0 h.1 r.1.1.0 in
    let next = subst (λ o. FindsNext o (IsTreeRefusal road bound second (second_part box split) (line + 1 + line_count first) found) found) one r.1.1.1 in
    sound_unrefused road bound second (second_part box split) (line + 1 + line_count first) found h.2 next
