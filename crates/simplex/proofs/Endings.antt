-- What a tableau's numbers show of the program: the optimal point, the ray of an empty row, and its scale and multipliers.
use Rattle.std.proofs.Common.{◌≡◌, ℕ, ◌+◌, ◌≤◌, List, [], length, get_or, false, Bool, true, arith, ap, sym, ◌∙◌, refl, subst, inl, inr}
use Rattle.std.specs.Prelude.{ℤ, pos, negsuc, neg_ℤ, ◌*ℤ◌, ◌≤ℤ◌, ◌<ℤ◌, ◌==◌, int_lt, nat_le, if◌then◌else◌, unsigned_abs}
use Rattle.std.proofs.lemmas.Int.{ints}
use Rattle.algebra.specs.Lists.{list_to}
use Rattle.algebra.specs.Numbered.{numbered}
use Rattle.algebra.proofs.NumberedLemmas.{all_from_numbers}
use Rattle.sparse_rows.proofs.Common.{entry_has}
use Rattle.algebra.proofs.ListsLemmas.{length-list_to}
use Rattle.algebra.proofs.Products.{int_mul_comm}
use Rattle.term_store.specs.declared.term.Term.{Term}
use Rattle.sparse_rows.specs.Lines.{entry_of}
use Rattle.programs.specs.Programs.{Program, column_count, row_count}
use Rattle.programs.specs.Points.{cost_of_point}
use Rattle.safe_bounds.specs.Values.{value_of, HasRightSigns}
use Rattle.tableau.specs.Programs.{Given}
use Rattle.tableau.specs.Tableaux.{Tableau, IsStart, basic_entry}
use Rattle.tableau.specs.Ends.{IsOptimal, IsEmptyRow, IsLeastDenominator, IsPointOfTableau, turned_by, ray, multiplier}
use Rattle.tableau.specs.OwnNumbers.{scale_of, multipliers_of, ray_of}
use Rattle.tableau.specs.Exchanges.{IsGood}
use Rattle.tableau.specs.Operations.{IsOutOfRange, IsWideNumber}
use Rattle.tableau.specs.declared.bound.Bound.{Bound}
use Rattle.tableau.specs.declared.exchange.Exchange.{Exchange}
use Rattle.tableau.specs.declared.op.Op.{Op}
use Rattle.tableau.specs.declared.op.Op.TheVariants.{Value}
use Rattle.tableau.proofs.EndsLemmas.{ray_dead, ray_signs, point_zeros, point_cost, point_in_bounds}
use Rattle.tableau.proofs.TrailsLemmas.{after_none}
use Rattle.simplex.specs.Givens.{given_of}
use Rattle.simplex.specs.States.{State, tableau_of, KeepsLaws}
use Rattle.simplex.specs.Ends.{IsReached, AreOwnNumbers, IsOptimum, IsDead, IsSpent, IsWide, AreWithin, HasNumbersWithin}
use Rattle.simplex.specs.declared.lp_end.LpEnd.{LpEnd}
use Rattle.simplex.specs.declared.lp_end.LpEnd.TheVariants.{Best, Empty, Pivots, Wide}
use Rattle.simplex.specs.inside.OwnOptima.{IsOwnOptimum}
use Rattle.simplex.specs.inside.Slacks.{AreSlacks}
use Rattle.simplex.proofs.Bridges.{numbered_list, is_list, value_is_dual, right_signs_of, cost_same, point_of_program}
use Rattle.simplex.proofs.Denominators.{coordinates, point_over}

module _ {A : Type 0} (f : A → ℤ) (s : State A) (h : KeepsLaws f s) where
  -- ---- scale and multipliers

  pub own_numbers : (scale : ℤ) (mults : List ℤ) → scale ≡ (tableau_of f s).entry 0 0 → AreSlacks (column_count s.program) (row_count s.program) false ((tableau_of f s).entry 0) mults
      → AreOwnNumbers s.program (tableau_of f s) scale mults
  own_numbers scale mults e slacks =
      let is = is_list (pos 0) mults (multiplier (tableau_of f s)) (row_count s.program) slacks.count slacks.each in
      record {
        own_scale = e;
        own_mults = is;
        scale_from_one = subst (λ (z : ℤ). pos 1 ≤ℤ z) (sym e) h.laws.rows.scale;
        right_signs = right_signs_of s.program scale mults (multiplier (tableau_of f s)) is
            (λ i first last has. h.laws.signs.slacks (column_count s.program + i) (omega arith) (omega arith) has);
      }

  -- ---- the ray of an empty row

  module _ (row : ℕ) (broken : Bound) (empty : IsEmptyRow (tableau_of f s) row broken) (numbers : List ℤ) (own : numbers ≡ ray_of (tableau_of f s) row broken) where
    pub ray_has_signs : HasRightSigns s.program numbers
    ray_has_signs = right_signs_of s.program (pos 0) numbers (ray (tableau_of f s) row broken) own
        (λ i first last has. ray_signs (tableau_of f s) h.laws h.ordered row broken empty i first last has)

    pub ray_above : pos 0 <ℤ value_of s.program (pos 0) numbers
    ray_above = subst (λ (z : ℤ). pos 0 <ℤ z) (sym (value_is_dual s.program (pos 0) numbers (ray (tableau_of f s) row broken) own)) (ray_dead (tableau_of f s) h.laws h.ordered row broken empty)

  pub own_ray : (row : ℕ) (broken : Bound) (turns : Bool) (numbers : List ℤ) → AreSlacks (column_count s.program) (row_count s.program) turns ((tableau_of f s).entry row) numbers
      → ((z : ℤ) → turned_by broken (basic_entry (tableau_of f s) row) z ≡ (if turns then (neg_ℤ z) else z)) → numbers ≡ ray_of (tableau_of f s) row broken
  own_ray row broken turns numbers slacks turning =
      is_list (pos 0) numbers (ray (tableau_of f s) row broken) (row_count s.program) slacks.count
      (λ i first last. slacks.each i first last ∙ sym (turning ((tableau_of f s).entry row (column_count s.program + i))))

  -- ---- the optimal point

  pub own_optimum : (den : ℤ) (point : List ℤ) → IsOptimal (tableau_of f s) → IsLeastDenominator (tableau_of f s) (row_count s.program) den → length point ≡ column_count s.program
      → ((x : ℕ → ℤ) → IsPointOfTableau (tableau_of f s) den x → (j : ℕ) → 1 ≤ j → j ≤ column_count s.program → numbered (pos 0) point j ≡ x j)
      → IsOwnOptimum s.program (tableau_of f s) den point
  own_optimum den point optimal least count each =
      let t = tableau_of f s in
      let x = coordinates (tableau_of f s) h.laws den least.clears in
      let stands = point_over (tableau_of f s) h.laws den least.clears in
      let shown = is_list (pos 0) point x (column_count s.program) count (each x stands) in
      let slacks = h.points x (point_zeros (tableau_of f s) h.laws h.ordered den x least.positive stands) in
      let bounds = point_in_bounds (tableau_of f s) h.laws h.ordered den x least.positive stands optimal in
      let cost = point_cost (tableau_of f s) h.laws h.ordered den x least.positive stands slacks in
      record {
        own_point = record { least = least; at = x; stands = stands; shown = shown };
        den_from_one = (let p = least.positive in omega (arith, ints));
        meets = point_of_program s.program point x shown den slacks bounds;
        costs_value =
            int_mul_comm (cost_of_point s.program point) (scale_of (tableau_of f s))
            ∙ (ap (λ z. scale_of (tableau_of f s) *ℤ z) (cost_same s.program point x shown)
            ∙ (cost ∙ ap (λ z. z *ℤ den) (sym (value_is_dual s.program (scale_of (tableau_of f s)) (multipliers_of (tableau_of f s)) (multiplier (tableau_of f s)) refl))));
      }

-- ---- a program with a number out of range

-- the start, whether its numbers are in range or not
abbrev start_of : Given → Tableau
start_of g = record {
  given = g;
  entry = λ i j.
      if i == 0
      then (if j == 0 then pos 1 else (if nat_le j g.columns then g.cost j else pos 0))
      else (if j == 0 then pos 0 else (if nat_le j g.columns then g.coefficient i j else (if j == g.columns + i then negsuc 0 else pos 0)));
  basis = λ i. g.columns + i;
  at_high = λ j. if nat_le j g.columns then int_lt (g.cost j) (pos 0) else false;
}

start_is : (g : Given) → IsStart g (start_of g)
start_is g = record {
  given = refl;
  scale = refl;
  no_scale = λ i first last. grind arith;
  costs = λ j first last. grind arith;
  no_cost = λ k first last. grind arith;
  coefficients = λ i j i_first i_last first last. grind arith;
  slack = λ i first last. grind arith;
  other_slack = λ i k i_first i_last first last differ. grind arith;
  basis = λ i first last. refl;
  standing = λ j first last. grind arith;
  slacks_low = λ j first last. grind arith;
}

pub wide_at_start : (greatest : ℕ) (program : Program) (budget row col : ℕ) (mults : List ℤ) → IsWideNumber greatest (given_of program) row col → mults ≡ list_to (λ _. pos 0) (row_count program)
    → IsWide greatest program budget [] (Value row col) (pos 1) mults
wide_at_start greatest program budget row col mults wide zeros = record {
  past = record {
    tableau = start_of (given_of program);
    reached = record { within = omega arith; after = after_none (given_of program) (start_of (given_of program)) (start_is (given_of program)) };
    out_of_range = inr (refl, wide);
  };
  own = record {
    own_scale = refl;
    own_mults = is_list (pos 0) mults (multiplier (start_of (given_of program))) (row_count program) (ap length zeros ∙ length-list_to (λ _. pos 0) (row_count program))
        (λ i first last. ap (λ xs. numbered (pos 0) xs i) zeros ∙ (numbered_list (pos 0) (λ _. pos 0) (row_count program) i first last ∙ sym ((start_is (given_of program)).no_cost i first last)));
    scale_from_one = omega (arith, ints);
    right_signs = right_signs_of program (pos 1) mults (λ _. pos 0) zeros (λ i first last has. omega (arith, ints));
  };
}

-- entries at slacks, for equal numbers and rows
pub slacks_at : {A : Type 0} (f : A → ℤ) (columns columns' rows rows' : ℕ) (turns : Bool) (line line' : List (Term A)) (list : List ℤ) → columns ≡ columns' → rows ≡ rows' → line ≡ line'
    → AreSlacks columns rows turns (entry_of f line) list → AreSlacks columns' rows' turns (entry_of f line') list
slacks_at f columns columns' rows rows' turns line line' list d e p h =
    subst (λ (n : ℕ). AreSlacks n rows' turns (entry_of f line') list) d (subst (λ (n : ℕ). AreSlacks columns n turns (entry_of f line') list) e (subst (λ ts. AreSlacks columns rows turns (entry_of f ts) list) p h))

-- ---- the four ends

module _ (program : Program) (t : Tableau) (budget : ℕ) (trail : List Exchange) (scale : ℤ) (mults : List ℤ) (reached : IsReached program budget trail t) (own : AreOwnNumbers program t scale mults) where
  pub best_of : (den : ℤ) (point : List ℤ) → IsOptimal t → IsOwnOptimum program t den point → IsOptimum program budget trail den point scale mults
  best_of den point optimal h = record {
    tableau = t;
    reached = reached;
    optimal = optimal;
    own_point = h.own_point;
    own = own;
    den_from_one = h.den_from_one;
    meets = h.meets;
    costs_value =
        ap (λ z. cost_of_point program point *ℤ z) own.own_scale
        ∙ (h.costs_value
        ∙ (ap (λ z. value_of program z (multipliers_of t) *ℤ den) (sym own.own_scale)
        ∙ ap (λ ys. value_of program scale ys *ℤ den) (sym own.own_mults)));
  }

  pub dead_of : (row : ℕ) (broken : Bound) (numbers : List ℤ) → IsEmptyRow t row broken → numbers ≡ ray_of t row broken → HasRightSigns program numbers → pos 0 <ℤ value_of program (pos 0) numbers → IsDead program budget trail numbers scale mults
  dead_of row broken numbers empty is signs above = record {
    tableau = t;
    reached = reached;
    row = row;
    broken = broken;
    empty = empty;
    own_ray = is;
    ray_signs = signs;
    above = above;
    own = own;
  }

  pub spent_of : (swap : Exchange) → IsGood t swap → length trail ≡ budget → IsSpent program budget trail scale mults
  spent_of swap good spent = record {
    tableau = t;
    reached = reached;
    whole_budget = spent;
    row = swap.row;
    broken = good.0;
    is_row = good.1.row;
    outside = good.1.outside;
    own = own;
  }

  pub wide_of : (greatest : ℕ) (op : Op) → IsOutOfRange greatest t op → IsWide greatest program budget trail op scale mults
  wide_of greatest op out = record { past = record { tableau = t; reached = reached; out_of_range = inl out }; own = own }

-- entries at slacks are numbers of the type, or their opposites
pub slacks_within : {A : Type 0} (f : A → ℤ) (greatest : ℕ) (law : (x : A) → unsigned_abs (f x) ≤ greatest) (columns rows : ℕ) (turns : Bool) (line : List (Term A)) (list : List ℤ)
    → AreSlacks columns rows turns (entry_of f line) list → AreWithin greatest list
slacks_within f greatest law columns rows turns line list h =
    all_from_numbers (λ y. unsigned_abs y ≤ greatest) (pos 0) list
    (λ i number. subst (λ (z : ℤ). unsigned_abs z ≤ greatest) (sym (h.each i number.from_one (let l = number.at_most in let e = h.count in omega arith))) (either turns (entry_of f line (columns + i)) (small (columns + i))))
  where
    small : (j : ℕ) → unsigned_abs (entry_of f line j) ≤ greatest
    small j = entry_has f (λ x. unsigned_abs x ≤ greatest) line j (omega (arith, ints)) (λ k d l. law (get_or line k d).value)

    either : (b : Bool) (z : ℤ) → unsigned_abs z ≤ greatest → unsigned_abs (if b then (neg_ℤ z) else z) ≤ greatest
    either true z l = omega (arith, ints)
    either false z l = l

wider : (small big : ℕ) (numbers : List ℤ) → small ≤ big → AreWithin small numbers → AreWithin big numbers
wider small big numbers l h = λ k d m. let n = h k d m in omega arith

-- numbers of a narrow range are within a wider one
pub within_wider : (small big : ℕ) (end : LpEnd) → small ≤ big → HasNumbersWithin small end → HasNumbersWithin big end
within_wider small big (Best trail den point scale mults) l h = wider small big mults.items l h
within_wider small big (Empty trail numbers scale mults) l h = (wider small big numbers.items l h.0, wider small big mults.items l h.1)
within_wider small big (Pivots trail scale mults rough) l h = wider small big mults.items l h
within_wider small big (Wide trail op scale mults rough) l h = wider small big mults.items l h

pub zeros_within : (greatest count : ℕ) (list : List ℤ) → list ≡ list_to (λ _. pos 0) count → AreWithin greatest list
zeros_within greatest count list e =
    all_from_numbers (λ y. unsigned_abs y ≤ greatest) (pos 0) list
    (λ i number.
    let l = number.at_most in
    let n = ap length e ∙ length-list_to (λ _. pos 0) count in
    subst (λ (z : ℤ). unsigned_abs z ≤ greatest) (sym (ap (λ xs. numbered (pos 0) xs i) e ∙ numbered_list (pos 0) (λ _. pos 0) count i number.from_one (omega arith))) (omega (arith, ints)))
