-- The least ratio of a row, found term by term.
use Rattle.std.proofs.Common.{◌≡◌, ℕ, ◌+◌, ◌*◌, ◌≤◌, ◌<◌, ◌⊎◌, inl, inr, List, length, get_or, Bool, true, false, arith, ap, sym, ◌∙◌, refl, subst, ⊎_elim}
use Rattle.std.specs.Prelude.{ℤ, pos, ◌≢◌, unsigned_abs}
use Rattle.std.proofs.lemmas.Int.{ints}
use Rattle.std.proofs.Math.Nat.{mul-le-mul_right}
use Rattle.term_store.specs.declared.term.Term.{Term}
use Rattle.tableau.specs.Signs.{IsSameSign, IsOppositeSign}
use Rattle.tableau.specs.Exchanges.{IsToward}
use Rattle.tableau.specs.declared.bound.Bound.{Bound}
use Rattle.tableau.specs.declared.bound.Bound.TheVariants.{Lower, Upper}
use Rattle.sparse_rows.specs.Lines.{entry_of, IsLine}
use Rattle.sparse_rows.proofs.LinesLemmas.{IsRest, rest_none, rest_taken, next_from, next_end, next_entry, line_from, none_left, entry_below}
use Rattle.simplex.specs.inside.Choices.{MayEnter, IsAtMost, IsChosen}

same_or_not : (i k : ℕ) → (i ≡ k) ⊎ (i ≢ k)
same_or_not i k = grind arith

lt_or_le : (a b : ℕ) → (a < b) ⊎ (b ≤ a)
lt_or_le a b = grind arith

-- an entry that moves towards a bound isn't 0
pub toward_some : (b : Bound) (high : Bool) (entry basic : ℤ) → IsToward b high entry basic → entry ≢ pos 0
toward_some Lower true entry basic h z = same_some basic entry h z
  where
    same_some : (a c : ℤ) → IsSameSign a c → c ≢ pos 0
    same_some a c (inl p) z = let l = p.1 in omega (arith, ints)
    same_some a c (inr p) z = let l = p.1 in omega (arith, ints)
toward_some Lower false entry basic h z = opposite_some basic entry h z
  where
    opposite_some : (a c : ℤ) → IsOppositeSign a c → c ≢ pos 0
    opposite_some a c (inl p) z = let l = p.1 in omega (arith, ints)
    opposite_some a c (inr p) z = let l = p.1 in omega (arith, ints)
toward_some Upper true entry basic h z = opposite_some basic entry h z
  where
    opposite_some : (a c : ℤ) → IsOppositeSign a c → c ≢ pos 0
    opposite_some a c (inl p) z = let l = p.1 in omega (arith, ints)
    opposite_some a c (inr p) z = let l = p.1 in omega (arith, ints)
toward_some Upper false entry basic h z = same_some basic entry h z
  where
    same_some : (a c : ℤ) → IsSameSign a c → c ≢ pos 0
    same_some a c (inl p) z = let l = p.1 in omega (arith, ints)
    same_some a c (inr p) z = let l = p.1 in omega (arith, ints)

-- a ratio less than one that is at most a third, by cross products
pub less_chained : (zn wn zb wb zj wj : ℕ) → 0 < wb → 0 < wj → zn * wb < zb * wn → zb * wj ≤ zj * wb → zn * wj < zj * wn
less_chained zn wn zb wb zj wj b_some j_some less least = ⊎_elim
    (λ (l : zn * wj < zj * wn). l)
    (λ (l : zj * wn ≤ zn * wj).
    let one = mul-le-mul_right wb l in
    let step : zn * wb + 1 ≤ zb * wn = omega arith in
    let two = mul-le-mul_right wj step in
    let three = mul-le-mul_right wn least in
    absurd (closes zn wn zb wb zj wj j_some one two three))
    (lt_or_le (zn * wj) (zj * wn))
  where
    closes : (zn wn zb wb zj wj : ℕ) → 0 < wj → zj * wn * wb ≤ zn * wj * wb → (zn * wb + 1) * wj ≤ zb * wn * wj → zb * wj * wn ≤ zj * wb * wn → ⊥
    closes zn wn zb wb zj wj some p q r = omega arith

same_less : (a' a b' b c' c d' d : ℕ) → a' ≡ a → b' ≡ b → c' ≡ c → d' ≡ d → a' * b' < c' * d' → a * b < c * d
same_less a' a b' b c' c d' d e f g i less = subst (λ (x : ℕ). x * b < c * d) e (subst (λ (x : ℕ). a' * x < c * d) f (subst (λ (x : ℕ). a' * b' < x * d) g (subst (λ (x : ℕ). a' * b' < c' * x) i less)))

zero_less : (a b c d : ℕ) → b ≡ 0 → c ≡ 1 → 0 < d → a * b < c * d
zero_less a b c d e f l = subst (λ (x : ℕ). a * x < c * d) (sym e) (subst (λ (x : ℕ). a * 0 < x * d) (sym f) (omega arith))

at_most : (x y : ℕ) → (x < y → ⊥) → y ≤ x
at_most x y no_lt = ⊎_elim (λ (p : x < y). absurd (no_lt p)) (λ (p : y ≤ x). p) (lt_or_le x y)

same_at_most : (a' a b' b c' c d' d : ℕ) → a' ≡ a → b' ≡ b → c' ≡ c → d' ≡ d → a' * b' ≤ c' * d' → a * b ≤ c * d
same_at_most a' a b' b c' c d' d e f g i l = subst (λ (x : ℕ). x * b ≤ c * d) e (subst (λ (x : ℕ). a' * x ≤ c * d) f (subst (λ (x : ℕ). a' * b' ≤ x * d) g (subst (λ (x : ℕ). a' * b' ≤ c' * x) i l)))

module _ {A : Type 0} (f : A → ℤ) (row costs : List (Term A)) (basic : ℕ) (low high : List A) (has_high at_high : List Bool) (broken : Bound) where
  abbrev pub Enters : ℕ → Type 0
  Enters j = MayEnter f row basic low high has_high at_high broken j

  -- the best of the columns before the rest of the row; where there is none yet it is 0, with the ratio 1 over 0
  pub record IsBest (end a best : ℕ) (cost entry : ℤ) : Type 0 where
    pub from : ℕ
    pub first : 1 ≤ from
    pub left : IsRest f row a from end
    pub before : best < from
    pub none : best ≡ 0 → (cost ≡ pos 1) × ((entry ≡ pos 0) × ((j : ℕ) → j < from → Enters j → ⊥))
    pub some : best ≢ 0 → Enters best × ((cost ≡ entry_of f costs best) × (entry ≡ entry_of f row best))
    pub least : best ≢ 0 → (j : ℕ) → j < from → Enters j → IsAtMost f row basic low high has_high at_high costs best j
    pub earliest : best ≢ 0 → (j : ℕ) → j < from → Enters j → IsAtMost f row basic low high has_high at_high costs j best → best ≤ j

  size_some : (j : ℕ) → Enters j → 0 < unsigned_abs (entry_of f row j)
  size_some j h = some_size (entry_of f row j) (toward_some broken (get_or at_high j false) (entry_of f row j) (entry_of f row basic) h.toward)
    where
      some_size : (z : ℤ) → z ≢ pos 0 → 0 < unsigned_abs z
      some_size z some = omega (arith, ints)

  no_entry : (j : ℕ) → entry_of f row j ≡ pos 0 → Enters j → ⊥
  no_entry j e h = toward_some broken (get_or at_high j false) (entry_of f row j) (entry_of f row basic) h.toward e

  pub best_none : (end : ℕ) (cost entry : ℤ) → IsLine f 1 end row → cost ≡ pos 1 → entry ≡ pos 0 → IsBest end 0 0 cost entry
  best_none end cost entry line c e = record {
    from = 1;
    first = omega arith;
    left = record { line = line; same = λ j l. refl };
    before = omega arith;
    none = λ _. (c, (e, λ j l h. no_entry j (entry_under j l) h));
    some = λ z. absurd (z refl);
    least = λ z. absurd (z refl);
    earliest = λ z. absurd (z refl);
  }
    where
      entry_under : (j : ℕ) → j < 1 → entry_of f row j ≡ pos 0
      entry_under j l = entry_below f 1 end j row line l

  module _ (end a best : ℕ) (cost entry : ℤ) (h : IsBest end a best cost entry) (t : Term A) (l : a < length row) (e : t ≡ get_or row a t) where
    t_from : h.from ≤ t.column
    t_from = next_from f row a h.from end h.left t l e

    pub t_end : t.column < end
    t_end = next_end f row a h.from end h.left t l e

    pub t_entry : entry_of f row t.column ≡ f t.value
    t_entry = next_entry f row a h.from end h.left t l e

    between : (j : ℕ) → h.from ≤ j → j < t.column → Enters j → ⊥
    between j low high = no_entry j (rest_none f row a h.from end t.column h.left (line_from f row a h.from end h.left t l e t.column (omega arith)) j low high)

    next_rest : IsRest f row (a + 1) (t.column + 1) end
    next_rest = rest_taken f row a h.from end h.left t l e

    -- each column up to this one lay before, may not enter, or is this one
    cases_up_to : (j : ℕ) → j < t.column + 1 → (j < h.from) ⊎ ((Enters j → ⊥) ⊎ (j ≡ t.column))
    cases_up_to j m = ⊎_elim
        (λ (p : j < h.from). inl p)
        (λ (p : h.from ≤ j). ⊎_elim
        (λ (q : j < t.column). inr (inl (between j p q)))
        (λ (q : t.column ≤ j). inr (inr (omega arith)))
        (lt_or_le j t.column))
        (lt_or_le j h.from)

    -- the column may not enter
    pub best_skipped : (Enters t.column → ⊥) → IsBest end (a + 1) best cost entry
    best_skipped not_here = record {
      from = t.column + 1;
      first = omega arith;
      left = next_rest;
      before = (let p = t_from in let q = h.before in omega arith);
      none = λ z. let n = h.none z in (
        n.0,
        (
          n.1.0,
          λ j m enters. elim (cases_up_to j m) [
            | inl p ↦ n.1.1 j p enters
            | inr w ↦ elim w [ inl p ↦ p enters | inr p ↦ not_here (subst (λ (x : ℕ). Enters x) p enters) ]
          ],
        ),
      );
      some = h.some;
      least = λ z j m enters. elim (cases_up_to j m) [
        | inl p ↦ h.least z j p enters
        | inr w ↦ elim w [ inl p ↦ absurd (p enters) | inr p ↦ absurd (not_here (subst (λ (x : ℕ). Enters x) p enters)) ]
      ];
      earliest = λ z j m enters at_most. elim (cases_up_to j m) [
        | inl p ↦ h.earliest z j p enters at_most
        | inr w ↦ elim w [ inl p ↦ absurd (p enters) | inr p ↦ absurd (not_here (subst (λ (x : ℕ). Enters x) p enters)) ]
      ];
    }

    -- the column may enter, and is compared with the best one
    module _ (enters : Enters t.column) (cost_here : ℤ) (is_cost : cost_here ≡ entry_of f costs t.column) where
      here_some : 0 < unsigned_abs (entry_of f row t.column)
      here_some = size_some t.column enters

      -- it is less
      pub best_replaced : unsigned_abs cost_here * unsigned_abs entry < unsigned_abs cost * unsigned_abs (f t.value) → IsBest end (a + 1) t.column cost_here (f t.value)
      best_replaced less = record {
        from = t.column + 1;
        first = omega arith;
        left = next_rest;
        before = omega arith;
        none = λ z. let p = t_from in let q = h.first in absurd (omega arith);
        some = λ _. (enters, (is_cost, sym t_entry));
        least = λ _ j m other. elim (cases_up_to j m) [
          | inl p ↦ let s = strictly j p other in omega arith
          | inr w ↦ elim w [ inl p ↦ absurd (p other) | inr p ↦ let P : ℕ → Type 0 = λ x. IsAtMost f row basic low high has_high at_high costs t.column x in subst P (sym p) (omega arith) ]
        ];
        earliest = λ _ j m other at_most. elim (cases_up_to j m) [
          | inl p ↦ let s = strictly j p other in absurd (omega arith)
          | inr w ↦ elim w [ inl p ↦ absurd (p other) | inr p ↦ omega arith ]
        ];
      }
        where
          strictly : (j : ℕ) → j < h.from → Enters j → unsigned_abs (entry_of f costs t.column) * unsigned_abs (entry_of f row j) < unsigned_abs (entry_of f costs j) * unsigned_abs (entry_of f row t.column)
          strictly j p other = ⊎_elim
              (λ (z : best ≡ 0). absurd ((h.none z).1.1 j p other))
              (λ (z : best ≢ 0).
              let s = h.some z in
              let c = ap unsigned_abs is_cost in
              let v = ap unsigned_abs t_entry in
              let bc = ap unsigned_abs s.1.0 in
              let be = ap unsigned_abs s.1.1 in
              less_chained (unsigned_abs (entry_of f costs t.column)) (unsigned_abs (entry_of f row t.column)) (unsigned_abs (entry_of f costs best)) (unsigned_abs (entry_of f row best)) (unsigned_abs (entry_of f costs j)) (unsigned_abs (entry_of f row j))
              (size_some best s.0) (size_some j other)
              (same_less _ _ _ _ _ _ _ _ c be bc (sym v) less)
              (h.least z j p other))
              (same_or_not best 0)

      -- it isn't less
      pub best_kept : (unsigned_abs cost_here * unsigned_abs entry < unsigned_abs cost * unsigned_abs (f t.value) → ⊥) → IsBest end (a + 1) best cost entry
      best_kept not_less = record {
        from = t.column + 1;
        first = omega arith;
        left = next_rest;
        before = (let p = t_from in let q = h.before in omega arith);
        none = λ z. absurd (was_some z);
        some = h.some;
        least = λ z j m other. elim (cases_up_to j m) [
          | inl p ↦ h.least z j p other
          | inr w ↦ elim w [ inl p ↦ absurd (p other) | inr p ↦ let P : ℕ → Type 0 = λ x. IsAtMost f row basic low high has_high at_high costs best x in subst P (sym p) (no_less z) ]
        ];
        earliest = λ z j m other at_most. elim (cases_up_to j m) [
          | inl p ↦ h.earliest z j p other at_most
          | inr w ↦ elim w [ inl p ↦ absurd (p other) | inr p ↦ (let q = h.before in let r = t_from in omega arith) ]
        ];
      }
        where
          was_some : best ≡ 0 → ⊥
          was_some z =
              let n = h.none z in
              let c = ap unsigned_abs n.0 in
              let v = ap unsigned_abs n.1.0 in
              let w = ap unsigned_abs t_entry in
              let s = here_some in
              not_less (zero_less (unsigned_abs cost_here) (unsigned_abs entry) (unsigned_abs cost) (unsigned_abs (f t.value)) (v ∙ omega (arith, ints)) (c ∙ omega (arith, ints)) (omega arith))

          no_less : best ≢ 0 → unsigned_abs (entry_of f costs best) * unsigned_abs (entry_of f row t.column) ≤ unsigned_abs (entry_of f costs t.column) * unsigned_abs (entry_of f row best)
          no_less z =
              let s = h.some z in
              let c = ap unsigned_abs is_cost in
              let v = ap unsigned_abs t_entry in
              let bc = ap unsigned_abs s.1.0 in
              let be = ap unsigned_abs s.1.1 in
              same_at_most _ _ _ _ _ _ _ _ bc (sym v) c be (at_most _ _ not_less)

  -- the row is walked to its end
  module _ (end a best : ℕ) (cost entry : ℤ) (h : IsBest end a best cost entry) (l : length row ≤ a) where
    beyond_end : (j : ℕ) → h.from ≤ j → Enters j → ⊥
    beyond_end j m = no_entry j (none_left f row a h.from end j h.left l m)

    pub nothing_enters : best ≡ 0 → (j : ℕ) → Enters j → ⊥
    nothing_enters z j enters = ⊎_elim
        (λ (p : j < h.from). (h.none z).1.1 j p enters)
        (λ (p : h.from ≤ j). beyond_end j p enters)
        (lt_or_le j h.from)

    pub best_chosen : best ≢ 0 → IsChosen f row basic low high has_high at_high costs broken best
    best_chosen z = record {
      enters = (h.some z).0;
      least = λ j enters. ⊎_elim (λ (p : j < h.from). h.least z j p enters) (λ (p : h.from ≤ j). absurd (beyond_end j p enters)) (lt_or_le j h.from);
      first = λ j enters at_most. ⊎_elim (λ (p : j < h.from). h.earliest z j p enters at_most) (λ (p : h.from ≤ j). absurd (beyond_end j p enters)) (lt_or_le j h.from);
    }

pub toward_same : (b : Bound) (high : Bool) (entry entry' basic basic' : ℤ) → entry ≡ entry' → basic ≡ basic' → IsToward b high entry basic → IsToward b high entry' basic'
toward_same b high entry entry' basic basic' e f h = subst (λ (x : ℤ). IsToward b high x basic') e (subst (λ (x : ℤ). IsToward b high entry x) f h)
