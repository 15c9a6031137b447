-- Common divisors of many numbers, and rows divided by them.
use Rattle.std.proofs.Common.{◌≡◌, ℕ, zero, suc, ◌+◌, ◌*◌, ◌≤◌, ◌<◌, ◌⊎◌, List, [], ◌∷◌, ◌++◌, length, get_or, take, arith, ap, sym, ◌∙◌, refl, subst, ⊎_elim, true, false, cond}
use Rattle.std.specs.Prelude.{ℤ, pos, neg_ℤ, int_lt, ◌≢◌, ◌*ℤ◌, ◌<ℤ◌, ◌≤ℤ◌, unsigned_abs}
use Rattle.std.specs.List.{All}
use Rattle.std.proofs.lemmas.Int.{ints, unsigned_abs-mul}
use Rattle.std.proofs.lemmas.List.{length-take, take-take, take_all, get_or-take}
use Rattle.std.proofs.lemmas.List.Elements.{All-nil, All-take, All-more, All-weaker}
use Rattle.std.proofs.Math.Nat.{mul-le-mul_right}
use Rattle.algebra.proofs.Products.{int_mul_assoc, int_mul_neg}
use Rattle.algebra.proofs.Order.{int_eq_of_mul_left, int_lt_or_le}
use Rattle.numbers.specs.Divisors.{Divides, IsGreatestCommonDivisor}
use Rattle.numbers.proofs.DivisorsLemmas.{has_gcd, divides_trans, divides_zero, one_divides, greatest_of_magnitudes}
use Rattle.term_store.specs.declared.term.Term.{Term}
use Rattle.sparse_rows.specs.Lines.{entry_of, IsLine}
use Rattle.sparse_rows.specs.Cells.{IsCommonDivisor, AreFactors}
use Rattle.sparse_rows.proofs.LinesLemmas.{same_or_not}

zero_or_not : (z : ℤ) → (z ≡ pos 0) ⊎ (z ≢ pos 0)
zero_or_not z = grind (arith, ints)

cancel : (h m a : ℤ) → h ≢ pos 0 → Divides (h *ℤ m) (h *ℤ a) → Divides m a
cancel h m a some d = (d.0, int_eq_of_mul_left a (m *ℤ d.0) h some (d.1 ∙ int_mul_assoc h m d.0))

-- what divides the h-fold of both divides the h-fold of their greatest common divisor
pub gcd_scaled : (a b g h d : ℤ) → IsGreatestCommonDivisor a b g → Divides d (h *ℤ a) → Divides d (h *ℤ b) → Divides d (h *ℤ g)
gcd_scaled a b g h d is p q = ⊎_elim
    (λ (e : h ≡ pos 0). let P : ℤ → Type 0 = λ x. Divides d x in let z : h *ℤ g ≡ pos 0 = ap (λ x. x *ℤ g) e ∙ omega (arith, ints) in subst P (sym z) (divides_zero d))
    (λ (some : h ≢ pos 0).
    let n = has_gcd (unsigned_abs (h *ℤ a)) (unsigned_abs (h *ℤ b)) in
    let whole = greatest_of_magnitudes (h *ℤ a) (h *ℤ b) n.0 n.1 in
    let m = whole.greatest h (a, refl) (b, refl) in
    let P : ℤ → ℤ → Type 0 = λ x y. Divides x y in
    let left = cancel h m.0 a some (subst (λ (x : ℤ). Divides x (h *ℤ a)) m.1 whole.divides_left) in
    let right = cancel h m.0 b some (subst (λ (x : ℤ). Divides x (h *ℤ b)) m.1 whole.divides_right) in
    let k = is.greatest m.0 left right in
    let all : Divides (h *ℤ m.0) (h *ℤ g) = (k.0, ap (λ x. h *ℤ x) k.1 ∙ sym (int_mul_assoc h m.0 k.0)) in
    divides_trans d (pos n.0) (h *ℤ g) (whole.greatest d p q) (subst (λ (x : ℤ). Divides x (h *ℤ g)) (sym m.1) all))
    (zero_or_not h)

module _ {A : Type 0} (f : A → ℤ) where
  -- g is the greatest common divisor of the values of terms, for each multiple of them
  pub record IsGathered (terms : List (Term A)) (g : ℤ) : Type 0 where
    pub divides : All (λ t. Divides g (f t.value)) terms
    pub greatest : (h d : ℤ) → All (λ t. Divides d (h *ℤ f t.value)) terms → Divides d (h *ℤ g)
    pub not_negative : pos 0 ≤ℤ g

  pub gathered_none : (terms : List (Term A)) (g : ℤ) → g ≡ pos 0 → IsGathered (take 0 terms) g
  gathered_none terms g e = let P : ℤ → Type 0 = λ x. IsGathered (take 0 terms) x in subst P (sym e) (record {
    divides = All-nil (λ t. Divides (pos 0) (f t.value));
    greatest = λ h d all. let z : h *ℤ pos 0 ≡ pos 0 = omega (arith, ints) in subst (λ (x : ℤ). Divides d x) (sym z) (divides_zero d);
    not_negative = omega (arith, ints);
  })

  -- what holds of the front of a list and one more element
  front : (P : Term A → Type 0) (xs : List (Term A)) (i : ℕ) (d : Term A) → i < length xs → All P (take (i + 1) xs) → All P (take i xs) × P (get_or xs i d)
  front P xs i d l h =
      let Q : List (Term A) → Type 0 = λ ys. All P ys in
      let long : i < length (take (i + 1) xs) = omega (arith, length-take (i + 1) xs) in (
        subst Q (take-take i (i + 1) xs (omega arith)) (All-take P i (take (i + 1) xs) h),
        subst P (get_or-take (i + 1) xs i d (omega arith)) (h i d long),
      )

  pub gathered_more : (terms : List (Term A)) (i : ℕ) (t : Term A) (g n : ℤ) → i < length terms → t ≡ get_or terms i t → IsGathered (take i terms) g
      → IsGreatestCommonDivisor g (f t.value) n → IsGathered (take (i + 1) terms) n
  gathered_more terms i t g n l e h is = record {
    divides = (let P : Term A → Type 0 = λ x. Divides n (f x.value) in
        All-more P terms i t l (All-weaker (λ x. Divides g (f x.value)) P (λ x p. divides_trans n g (f x.value) is.divides_left p) (take i terms) h.divides) (subst P e is.divides_right));
    greatest = λ k d all.
        let P : Term A → Type 0 = λ x. Divides d (k *ℤ f x.value) in
        let parts = front P terms i t l all in
        gcd_scaled g (f t.value) n k d is (h.greatest k d parts.0) (subst P (sym e) parts.1);
    not_negative = is.not_negative;
  }

  -- 1 divides all
  pub gathered_one : (terms : List (Term A)) (i : ℕ) (g : ℤ) → IsGathered (take i terms) g → g ≡ pos 1 → IsGathered terms g
  gathered_one terms i g h e = record {
    divides = λ k d l. let P : ℤ → Type 0 = λ x. Divides x (f (get_or terms k d).value) in subst P (sym e) (one_divides (f (get_or terms k d).value));
    greatest = λ k d all. h.greatest k d (All-take (λ t. Divides d (k *ℤ f t.value)) i terms all);
    not_negative = h.not_negative;
  }

  -- g is never negative, divides the values of the first i terms, and what divides the h-fold of all values divides the h-fold of g
  pub record IsGathering (terms : List (Term A)) (i : ℕ) (g : ℤ) : Type 0 where
    pub divides : All (λ t. Divides g (f t.value)) (take i terms)
    pub greatest : (h d : ℤ) → All (λ t. Divides d (h *ℤ f t.value)) terms → Divides d (h *ℤ g)
    pub not_negative : pos 0 ≤ℤ g

  pub gathering_none : (terms : List (Term A)) (g : ℤ) → ((h d : ℤ) → All (λ t. Divides d (h *ℤ f t.value)) terms → Divides d (h *ℤ g)) → pos 0 ≤ℤ g → IsGathering terms 0 g
  gathering_none terms g greatest low = record { divides = All-nil (λ t. Divides g (f t.value)); greatest = greatest; not_negative = low }

  pub gathering_more : (terms : List (Term A)) (i : ℕ) (t : Term A) (g n : ℤ) → i < length terms → t ≡ get_or terms i t → IsGathering terms i g
      → IsGreatestCommonDivisor (f t.value) g n → IsGathering terms (i + 1) n
  gathering_more terms i t g n l e h is = record {
    divides = (let P : Term A → Type 0 = λ x. Divides n (f x.value) in
        All-more P terms i t l (All-weaker (λ x. Divides g (f x.value)) P (λ x p. divides_trans n g (f x.value) is.divides_right p) (take i terms) h.divides) (subst P e is.divides_left));
    greatest = λ k d all.
        let P : Term A → Type 0 = λ x. Divides d (k *ℤ f x.value) in
        gcd_scaled (f t.value) g n k d is (subst P (sym e) (all i t l)) (h.greatest k d all);
    not_negative = is.not_negative;
  }

  -- where g is 1, and where all terms are gathered
  pub gathering_one : (terms : List (Term A)) (i : ℕ) (g : ℤ) → IsGathering terms i g → g ≡ pos 1 → IsGathered terms g
  gathering_one terms i g h e = record {
    divides = λ k d l. let P : ℤ → Type 0 = λ x. Divides x (f (get_or terms k d).value) in subst P (sym e) (one_divides (f (get_or terms k d).value));
    greatest = h.greatest;
    not_negative = h.not_negative;
  }

  pub gathering_all : (terms : List (Term A)) (i : ℕ) (g : ℤ) → length terms ≤ i → IsGathering terms i g → IsGathered terms g
  gathering_all terms i g l h = record {
    divides = subst (λ (ts : List (Term A)). All (λ t. Divides g (f t.value)) ts) (take_all i terms l) h.divides;
    greatest = h.greatest;
    not_negative = h.not_negative;
  }

  -- of two numbers whose h-folds d divides, one
  pub either_divides : (h d a b z : ℤ) → (z ≡ a) ⊎ (z ≡ b) → Divides d (h *ℤ a) → Divides d (h *ℤ b) → Divides d (h *ℤ z)
  either_divides h d a b z which p q = ⊎_elim
      (λ (e : z ≡ a). subst (λ (x : ℤ). Divides d (h *ℤ x)) (sym e) p)
      (λ (e : z ≡ b). subst (λ (x : ℤ). Divides d (h *ℤ x)) (sym e) q)
      which

  pub zero_scaled : (h d z : ℤ) → z ≡ pos 0 → Divides d (h *ℤ z)
  zero_scaled h d z e = subst (λ (x : ℤ). Divides d x) (sym (ap (λ x. h *ℤ x) e ∙ (let n : h *ℤ pos 0 ≡ pos 0 = omega (arith, ints) in n))) (divides_zero d)

  pub opposite_scaled : (h d a z : ℤ) → z ≡ neg_ℤ a → Divides d (h *ℤ a) → Divides d (h *ℤ z)
  opposite_scaled h d a z e p = (neg_ℤ p.0, ap (λ x. h *ℤ x) e ∙ (int_mul_neg h a ∙ (ap neg_ℤ p.1 ∙ sym (int_mul_neg d p.0))))

  entry_at_head : (t : Term A) (ts : List (Term A)) → entry_of f (t ∷ ts) t.column ≡ f t.value
  entry_at_head t ts = grind arith

  entry_at_tail : (t : Term A) (ts : List (Term A)) (j : ℕ) → t.column ≢ j → entry_of f (t ∷ ts) j ≡ entry_of f ts j
  entry_at_tail t ts j differ = grind arith

  -- what holds of 0 and of each value holds of each entry
  pub entry_has : (P : ℤ → Type 0) (terms : List (Term A)) (j : ℕ) → P (pos 0) → All (λ t. P (f t.value)) terms → P (entry_of f terms j)
  entry_has P [] j z all = z
  entry_has P (t ∷ ts) j z all = ⊎_elim
      (λ (e : t.column ≡ j). let Q : ℕ → Type 0 = λ x. P (entry_of f (t ∷ ts) x) in subst Q e (subst P (sym (entry_at_head t ts)) (all 0 t (omega arith))))
      (λ (e : t.column ≢ j). subst P (sym (entry_at_tail t ts j e)) (entry_has P ts j z (λ k d l. all (suc k) d (omega arith))))
      (same_or_not f t.column j)

  -- what holds of each entry of a line holds of each value
  pub values_have : (P : ℤ → Type 0) (terms : List (Term A)) (from end : ℕ) → IsLine f from end terms → ((j : ℕ) → from ≤ j → j < end → P (entry_of f terms j)) → All (λ t. P (f t.value)) terms
  values_have P [] from end line h = All-nil (λ t. P (f t.value))
  values_have P (t ∷ ts) from end line h =
      let first = line.0 in
      let below = column_below (t.column + 1) ts line.1.1 in
      both (λ t. P (f t.value)) t ts (subst P (entry_at_head t ts) (h t.column line.0 (omega arith)))
      (values_have P ts (t.column + 1) end line.1.1 (λ j low high. subst P (entry_at_tail t ts j (λ e. omega arith)) (h j (omega arith) high)))
    where
      column_below : (low : ℕ) (us : List (Term A)) → IsLine f low end us → low ≤ end
      column_below low [] u = u
      column_below low (v ∷ us) u = let first = u.0 in let more = column_below (v.column + 1) us u.1.1 in omega arith

      both : (Q : Term A → Type 0) (t : Term A) (ts : List (Term A)) → Q t → All Q ts → All Q (t ∷ ts)
      both Q t ts here there zero d l = here
      both Q t ts here there (suc k) d l = there k d (omega arith)

  pub gathered_entries : (terms : List (Term A)) (g : ℤ) → IsGathered terms g → (end : ℕ) → IsLine f 0 end terms → IsCommonDivisor (entry_of f terms) end g
  gathered_entries terms g h end line = record {
    divides = λ j l. entry_has (λ x. Divides g x) terms j (divides_zero g) h.divides;
    greatest = λ k d all. h.greatest k d (values_have (λ x. Divides d (k *ℤ x)) terms 0 end line (λ j low high. all j high));
    not_negative = h.not_negative;
  }

module _ {A B : Type 0} (f : A → ℤ) (g : B → ℤ) (divisor : ℤ) where
  -- the same columns, each value the divisor times the other's
  abbrev pub AreQuotients : List (Term A) → List (Term B) → Type 0
  AreQuotients [] [] = Unit {0}
  AreQuotients (t ∷ ts) (u ∷ us) = (t.column ≡ u.column) × ((f t.value ≡ divisor *ℤ g u.value) × AreQuotients ts us)
  AreQuotients _ _ = ⊥

  pub quotients_more : (ts : List (Term A)) (us : List (Term B)) (t : Term A) (u : Term B) → AreQuotients ts us → t.column ≡ u.column → f t.value ≡ divisor *ℤ g u.value
      → AreQuotients (ts ++ t ∷ []) (us ++ u ∷ [])
  quotients_more [] [] t u h e v = (e, (v, tt))
  quotients_more (x ∷ ts) (y ∷ us) t u h e v = (h.0, (h.1.0, quotients_more ts us t u h.1.1 e v))
  quotients_more [] (y ∷ us) t u h e v = absurd h
  quotients_more (x ∷ ts) [] t u h e v = absurd h

  pub quotients_length : (ts : List (Term A)) (us : List (Term B)) → AreQuotients ts us → length us ≡ length ts
  quotients_length [] [] h = refl
  quotients_length (x ∷ ts) (y ∷ us) h = ap suc (quotients_length ts us h.1.1)
  quotients_length [] (y ∷ us) h = absurd h
  quotients_length (x ∷ ts) [] h = absurd h

  pub quotients_line : (from end : ℕ) (ts : List (Term A)) (us : List (Term B)) → AreQuotients ts us → IsLine f from end ts → IsLine g from end us
  quotients_line from end [] [] h line = line
  quotients_line from end (t ∷ ts) (u ∷ us) h line =
      let e = h.0 in let first = line.0 in (
        omega arith,
        (
          (λ z. line.1.0 (h.1.0 ∙ (ap (λ x. divisor *ℤ x) z ∙ omega (arith, ints)))),
          (let P : ℕ → Type 0 = λ x. IsLine g (x + 1) end us in subst P e (quotients_line (t.column + 1) end ts us h.1.1 line.1.1)),
        ),
      )
  quotients_line from end [] (y ∷ us) h line = absurd h
  quotients_line from end (x ∷ ts) [] h line = absurd h

  pub quotients_entries : (ts : List (Term A)) (us : List (Term B)) (j : ℕ) → AreQuotients ts us → entry_of f ts j ≡ divisor *ℤ entry_of g us j
  quotients_entries [] [] j h = omega (arith, ints)
  quotients_entries (t ∷ ts) (u ∷ us) j h = ⊎_elim
      (λ (e : t.column ≡ j). here f t ts j e ∙ (h.1.0 ∙ ap (λ x. divisor *ℤ x) (sym (here g u us j (sym h.0 ∙ e)))))
      (λ (e : t.column ≢ j). entry_at_tail f t ts j e ∙ (quotients_entries ts us j h.1.1 ∙ ap (λ x. divisor *ℤ x) (sym (entry_at_tail g u us j (λ z. e (h.0 ∙ z))))))
      (same_or_not f t.column j)
    where
      here : {C : Type 0} (k : C → ℤ) (t : Term C) (ts : List (Term C)) (j : ℕ) → t.column ≡ j → entry_of k (t ∷ ts) j ≡ k t.value
      here k t ts j e = grind arith
  quotients_entries [] (y ∷ us) j h = absurd h
  quotients_entries (x ∷ ts) [] j h = absurd h

-- a quotient's magnitude is at most the number's
pub quotient_size : (n d q : ℤ) → n ≡ d *ℤ q → pos 0 <ℤ d → unsigned_abs q ≤ unsigned_abs n
quotient_size n d q e some =
    let m : unsigned_abs n ≡ unsigned_abs d * unsigned_abs q = ap unsigned_abs e ∙ unsigned_abs-mul d q in
    let one : 1 ≤ unsigned_abs d = omega (arith, ints) in
    omega (arith, mul-le-mul_right (unsigned_abs q) one)

-- the factors of a pivot and an entry
pub factors_above : (p q d k m : ℤ) → pos 0 ≤ℤ p → p ≢ pos 0 → pos 0 <ℤ d → p ≡ d *ℤ k → q ≡ d *ℤ m → AreFactors p q k m
factors_above p q d k m h some positive e n = record {
  divisor = d;
  positive = positive;
  kept = size p h ∙ e;
  taken = ap (λ b. cond b (neg_ℤ q) q) (above p h) ∙ n;
}
  where
    size : (p : ℤ) → pos 0 ≤ℤ p → pos (unsigned_abs p) ≡ p
    size p h = omega (arith, ints)

    above : (p : ℤ) → pos 0 ≤ℤ p → int_lt p (pos 0) ≡ false
    above p h = grind (arith, ints)

pub factors_below : (p q d k m k' m' : ℤ) → p <ℤ pos 0 → pos 0 <ℤ d → p ≡ d *ℤ k → q ≡ d *ℤ m → k' ≡ neg_ℤ k → m' ≡ neg_ℤ m → AreFactors p q k' m'
factors_below p q d k m k' m' h positive e n f g = record {
  divisor = d;
  positive = positive;
  kept = size p h ∙ (ap neg_ℤ e ∙ (sym (int_mul_neg d k) ∙ ap (λ x. d *ℤ x) (sym f)));
  taken = ap (λ b. cond b (neg_ℤ q) q) (below p h) ∙ (ap neg_ℤ n ∙ (sym (int_mul_neg d m) ∙ ap (λ x. d *ℤ x) (sym g)));
}
  where
    size : (p : ℤ) → p <ℤ pos 0 → pos (unsigned_abs p) ≡ neg_ℤ p
    size p h = omega (arith, ints)

    below : (p : ℤ) → p <ℤ pos 0 → int_lt p (pos 0) ≡ true
    below p h = grind (arith, ints)

pub divisor_positive : (p q d : ℤ) → p ≢ pos 0 → IsGreatestCommonDivisor p q d → pos 0 <ℤ d
divisor_positive p q d some h =
    let n = h.not_negative in
    ⊎_elim
    (λ (e : d ≡ pos 0). absurd (some (h.divides_left.1 ∙ (ap (λ x. x *ℤ h.divides_left.0) e ∙ omega (arith, ints)))))
    (λ (other : d ≢ pos 0). omega (arith, ints))
    (zero_or_not d)

pub not_below : (z : ℤ) → (z <ℤ pos 0 → ⊥) → pos 0 ≤ℤ z
not_below z above = ⊎_elim (λ (l : z <ℤ pos 0). absurd (above l)) (λ (l : pos 0 ≤ℤ z). l) (int_lt_or_le z (pos 0))
