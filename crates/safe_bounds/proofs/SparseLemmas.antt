-- Multipliers told by pairs, one by one.
use Rattle.std.proofs.Common.{◌≡◌, ℕ, zero, suc, ◌+◌, ◌-◌, ◌<◌, ◌≤◌, Bool, List, [], ◌∷◌, ◌++◌, length, get_or, set, take, replicate, arith, ap, sym, ◌∙◌, refl, ⊎_elim, subst}
use Rattle.std.specs.Prelude.{ℤ, pos, ◌≤ℤ◌, if◌then◌else◌}
use Rattle.std.specs.List.{All}
use Rattle.std.proofs.lemmas.Bool.{cases_eq, cases_lt, eq-eqb, ne_eqb}
use Rattle.std.proofs.lemmas.Int.{ints}
use Rattle.std.proofs.lemmas.List.{length-append, length-set, get_or-set_same, get_or-set_other, get_or_append_left, get_or_push, replicate_more}
use Rattle.std.proofs.lemmas.List.Elements.{All-nil, All-cons, All-head, All-tail, All-push, All-weaker}
use Rattle.term_store.specs.declared.side.Side.TheVariants.{AtLeast}
use Rattle.algebra.specs.Numbered.{numbered, IsNumber}
use Rattle.algebra.proofs.NumberedLemmas.{same_by_number}
use Rattle.programs.specs.Programs.{Program, row_at, row_count}
use Rattle.safe_bounds.specs.Values.{multiplier_at, IsMultiplier, AreMultipliers, HasRightSigns}
use Rattle.safe_bounds.specs.Sparse.{told, dense, RisesByRow}

-- ---- what the pairs tell

told_first : (p : ℕ × ℤ) (ps : List (ℕ × ℤ)) (i : ℕ) → p.0 ≡ i → told (p ∷ ps) i ≡ p.1
told_first p ps i e = ap (λ (b : Bool). if b then p.1 else told ps i) (eq-eqb p.0 i e)

told_later : (p : ℕ × ℤ) (ps : List (ℕ × ℤ)) (i : ℕ) → (p.0 ≡ i → ⊥) → told (p ∷ ps) i ≡ told ps i
told_later p ps i d = ap (λ (b : Bool). if b then p.1 else told ps i) (ne_eqb p.0 i d)

-- what holds of each pair, and of 0 at row i, holds of what is told of row i
pub told_all : (Q : ℕ → ℤ → Type 0) (ps : List (ℕ × ℤ)) (i : ℕ) → Q i (pos 0) → All (λ p. Q p.0 p.1) ps → Q i (told ps i)
told_all Q [] i z h = z
told_all Q (p ∷ ps) i z h =
    let P : ℕ × ℤ → Type 0 = λ p. Q p.0 p.1 in
    ⊎_elim
    (λ (e : p.0 ≡ i). subst (λ y. Q i y) (sym (told_first p ps i e)) (subst (λ j. Q j p.1) e (All-head P p ps h)))
    (λ (d : p.0 ≡ i → ⊥). subst (λ y. Q i y) (sym (told_later p ps i d)) (told_all Q ps i z (All-tail P p ps h)))
    (cases_eq p.0 i)

rises_after : (before count : ℕ) (ps : List (ℕ × ℤ)) → RisesByRow before count ps → All (λ p. before < p.0) ps
rises_after before count [] h = let P : ℕ × ℤ → Type 0 = λ p. before < p.0 in All-nil P
rises_after before count (p ∷ ps) h =
    let P : ℕ × ℤ → Type 0 = λ q. before < q.0 in
    let R : ℕ × ℤ → Type 0 = λ q. p.0 < q.0 in
    let first = h.0 in
    All-cons P p ps first (All-weaker R P (λ q l. omega arith) ps (rises_after p.0 count ps h.1))

rises_top : (before count : ℕ) (ps : List (ℕ × ℤ)) → RisesByRow before count ps → before ≤ count
rises_top before count [] h = h
rises_top before count (p ∷ ps) h = let first = h.0 in let rest = rises_top p.0 count ps h.1 in omega arith

-- of pairs in rising order, each tells its row's multiplier
pub told_here : (before count : ℕ) (ps : List (ℕ × ℤ)) → RisesByRow before count ps → All (λ p. told ps p.0 ≡ p.1) ps
told_here before count [] h = let P : ℕ × ℤ → Type 0 = λ p. told [] p.0 ≡ p.1 in All-nil P
told_here before count (p ∷ ps) h =
    let P : ℕ × ℤ → Type 0 = λ q. told (p ∷ ps) q.0 ≡ q.1 in
    let after = rises_after p.0 count ps h.1 in
    let rest = told_here p.0 count ps h.1 in
    All-cons P p ps (told_first p ps p.0 refl)
    (λ k d l. let a = after k d l in told_later p ps (get_or ps k d).0 (λ e. omega arith) ∙ rest k d l)

-- a row's pair comes behind those of lesser rows
pub rising_before : (before count : ℕ) (ps : List (ℕ × ℤ)) (k : ℕ) (other : ℕ × ℤ) → RisesByRow before count ps → k < length ps → All (λ p. p.0 < (get_or ps k other).0) (take k ps)
rising_before before count [] k other h l = absurd (omega arith)
rising_before before count (p ∷ ps) zero other h l = let P : ℕ × ℤ → Type 0 = λ q. q.0 < p.0 in All-nil P
rising_before before count (p ∷ ps) (suc k) other h l =
    let P : ℕ × ℤ → Type 0 = λ q. q.0 < (get_or ps k other).0 in
    let here = rises_after p.0 count ps h.1 k other (omega arith) in
    All-cons P p (take k ps) here (rising_before p.0 count ps k other h.1 (omega arith))

-- ---- one by one

pub length-dense : (count : ℕ) (ps : List (ℕ × ℤ)) → length (dense count ps) ≡ count
length-dense zero ps = refl
length-dense (suc count) ps =
    omega (arith, length-append (dense count ps) (told ps (suc count) ∷ []), length-dense count ps)

dense_at : (count : ℕ) (ps : List (ℕ × ℤ)) (k : ℕ) → k < count → get_or (dense count ps) k (pos 0) ≡ told ps (suc k)
dense_at zero ps k l = absurd (omega arith)
dense_at (suc count) ps k l =
    let size = length-dense count ps in
    ⊎_elim
    (λ (b : k < count). get_or_append_left (dense count ps) (told ps (suc count) ∷ []) (pos 0) k (omega arith) ∙ dense_at count ps k b)
    (λ (b : count ≤ k).
    let e : count ≡ k = omega arith in
    get_or_push (dense count ps) (told ps (suc count)) (pos 0) k (size ∙ e) ∙ ap (λ j. told ps (suc j)) e)
    (cases_lt k count)

-- row i has the multiplier that is told of it
pub multiplier_at-dense : (count : ℕ) (ps : List (ℕ × ℤ)) (i : ℕ) → IsNumber i count → multiplier_at (dense count ps) i ≡ told ps i
multiplier_at-dense count ps zero n = absurd (omega arith)
multiplier_at-dense count ps (suc k) n = dense_at count ps k (omega arith)

dense_all : (P : ℤ → Type 0) (count : ℕ) (ps : List (ℕ × ℤ)) → P (pos 0) → All (λ p. P p.1) ps → All P (dense count ps)
dense_all P zero ps z h = All-nil P
dense_all P (suc count) ps z h =
    All-push P (dense count ps) (told ps (suc count)) (dense_all P count ps z h) (told_all (λ i y. P y) ps (suc count) z h)

-- pairs of multipliers within the limit are multipliers, one for each row
pub are_multipliers-dense : (program : Program) (ps : List (ℕ × ℤ)) → All (λ p. IsMultiplier p.1) ps → AreMultipliers program (dense (row_count program) ps)
are_multipliers-dense program ps h = record {
  each_row = length-dense (row_count program) ps;
  within = dense_all IsMultiplier (row_count program) ps (omega arith) h;
}

-- pairs with right signs have right signs, one by one; and the other way round, of pairs in rising order
pub signs-dense : (program : Program) (ps : List (ℕ × ℤ)) → All (λ p. (row_at program p.0).side ≡ AtLeast → pos 0 ≤ℤ p.1) ps → HasRightSigns program (dense (row_count program) ps)
signs-dense program ps h = record {
  each = λ i n side.
      let Q : ℕ → ℤ → Type 0 = λ j y. (row_at program j).side ≡ AtLeast → pos 0 ≤ℤ y in
      let e = multiplier_at-dense (row_count program) ps i n in
      let s = told_all Q ps i (λ t. omega (arith, ints)) h side in
      rw e s;
}

pub pair_number : (before count : ℕ) (ps : List (ℕ × ℤ)) (k : ℕ) (other : ℕ × ℤ) → RisesByRow before count ps → k < length ps → IsNumber (get_or ps k other).0 count
pair_number before count [] k other h l = absurd (omega arith)
pair_number before count (p ∷ ps) zero other h l = let first = h.0 in let top = rises_top p.0 count ps h.1 in record { from_one = omega arith; at_most = omega arith }
pair_number before count (p ∷ ps) (suc k) other h l = pair_number p.0 count ps k other h.1 (omega arith)

pub signs_of_pairs : (program : Program) (ps : List (ℕ × ℤ)) → RisesByRow 0 (row_count program) ps → HasRightSigns program (dense (row_count program) ps) → All (λ p. (row_at program p.0).side ≡ AtLeast → pos 0 ≤ℤ p.1) ps
signs_of_pairs program ps rises signs = λ k d l side.
    let n = pair_number 0 (row_count program) ps k d rises l in
    let here = told_here 0 (row_count program) ps rises k d l in
    let e = multiplier_at-dense (row_count program) ps (get_or ps k d).0 n in
    let s = signs.each (get_or ps k d).0 n side in
    omega (arith, ints)

-- nothing told
pub dense_none : (count : ℕ) → dense count [] ≡ replicate count (pos 0)
dense_none zero = refl
dense_none (suc count) =
    let e : count + 1 ≡ suc count = omega arith in
    ap (λ xs. xs ++ (pos 0 ∷ [])) (dense_none count) ∙ replicate_more count (pos 0) ∙ ap (λ n. replicate n (pos 0)) e

told_push_here : (ps : List (ℕ × ℤ)) (q : ℕ × ℤ) → All (λ p. p.0 < q.0) ps → told (ps ++ (q ∷ [])) q.0 ≡ q.1
told_push_here [] q h = told_first q [] q.0 refl
told_push_here (p ∷ ps) q h =
    let P : ℕ × ℤ → Type 0 = λ p. p.0 < q.0 in
    let l = All-head P p ps h in
    told_later p (ps ++ (q ∷ [])) q.0 (λ e. omega arith) ∙ told_push_here ps q (All-tail P p ps h)

told_push_elsewhere : (ps : List (ℕ × ℤ)) (q : ℕ × ℤ) (i : ℕ) → (q.0 ≡ i → ⊥) → told (ps ++ (q ∷ [])) i ≡ told ps i
told_push_elsewhere [] q i d = told_later q [] i d
told_push_elsewhere (p ∷ ps) q i d =
    ⊎_elim
    (λ (e : p.0 ≡ i). told_first p (ps ++ (q ∷ [])) i e ∙ sym (told_first p ps i e))
    (λ (n : p.0 ≡ i → ⊥). told_later p (ps ++ (q ∷ [])) i n ∙ told_push_elsewhere ps q i d ∙ sym (told_later p ps i n))
    (cases_eq p.0 i)

set_told : (count : ℕ) (ps : List (ℕ × ℤ)) (q : ℕ × ℤ) → All (λ p. p.0 < q.0) ps → IsNumber q.0 count → (i : ℕ) → IsNumber i count → told (ps ++ (q ∷ [])) i ≡ numbered (pos 0) (set (dense count ps) (q.0 - 1) q.1) i
set_told count ps q later n zero m = absurd (omega (arith, m.from_one))
set_told count ps q later n (suc k) m =
    let size = length-dense count ps in
    let one = n.from_one in
    ⊎_elim
    (λ (e : q.0 ≡ suc k).
    let place : q.0 - 1 ≡ k = omega arith in
    let set_here = ap (λ j. get_or (set (dense count ps) j q.1) k (pos 0)) place ∙ get_or-set_same (dense count ps) k q.1 (pos 0) (omega (arith, m.at_most)) in
    ap (told (ps ++ (q ∷ []))) (sym e) ∙ told_push_here ps q later ∙ sym set_here)
    (λ (d : q.0 ≡ suc k → ⊥).
    told_push_elsewhere ps q (suc k) d
    ∙ sym (dense_at count ps k (omega (arith, m.at_most)))
    ∙ sym (get_or-set_other (dense count ps) (q.0 - 1) k q.1 (pos 0) (λ e. d (omega arith))))
    (cases_eq q.0 (suc k))

-- one more pair, of a later row, sets that row's multiplier
pub dense_more : (count : ℕ) (ps : List (ℕ × ℤ)) (q : ℕ × ℤ) → All (λ p. p.0 < q.0) ps → IsNumber q.0 count → dense count (ps ++ (q ∷ [])) ≡ set (dense count ps) (q.0 - 1) q.1
dense_more count ps q later n =
    let size = length-dense count ps in
    let size_more = length-dense count (ps ++ (q ∷ [])) in
    same_by_number (pos 0) (dense count (ps ++ (q ∷ []))) (set (dense count ps) (q.0 - 1) q.1)
    (size_more ∙ sym size ∙ sym (length-set (dense count ps) (q.0 - 1) q.1))
    (λ i m.
    let m' : IsNumber i count = record { from_one = m.from_one; at_most = omega (arith, m.at_most) } in
    multiplier_at-dense count (ps ++ (q ∷ [])) i m' ∙ set_told count ps q later n i m')
