-- Shifting numbers right until all are within the limit.
use Rattle.std.proofs.Common.{◌≡◌, ℕ, zero, suc, ◌+◌, ◌/◌, ◌^◌, ◌<◌, ◌≤◌, max, List, [], ◌∷◌, ◌++◌, length, map, set, take, drop, get_or, replicate, arith, ap, sym, ◌∙◌, refl, ⊎_elim, ◌⊎◌, inl, inr, subst}
use Rattle.std.specs.Prelude.{ℤ, pos, negsuc, neg_ℤ, ◌≤ℤ◌, ◌≢◌, unsigned_abs}
use Rattle.std.specs.List.{All}
use Rattle.std.proofs.Math.Nat.{div-one, div-zero, zero-div, div-le_self, div-mul-le_self}
use Rattle.std.proofs.lemmas.Nat.{le-div}
use Rattle.std.proofs.lemmas.Int.{ints}
use Rattle.std.proofs.lemmas.Bool.{cases_lt}
use Rattle.std.proofs.lemmas.List.{length-map}
use Rattle.std.proofs.lemmas.List.Elements.{All-nil, All-cons, All-head, All-tail, All-map}
use Rattle.algebra.specs.Numbered.{numbered}
use Rattle.algebra.specs.Scale.{greatest_scale}
use Rattle.algebra.proofs.NumberedLemmas.{numbered-map}
use Rattle.algebra.proofs.Magnitudes.{unsigned_abs_neg}
use Rattle.programs.specs.Programs.{Program}
use Rattle.safe_bounds.specs.Values.{multiplier_at, IsMultiplier, HasRightSigns}
use Rattle.safe_bounds.specs.Narrowing.{AreNarrow, AreNearer, IsLeastShift, IsNarrowed, IsNearer, shifted}
use Rattle.safe_bounds.specs.inside.Magnitudes.{greatest_magnitude}

-- ---- one number

shifted_magnitude : (bits : ℕ) (x : ℤ) → unsigned_abs (shifted bits x) ≡ unsigned_abs x / 2 ^ bits
shifted_magnitude bits (pos m) = refl
shifted_magnitude bits (negsuc m) = unsigned_abs_neg (pos (suc m / 2 ^ bits))

shifted_by_none : (x : ℤ) → shifted 0 x ≡ x
shifted_by_none (pos m) = ap pos (div-one m)
shifted_by_none (negsuc m) = ap (λ n. neg_ℤ (pos n)) (div-one (suc m))

all_shifted_by_none : (ys : List ℤ) → map (shifted 0) ys ≡ ys
all_shifted_by_none [] = refl
all_shifted_by_none (y ∷ ys) = ap (λ x. x ∷ map (shifted 0) ys) (shifted_by_none y) ∙ ap (λ xs. y ∷ xs) (all_shifted_by_none ys)

shifted_nearer : (bits : ℕ) (x : ℤ) → IsNearer x (shifted bits x)
shifted_nearer bits (pos m) = record {
  smaller = div-le_self m (2 ^ bits);
  from_positive = λ p. omega (arith, ints);
  from_negative = λ p. let e : m ≡ 0 = omega (arith, ints) in let z = ap (λ n. n / 2 ^ bits) e ∙ zero-div (2 ^ bits) in omega (arith, ints);
}
shifted_nearer bits (negsuc m) = record {
  smaller = let b = div-le_self (suc m) (2 ^ bits) in let e = unsigned_abs_neg (pos (suc m / 2 ^ bits)) in omega (arith, ints);
  from_positive = λ p. absurd (omega (arith, ints));
  from_negative = λ p. omega (arith, ints);
}

zero_nearer : (x : ℤ) → IsNearer x (pos 0)
zero_nearer x = record { smaller = omega (arith, ints); from_positive = λ p. omega (arith, ints); from_negative = λ p. omega (arith, ints) }

zero_or_not : (x : ℤ) → (x ≡ pos 0) ⊎ (x ≢ pos 0)
zero_or_not (pos zero) = inl refl
zero_or_not (pos (suc m)) = inr (λ e. omega (arith, ints))
zero_or_not (negsuc m) = inr (λ e. omega (arith, ints))

-- ---- enough bits

div_mono : (a b d : ℕ) → a ≤ b → a / d ≤ b / d
div_mono a b zero p = let e = div-zero a in omega arith
div_mono a b (suc d) p = le-div (a / suc d) b (suc d) (omega arith) (let m = div-mul-le_self a (suc d) in omega arith)

max_div : (a b d k : ℕ) → a / d ≤ k → b / d ≤ k → max a b / d ≤ k
max_div a b d k p q =
    ⊎_elim
    (λ (l : a < b). let e : max a b ≡ b = omega arith in subst (λ m. m / d ≤ k) (sym e) q)
    (λ (l : b ≤ a). let e : max a b ≡ a = omega arith in subst (λ m. m / d ≤ k) (sym e) p)
    (cases_lt a b)

each_at_most : (bits k : ℕ) (ys : List ℤ) → greatest_magnitude ys / 2 ^ bits ≤ k → All (λ y. unsigned_abs (shifted bits y) ≤ k) ys
each_at_most bits k [] h = let P : ℤ → Type 0 = λ y. unsigned_abs (shifted bits y) ≤ k in All-nil P
each_at_most bits k (y ∷ ys) h =
    let P : ℤ → Type 0 = λ y. unsigned_abs (shifted bits y) ≤ k in
    let here = div_mono (unsigned_abs y) (max (unsigned_abs y) (greatest_magnitude ys)) (2 ^ bits) (omega arith) in
    let rest = div_mono (greatest_magnitude ys) (max (unsigned_abs y) (greatest_magnitude ys)) (2 ^ bits) (omega arith) in
    let e = shifted_magnitude bits y in
    All-cons P y ys (omega arith) (each_at_most bits k ys (omega arith))

greatest_at_most : (bits k : ℕ) (ys : List ℤ) → All IsMultiplier (map (shifted bits) ys) → greatest_magnitude ys / 2 ^ bits ≤ greatest_scale
greatest_at_most bits k [] h = let e = zero-div (2 ^ bits) in omega arith
greatest_at_most bits k (y ∷ ys) h =
    let e = shifted_magnitude bits y in
    let here = All-head IsMultiplier (shifted bits y) (map (shifted bits) ys) h in
    max_div (unsigned_abs y) (greatest_magnitude ys) (2 ^ bits) greatest_scale (omega arith)
    (greatest_at_most bits k ys (All-tail IsMultiplier (shifted bits y) (map (shifted bits) ys) h))

-- what is found for the greatest magnitude holds of all numbers
pub least_for_all : (bits greatest : ℕ) (scale : ℤ) (ys : List ℤ) → greatest ≡ max (unsigned_abs scale) (greatest_magnitude ys) → greatest / 2 ^ bits ≤ greatest_scale → ((fewer : ℕ) → fewer < bits → greatest_scale < greatest / 2 ^ fewer) → IsLeastShift bits scale ys
least_for_all bits greatest scale ys e enough least = record {
  enough =
      let here = div_mono (unsigned_abs scale) greatest (2 ^ bits) (omega arith) in
      let rest = div_mono (greatest_magnitude ys) greatest (2 ^ bits) (omega arith) in
      let m = shifted_magnitude bits scale in
      record {
        scale_within = omega arith;
        mults_within = All-map IsMultiplier (shifted bits) ys (each_at_most bits greatest_scale ys (omega arith));
      };
  least = λ fewer l narrow.
      let m = shifted_magnitude fewer scale in
      let one = narrow.scale_within in
      let both = max_div (unsigned_abs scale) (greatest_magnitude ys) (2 ^ fewer) greatest_scale (omega arith) (greatest_at_most fewer 0 ys narrow.mults_within) in
      let f = least fewer l in
      let g = ap (λ n. n / 2 ^ fewer) e in
      omega arith;
}

-- ---- what is narrowed

unshifted : (bits : ℕ) (x : ℤ) → bits ≡ 0 → x ≡ shifted bits x
unshifted bits x e = sym (ap (λ b. shifted b x) e ∙ shifted_by_none x)

all_unshifted : (bits : ℕ) (ys : List ℤ) → bits ≡ 0 → ys ≡ map (shifted bits) ys
all_unshifted bits ys e = sym (ap (λ b. map (shifted b) ys) e ∙ all_shifted_by_none ys)

pub narrowed_by_none : (scale : ℤ) (ys : List ℤ) (bits : ℕ) → pos 1 ≤ℤ scale → bits ≡ 0 → IsLeastShift bits scale ys → IsNarrowed scale ys scale ys
narrowed_by_none scale ys bits s e least = record {
  bits = bits;
  least = least;
  kept = λ h. (unshifted bits scale e, all_unshifted bits ys e);
  fallen = λ h. let same = unshifted bits scale e in absurd (omega (arith, ints));
}

-- no bits are needed exactly where all are narrow
pub narrow_by_none : (scale : ℤ) (ys : List ℤ) (bits : ℕ) → bits ≡ 0 → IsLeastShift bits scale ys → AreNarrow scale ys
narrow_by_none scale ys bits e least = record {
  scale_within = subst IsMultiplier (sym (unshifted bits scale e)) least.enough.scale_within;
  mults_within = subst (All IsMultiplier) (sym (all_unshifted bits ys e)) least.enough.mults_within;
}

pub not_narrow : (scale : ℤ) (ys : List ℤ) (bits : ℕ) → 0 < bits → IsLeastShift bits scale ys → AreNarrow scale ys → ⊥
not_narrow scale ys bits l least narrow = least.least 0 l (record {
  scale_within = subst IsMultiplier (unshifted 0 scale refl) narrow.scale_within;
  mults_within = subst (All IsMultiplier) (all_unshifted 0 ys refl) narrow.mults_within;
})

all_zero : (n : ℕ) (ys : List ℤ) → length ys ≡ n → replicate n (pos 0) ≡ map (λ _. pos 0) ys
all_zero zero [] e = refl
all_zero (suc n) [] e = absurd (omega arith)
all_zero zero (y ∷ ys) e = absurd (omega arith)
all_zero (suc n) (y ∷ ys) e = ap (λ xs. pos 0 ∷ xs) (all_zero n ys (omega arith))

pub narrowed_to_none : (scale : ℤ) (ys zeros : List ℤ) (bits : ℕ) → shifted bits scale ≡ pos 0 → zeros ≡ replicate (length ys) (pos 0) → IsLeastShift bits scale ys → IsNarrowed scale ys (pos 1) zeros
narrowed_to_none scale ys zeros bits fallen e least = record {
  bits = bits;
  least = least;
  kept = λ h. absurd (h fallen);
  fallen = λ h. (refl, e ∙ all_zero (length ys) ys refl);
}

-- what was narrow stays
pub narrow_stays : (scale new_scale : ℤ) (ys new_ys : List ℤ) → pos 1 ≤ℤ scale → IsNarrowed scale ys new_scale new_ys → AreNarrow scale ys → (new_scale ≡ scale) × (new_ys ≡ ys)
narrow_stays scale new_scale ys new_ys s h narrow =
    let none : h.bits ≡ 0 =
    ⊎_elim
    (λ (l : 0 < h.bits). absurd (not_narrow scale ys h.bits l h.least narrow))
    (λ (l : h.bits ≤ 0). omega arith)
    (cases_lt 0 h.bits) in
    let same = unshifted h.bits scale none in
    let kept = h.kept (λ z. omega (arith, ints)) in
    (kept.0 ∙ sym same, kept.1 ∙ sym (all_unshifted h.bits ys none))

-- ---- what holds of the narrowed numbers

zeros_within : (ys : List ℤ) → All IsMultiplier (map (λ _. pos 0) ys)
zeros_within ys = All-map IsMultiplier (λ _. pos 0) ys (λ k d l. omega arith)

pub narrowed_within : (scale new_scale : ℤ) (ys new_ys : List ℤ) → IsNarrowed scale ys new_scale new_ys → All IsMultiplier new_ys
narrowed_within scale new_scale ys new_ys h =
    ⊎_elim
    (λ (z : shifted h.bits scale ≡ pos 0). subst (All IsMultiplier) (sym (h.fallen z).1) (zeros_within ys))
    (λ (z : shifted h.bits scale ≢ pos 0). subst (All IsMultiplier) (sym (h.kept z).1) h.least.enough.mults_within)
    (zero_or_not (shifted h.bits scale))

map_nearer : (f : ℤ → ℤ) (ys zs : List ℤ) → f (pos 0) ≡ pos 0 → ((x : ℤ) → IsNearer x (f x)) → zs ≡ map f ys → AreNearer ys zs
map_nearer f ys zs none each e = record {
  count = ap length e ∙ length-map ys f;
  each = λ i.
      let here = ap (λ xs. numbered (pos 0) xs i) e ∙ ap (λ o. numbered o (map f ys) i) (sym none) ∙ numbered-map f (pos 0) ys i in
      subst (IsNearer (multiplier_at ys i)) (sym here) (each (multiplier_at ys i));
}

pub narrowed_nearer : (scale new_scale : ℤ) (ys new_ys : List ℤ) → IsNarrowed scale ys new_scale new_ys → AreNearer ys new_ys
narrowed_nearer scale new_scale ys new_ys h =
    ⊎_elim
    (λ (z : shifted h.bits scale ≡ pos 0). map_nearer (λ _. pos 0) ys new_ys refl zero_nearer (h.fallen z).1)
    (λ (z : shifted h.bits scale ≢ pos 0). map_nearer (shifted h.bits) ys new_ys (ap pos (zero-div (2 ^ h.bits))) (shifted_nearer h.bits) (h.kept z).1)
    (zero_or_not (shifted h.bits scale))

pub nearer_signs : (program : Program) (ys new_ys : List ℤ) → AreNearer ys new_ys → HasRightSigns program ys → HasRightSigns program new_ys
nearer_signs program ys new_ys near signs = record { each = λ i n side. (near.each i).from_positive (signs.each i n side) }

-- ---- shifting in place

so_far_here : (f : ℤ → ℤ) (ys : List ℤ) (k : ℕ) → k < length ys → get_or (map f (take k ys) ++ drop k ys) k (pos 0) ≡ get_or ys k (pos 0)
so_far_here f [] k l = absurd (omega arith)
so_far_here f (y ∷ ys) zero l = refl
so_far_here f (y ∷ ys) (suc k) l = so_far_here f ys k (omega arith)

so_far_more : (f : ℤ → ℤ) (ys : List ℤ) (k : ℕ) → k < length ys → set (map f (take k ys) ++ drop k ys) k (f (get_or ys k (pos 0))) ≡ map f (take (suc k) ys) ++ drop (suc k) ys
so_far_more f [] k l = absurd (omega arith)
so_far_more f (y ∷ ys) zero l = refl
so_far_more f (y ∷ ys) (suc k) l = ap (λ xs. f y ∷ xs) (so_far_more f ys k (omega arith))

pub next_shifted : (f : ℤ → ℤ) (ys now : List ℤ) (k : ℕ) (x : ℤ) → k < length ys → now ≡ map f (take k ys) ++ drop k ys → x ≡ f (get_or now k (pos 0)) → set now k x ≡ map f (take (k + 1) ys) ++ drop (k + 1) ys
next_shifted f ys now k x l so_far e =
    let here = so_far_here f ys k l in
    let x_is : x ≡ f (get_or ys k (pos 0)) = e ∙ ap (λ xs. f (get_or xs k (pos 0))) so_far ∙ ap f here in
    let n : suc k ≡ k + 1 = omega arith in
    ap (λ xs. set xs k x) so_far
    ∙ ap (λ v. set (map f (take k ys) ++ drop k ys) k v) x_is
    ∙ so_far_more f ys k l
    ∙ ap (λ j. map f (take j ys) ++ drop j ys) n
