-- How products, the lesser and the greater of two whole numbers follow the order.
use Rattle.std.proofs.Common.{◌≡◌, ◌⊎◌, inl, inr, ⊎_elim, arith, ap, sym, ◌∙◌}
use Rattle.std.specs.Prelude.{ℤ, pos, negsuc, neg_ℤ, ◌+ℤ◌, ◌-ℤ◌, ◌*ℤ◌, ◌≤ℤ◌, ◌<ℤ◌, ◌≢◌}
use Rattle.std.specs.Int.{int_min, int_max}
use Rattle.std.proofs.lemmas.Int.{ints, clamps}
use Rattle.algebra.proofs.Products.{int_mul_comm, int_sub_mul, int_mul_sub, int_mul_neg}

-- ---- the order

pub int_le_refl : (a : ℤ) → a ≤ℤ a
int_le_refl a = omega (arith, ints)

pub int_le_trans : (a b c : ℤ) → a ≤ℤ b → b ≤ℤ c → a ≤ℤ c
int_le_trans a b c p q = omega (arith, ints)

pub int_le_antisymm : (a b : ℤ) → a ≤ℤ b → b ≤ℤ a → a ≡ b
int_le_antisymm a b p q = omega (arith, ints)

pub int_lt_or_le : (a b : ℤ) → (a <ℤ b) ⊎ (b ≤ℤ a)
int_lt_or_le a b = grind (arith, ints)

pub int_le_total : (a b : ℤ) → (a ≤ℤ b) ⊎ (b ≤ℤ a)
int_le_total a b = ⊎_elim (λ p. inl (omega (arith, ints))) (λ p. inr p) (int_lt_or_le a b)

-- ---- products

pub int_mul_nonneg : (a b : ℤ) → pos 0 ≤ℤ a → pos 0 ≤ℤ b → pos 0 ≤ℤ (a *ℤ b)
int_mul_nonneg (pos m) (pos n) p q = omega (arith, ints)
int_mul_nonneg (pos m) (negsuc n) p q = absurd (omega (arith, ints))
int_mul_nonneg (negsuc m) b p q = absurd (omega (arith, ints))

pub int_mul_pos : (a b : ℤ) → pos 0 <ℤ a → pos 0 <ℤ b → pos 0 <ℤ (a *ℤ b)
int_mul_pos a b p q =
    let h = int_mul_nonneg (a -ℤ pos 1) (b -ℤ pos 1) (omega (arith, ints)) (omega (arith, ints)) in
    omega (arith, ints, int_sub_mul a (pos 1) (b -ℤ pos 1), int_mul_sub a b (pos 1), h)

pub int_square_nonneg : (a : ℤ) → pos 0 ≤ℤ (a *ℤ a)
int_square_nonneg (pos m) = omega (arith, ints)
int_square_nonneg (negsuc m) = omega (arith, ints)

-- a factor that is not negative keeps the order
pub int_mul_le_right : (a b c : ℤ) → pos 0 ≤ℤ c → a ≤ℤ b → (a *ℤ c) ≤ℤ (b *ℤ c)
int_mul_le_right a b c p q =
    let h = int_mul_nonneg (b -ℤ a) c (omega (arith, ints)) p in
    omega (arith, ints, int_sub_mul b a c, h)

pub int_mul_le_left : (a b c : ℤ) → pos 0 ≤ℤ c → a ≤ℤ b → (c *ℤ a) ≤ℤ (c *ℤ b)
int_mul_le_left a b c p q =
    omega (arith, ints, int_mul_le_right a b c p q, int_mul_comm a c, int_mul_comm b c)

-- a factor that is not positive turns the order
pub int_mul_le_right_neg : (a b c : ℤ) → c ≤ℤ pos 0 → a ≤ℤ b → (b *ℤ c) ≤ℤ (a *ℤ c)
int_mul_le_right_neg a b c p q =
    let h = int_mul_le_right a b (neg_ℤ c) (omega (arith, ints)) q in
    omega (arith, ints, int_mul_neg a c, int_mul_neg b c, h)

pub int_mul_le_left_neg : (a b c : ℤ) → c ≤ℤ pos 0 → a ≤ℤ b → (c *ℤ b) ≤ℤ (c *ℤ a)
int_mul_le_left_neg a b c p q =
    omega (arith, ints, int_mul_le_right_neg a b c p q, int_mul_comm a c, int_mul_comm b c)

pub int_mul_lt_right : (a b c : ℤ) → pos 0 <ℤ c → a <ℤ b → (a *ℤ c) <ℤ (b *ℤ c)
int_mul_lt_right a b c p q =
    let h = int_mul_pos (b -ℤ a) c (omega (arith, ints)) p in
    omega (arith, ints, int_sub_mul b a c, h)

pub int_mul_lt_left : (a b c : ℤ) → pos 0 <ℤ c → a <ℤ b → (c *ℤ a) <ℤ (c *ℤ b)
int_mul_lt_left a b c p q =
    omega (arith, ints, int_mul_lt_right a b c p q, int_mul_comm a c, int_mul_comm b c)

-- products of numbers that are not negative
pub int_mul_le_mul : (a b c d : ℤ) → pos 0 ≤ℤ a → a ≤ℤ b → pos 0 ≤ℤ c → c ≤ℤ d → (a *ℤ c) ≤ℤ (b *ℤ d)
int_mul_le_mul a b c d p q r s =
    let first = int_mul_le_right a b c r q in
    let second = int_mul_le_left c d b (omega (arith, ints)) s in
    omega (arith, ints)

-- a positive factor is cancelled
pub int_le_of_mul_right : (a b c : ℤ) → pos 0 <ℤ c → (a *ℤ c) ≤ℤ (b *ℤ c) → a ≤ℤ b
int_le_of_mul_right a b c p q =
    ⊎_elim
    (λ (l : b <ℤ a). let h = int_mul_lt_right b a c p l in absurd (omega (arith, ints)))
    (λ (l : a ≤ℤ b). l)
    (int_lt_or_le b a)

pub int_le_of_mul_left : (a b c : ℤ) → pos 0 <ℤ c → (c *ℤ a) ≤ℤ (c *ℤ b) → a ≤ℤ b
int_le_of_mul_left a b c p q =
    int_le_of_mul_right a b c p (omega (arith, ints, int_mul_comm a c, int_mul_comm b c))

pub int_lt_of_mul_right : (a b c : ℤ) → pos 0 ≤ℤ c → (a *ℤ c) <ℤ (b *ℤ c) → a <ℤ b
int_lt_of_mul_right a b c p q =
    ⊎_elim
    (λ (l : a <ℤ b). l)
    (λ (l : b ≤ℤ a). let h = int_mul_le_right b a c p l in absurd (omega (arith, ints)))
    (int_lt_or_le a b)

pub int_lt_of_mul_left : (a b c : ℤ) → pos 0 ≤ℤ c → (c *ℤ a) <ℤ (c *ℤ b) → a <ℤ b
int_lt_of_mul_left a b c p q =
    int_lt_of_mul_right a b c p (omega (arith, ints, int_mul_comm a c, int_mul_comm b c))

pub int_eq_of_mul_right : (a b c : ℤ) → c ≢ pos 0 → a *ℤ c ≡ b *ℤ c → a ≡ b
int_eq_of_mul_right a b c p q =
    let minus : (a *ℤ neg_ℤ c) ≡ (b *ℤ neg_ℤ c) = int_mul_neg a c ∙ ap neg_ℤ q ∙ sym (int_mul_neg b c) in
    ⊎_elim
    (λ (l : pos 0 <ℤ c). int_le_antisymm a b (int_le_of_mul_right a b c l (omega (arith, ints))) (int_le_of_mul_right b a c l (omega (arith, ints))))
    (λ (l : c ≤ℤ pos 0).
    let below : pos 0 <ℤ neg_ℤ c = omega (arith, ints) in
    int_le_antisymm a b (int_le_of_mul_right a b (neg_ℤ c) below (omega (arith, ints))) (int_le_of_mul_right b a (neg_ℤ c) below (omega (arith, ints))))
    (int_lt_or_le (pos 0) c)

pub int_eq_of_mul_left : (a b c : ℤ) → c ≢ pos 0 → c *ℤ a ≡ c *ℤ b → a ≡ b
int_eq_of_mul_left a b c p q = int_eq_of_mul_right a b c p (int_mul_comm a c ∙ q ∙ int_mul_comm c b)

-- ---- the lesser and the greater

pub int_min_le_left : (a b : ℤ) → int_min a b ≤ℤ a
int_min_le_left a b = omega (arith, ints, clamps)

pub int_min_le_right : (a b : ℤ) → int_min a b ≤ℤ b
int_min_le_right a b = omega (arith, ints, clamps)

pub int_le_min : (a b c : ℤ) → c ≤ℤ a → c ≤ℤ b → c ≤ℤ int_min a b
int_le_min a b c p q = omega (arith, ints, clamps)

pub int_le_max_left : (a b : ℤ) → a ≤ℤ int_max a b
int_le_max_left a b = omega (arith, ints, clamps)

pub int_le_max_right : (a b : ℤ) → b ≤ℤ int_max a b
int_le_max_right a b = omega (arith, ints, clamps)

pub int_max_le : (a b c : ℤ) → a ≤ℤ c → b ≤ℤ c → int_max a b ≤ℤ c
int_max_le a b c p q = omega (arith, ints, clamps)

pub int_min_of_le : (a b : ℤ) → a ≤ℤ b → int_min a b ≡ a
int_min_of_le a b p = omega (arith, ints, clamps)

pub int_min_of_ge : (a b : ℤ) → b ≤ℤ a → int_min a b ≡ b
int_min_of_ge a b p = omega (arith, ints, clamps)

pub int_max_of_le : (a b : ℤ) → a ≤ℤ b → int_max a b ≡ b
int_max_of_le a b p = omega (arith, ints, clamps)

pub int_max_of_ge : (a b : ℤ) → b ≤ℤ a → int_max a b ≡ a
int_max_of_ge a b p = omega (arith, ints, clamps)

pub int_min_comm : (a b : ℤ) → int_min a b ≡ int_min b a
int_min_comm a b = omega (arith, ints, clamps)

pub int_max_comm : (a b : ℤ) → int_max a b ≡ int_max b a
int_max_comm a b = omega (arith, ints, clamps)

pub int_min_add : (a b c : ℤ) → int_min (a +ℤ c) (b +ℤ c) ≡ int_min a b +ℤ c
int_min_add a b c = omega (arith, ints, clamps)

pub int_max_add : (a b c : ℤ) → int_max (a +ℤ c) (b +ℤ c) ≡ int_max a b +ℤ c
int_max_add a b c = omega (arith, ints, clamps)

pub int_neg_min : (a b : ℤ) → neg_ℤ (int_min a b) ≡ int_max (neg_ℤ a) (neg_ℤ b)
int_neg_min a b = omega (arith, ints, clamps)

pub int_neg_max : (a b : ℤ) → neg_ℤ (int_max a b) ≡ int_min (neg_ℤ a) (neg_ℤ b)
int_neg_max a b = omega (arith, ints, clamps)

-- a factor that is not negative goes into the lesser and the greater
pub int_min_mul : (a b c : ℤ) → pos 0 ≤ℤ c → int_min (a *ℤ c) (b *ℤ c) ≡ int_min a b *ℤ c
int_min_mul a b c p =
    ⊎_elim
    (λ (l : a ≤ℤ b). int_min_of_le (a *ℤ c) (b *ℤ c) (int_mul_le_right a b c p l) ∙ ap (λ x. x *ℤ c) (sym (int_min_of_le a b l)))
    (λ (l : b ≤ℤ a). int_min_of_ge (a *ℤ c) (b *ℤ c) (int_mul_le_right b a c p l) ∙ ap (λ x. x *ℤ c) (sym (int_min_of_ge a b l)))
    (int_le_total a b)

pub int_max_mul : (a b c : ℤ) → pos 0 ≤ℤ c → int_max (a *ℤ c) (b *ℤ c) ≡ int_max a b *ℤ c
int_max_mul a b c p =
    ⊎_elim
    (λ (l : a ≤ℤ b). int_max_of_le (a *ℤ c) (b *ℤ c) (int_mul_le_right a b c p l) ∙ ap (λ x. x *ℤ c) (sym (int_max_of_le a b l)))
    (λ (l : b ≤ℤ a). int_max_of_ge (a *ℤ c) (b *ℤ c) (int_mul_le_right b a c p l) ∙ ap (λ x. x *ℤ c) (sym (int_max_of_ge a b l)))
    (int_le_total a b)

-- a multiple of a number between two bounds lies between the multiples of the bounds
pub int_min_le_mul : (r low high x : ℤ) → low ≤ℤ x → x ≤ℤ high → int_min (r *ℤ low) (r *ℤ high) ≤ℤ (r *ℤ x)
int_min_le_mul r low high x p q =
    ⊎_elim
    (λ (s : pos 0 ≤ℤ r). int_le_trans _ _ _ (int_min_le_left (r *ℤ low) (r *ℤ high)) (int_mul_le_left low x r s p))
    (λ (s : r ≤ℤ pos 0). int_le_trans _ _ _ (int_min_le_right (r *ℤ low) (r *ℤ high)) (int_mul_le_left_neg x high r s q))
    (int_le_total (pos 0) r)

pub int_mul_le_max : (r low high x : ℤ) → low ≤ℤ x → x ≤ℤ high → (r *ℤ x) ≤ℤ int_max (r *ℤ low) (r *ℤ high)
int_mul_le_max r low high x p q =
    ⊎_elim
    (λ (s : pos 0 ≤ℤ r). int_le_trans _ _ _ (int_mul_le_left x high r s q) (int_le_max_right (r *ℤ low) (r *ℤ high)))
    (λ (s : r ≤ℤ pos 0). int_le_trans _ _ _ (int_mul_le_left_neg low x r s p) (int_le_max_left (r *ℤ low) (r *ℤ high)))
    (int_le_total (pos 0) r)
