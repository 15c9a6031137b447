-- The ring laws of the whole numbers, as lemmas and as the set `mults` for `simp`.
-- An equation of polynomials: `simp mults (omega (arith, ints))`.
use Rattle.std.proofs.Common.{◌≡◌, ℕ, ◌*◌, arith, ap, sym, ◌∙◌}
use Rattle.std.specs.Prelude.{ℤ, pos, neg_ℤ, ◌+ℤ◌, ◌-ℤ◌, ◌*ℤ◌}
use Rattle.std.proofs.lemmas.Int.{ints}
use borrow.Author.Differences.{up, down, sum_is_lem, product_is}

pub int_mul_comm : (a b : ℤ) → a *ℤ b ≡ b *ℤ a
int_mul_comm a b = omega (arith, ints)

pub int_mul_assoc : (a b c : ℤ) → a *ℤ b *ℤ c ≡ a *ℤ (b *ℤ c)
int_mul_assoc a b c =
    let left = product_is a b in
    let right = product_is b c in
    omega (
      arith,
      ints,
      ap (λ n. n * up c) left.0,
      ap (λ n. n * up c) left.1,
      ap (λ n. n * down c) left.0,
      ap (λ n. n * down c) left.1,
      ap (λ n. up a * n) right.0,
      ap (λ n. up a * n) right.1,
      ap (λ n. down a * n) right.0,
      ap (λ n. down a * n) right.1,
    )

pub int_mul_left_comm : (a b c : ℤ) → a *ℤ (b *ℤ c) ≡ b *ℤ (a *ℤ c)
int_mul_left_comm a b c = sym (int_mul_assoc a b c) ∙ ap (λ x. x *ℤ c) (int_mul_comm a b) ∙ int_mul_assoc b a c

-- a product distributes over a sum
pub int_mul_add : (a b c : ℤ) → a *ℤ (b +ℤ c) ≡ a *ℤ b +ℤ a *ℤ c
int_mul_add a b c =
    omega (arith, ints, ap (λ n. up a * n) (sum_is_lem b c), ap (λ n. down a * n) (sum_is_lem b c))

pub int_add_mul : (a b c : ℤ) → (a +ℤ b) *ℤ c ≡ a *ℤ c +ℤ b *ℤ c
int_add_mul a b c =
    omega (arith, ints, ap (λ n. up c * n) (sum_is_lem a b), ap (λ n. down c * n) (sum_is_lem a b))

pub int_neg_mul : (a b : ℤ) → neg_ℤ a *ℤ b ≡ neg_ℤ (a *ℤ b)
int_neg_mul a b = grind (arith, ints)

pub int_mul_neg : (a b : ℤ) → a *ℤ neg_ℤ b ≡ neg_ℤ (a *ℤ b)
int_mul_neg a b = grind (arith, ints)

-- a difference is a sum with the opposite, so this follows from the laws above
pub int_mul_sub : (a b c : ℤ) → a *ℤ (b -ℤ c) ≡ a *ℤ b -ℤ a *ℤ c
int_mul_sub a b c = simp (int_mul_add, int_mul_neg)

pub int_sub_mul : (a b c : ℤ) → (a -ℤ b) *ℤ c ≡ a *ℤ c -ℤ b *ℤ c
int_sub_mul a b c = simp (int_add_mul, int_neg_mul)

pub int_mul_one : (a : ℤ) → a *ℤ pos 1 ≡ a
int_mul_one a = omega (arith, ints)

pub int_one_mul : (a : ℤ) → pos 1 *ℤ a ≡ a
int_one_mul a = omega (arith, ints)

pub int_mul_zero : (a : ℤ) → a *ℤ pos 0 ≡ pos 0
int_mul_zero a = omega (arith, ints)

pub int_zero_mul : (a : ℤ) → pos 0 *ℤ a ≡ pos 0
int_zero_mul a = omega (arith, ints)

pub int_add_comm : (a b : ℤ) → a +ℤ b ≡ b +ℤ a
int_add_comm a b = omega (arith, ints)

pub int_add_assoc : (a b c : ℤ) → a +ℤ b +ℤ c ≡ a +ℤ (b +ℤ c)
int_add_assoc a b c = omega (arith, ints)

pub int_add_left_comm : (a b c : ℤ) → a +ℤ (b +ℤ c) ≡ b +ℤ (a +ℤ c)
int_add_left_comm a b c = omega (arith, ints)

pub int_neg_neg : (a : ℤ) → neg_ℤ (neg_ℤ a) ≡ a
int_neg_neg a = omega (arith, ints)

pub int_neg_add : (a b : ℤ) → neg_ℤ (a +ℤ b) ≡ neg_ℤ a +ℤ neg_ℤ b
int_neg_add a b = omega (arith, ints)

-- what brings products to sorted form: multiplied out, signs in front, factors in one order
pub ruleset mults = (int_mul_assoc, int_mul_comm, int_mul_left_comm, int_mul_add, int_add_mul, int_neg_mul, int_mul_neg)

-- a numeral at the end of a product of three, four or five factors, where `simp mults` leaves it
pub numeral_of_three : (a b : ℤ) (n : ℕ) → (up (a *ℤ (b *ℤ pos n)) ≡ up (a *ℤ b) * n) × (down (a *ℤ (b *ℤ pos n)) ≡ down (a *ℤ b) * n)
numeral_of_three a b n =
    let e = int_mul_assoc a b (pos n) in
    let m = product_is (a *ℤ b) (pos n) in
    (ap up (sym e) ∙ m.0 ∙ omega arith, ap down (sym e) ∙ m.1 ∙ omega arith)

pub numeral_of_four : (a b c : ℤ) (n : ℕ) → (up (a *ℤ (b *ℤ (c *ℤ pos n))) ≡ up (a *ℤ (b *ℤ c)) * n) × (down (a *ℤ (b *ℤ (c *ℤ pos n))) ≡ down (a *ℤ (b *ℤ c)) * n)
numeral_of_four a b c n =
    let e = ap (λ x. a *ℤ x) (int_mul_assoc b c (pos n)) in
    let m = numeral_of_three a (b *ℤ c) n in
    (ap up (sym e) ∙ m.0, ap down (sym e) ∙ m.1)

pub numeral_of_five : (a b c d : ℤ) (n : ℕ) → (up (a *ℤ (b *ℤ (c *ℤ (d *ℤ pos n)))) ≡ up (a *ℤ (b *ℤ (c *ℤ d))) * n) × (down (a *ℤ (b *ℤ (c *ℤ (d *ℤ pos n)))) ≡ down (a *ℤ (b *ℤ (c *ℤ d))) * n)
numeral_of_five a b c d n =
    let e = ap (λ x. a *ℤ (b *ℤ x)) (int_mul_assoc c d (pos n)) in
    let m = numeral_of_four a b (c *ℤ d) n in
    (ap up (sym e) ∙ m.0, ap down (sym e) ∙ m.1)

-- those, for `omega`: `simp mults (omega (arith, ints, numerals))`
pub ruleset numerals = (numeral_of_three, numeral_of_four, numeral_of_five)
