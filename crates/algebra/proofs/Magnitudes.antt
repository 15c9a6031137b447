-- Magnitudes of whole numbers, and when a number fits 64 or 128 bits.
use Rattle.std.proofs.Common.{◌≡◌, ℕ, ◌+◌, ◌*◌, ◌^◌, ◌≤◌, ◌<◌, arith}
use Rattle.std.specs.Prelude.{ℤ, pos, neg_ℤ, ◌+ℤ◌, ◌-ℤ◌, ◌*ℤ◌, ◌≤ℤ◌, FitsSigned, unsigned_abs}
use Rattle.std.specs.Int.{int_min, int_max, w64, w128}
use Rattle.std.proofs.Math.Nat.{mul-le-mul}
use Rattle.std.proofs.lemmas.Int.{ints, clamps, unsigned_abs-mul}

-- ---- magnitudes

pub unsigned_abs_pos : (n : ℕ) → unsigned_abs (pos n) ≡ n
unsigned_abs_pos n = omega (arith, ints)

pub unsigned_abs_neg : (a : ℤ) → unsigned_abs (neg_ℤ a) ≡ unsigned_abs a
unsigned_abs_neg a = omega (arith, ints)

-- the triangle inequality
pub unsigned_abs_add : (a b : ℤ) → unsigned_abs (a +ℤ b) ≤ unsigned_abs a + unsigned_abs b
unsigned_abs_add a b = omega (arith, ints)

pub unsigned_abs_sub : (a b : ℤ) → unsigned_abs (a -ℤ b) ≤ unsigned_abs a + unsigned_abs b
unsigned_abs_sub a b = omega (arith, ints)

pub unsigned_abs_mul : (a b : ℤ) → unsigned_abs (a *ℤ b) ≡ unsigned_abs a * unsigned_abs b
unsigned_abs_mul a b = unsigned_abs-mul a b

-- magnitudes from bounds of the parts
pub unsigned_abs_add_le : (a b : ℤ) (m n : ℕ) → unsigned_abs a ≤ m → unsigned_abs b ≤ n → unsigned_abs (a +ℤ b) ≤ m + n
unsigned_abs_add_le a b m n p q = omega (arith, ints)

pub unsigned_abs_sub_le : (a b : ℤ) (m n : ℕ) → unsigned_abs a ≤ m → unsigned_abs b ≤ n → unsigned_abs (a -ℤ b) ≤ m + n
unsigned_abs_sub_le a b m n p q = omega (arith, ints)

pub unsigned_abs_mul_le : (a b : ℤ) (m n : ℕ) → unsigned_abs a ≤ m → unsigned_abs b ≤ n → unsigned_abs (a *ℤ b) ≤ m * n
unsigned_abs_mul_le a b m n p q = omega (arith, unsigned_abs-mul a b, mul-le-mul p q)

pub unsigned_abs_min_le : (a b : ℤ) (n : ℕ) → unsigned_abs a ≤ n → unsigned_abs b ≤ n → unsigned_abs (int_min a b) ≤ n
unsigned_abs_min_le a b n p q = omega (arith, ints, clamps)

pub unsigned_abs_max_le : (a b : ℤ) (n : ℕ) → unsigned_abs a ≤ n → unsigned_abs b ≤ n → unsigned_abs (int_max a b) ≤ n
unsigned_abs_max_le a b n p q = omega (arith, ints, clamps)

-- a magnitude within n says two bounds, and the other way round
pub unsigned_abs_le : (a : ℤ) (n : ℕ) → neg_ℤ (pos n) ≤ℤ a → a ≤ℤ pos n → unsigned_abs a ≤ n
unsigned_abs_le a n p q = omega (arith, ints)

pub le_unsigned_abs : (a : ℤ) → a ≤ℤ pos (unsigned_abs a)
le_unsigned_abs a = omega (arith, ints)

pub neg_unsigned_abs_le : (a : ℤ) → neg_ℤ (pos (unsigned_abs a)) ≤ℤ a
neg_unsigned_abs_le a = omega (arith, ints)

pub le_of_unsigned_abs : (a : ℤ) (n : ℕ) → unsigned_abs a ≤ n → a ≤ℤ pos n
le_of_unsigned_abs a n p = omega (arith, ints)

pub neg_le_of_unsigned_abs : (a : ℤ) (n : ℕ) → unsigned_abs a ≤ n → neg_ℤ (pos n) ≤ℤ a
neg_le_of_unsigned_abs a n p = omega (arith, ints)

-- a number that is not negative is its magnitude
pub pos_unsigned_abs : (a : ℤ) → pos 0 ≤ℤ a → pos (unsigned_abs a) ≡ a
pos_unsigned_abs a p = omega (arith, ints)

-- a number of no magnitude is 0
pub zero_of_unsigned_abs : (a : ℤ) → unsigned_abs a ≡ 0 → a ≡ pos 0
zero_of_unsigned_abs a p = omega (arith, ints)

-- ---- fitting a width

pub fits_w128 : (a : ℤ) → unsigned_abs a < 2 ^ 127 → FitsSigned w128 a
fits_w128 a p = omega (arith, ints)

pub fits_w64 : (a : ℤ) → unsigned_abs a < 2 ^ 63 → FitsSigned w64 a
fits_w64 a p = omega (arith, ints)

pub fits_w128_within : (a : ℤ) (n : ℕ) → neg_ℤ (pos n) ≤ℤ a → a ≤ℤ pos n → n < 2 ^ 127 → FitsSigned w128 a
fits_w128_within a n p q r = omega (arith, ints)

pub fits_w128_add : (a b : ℤ) (m n : ℕ) → unsigned_abs a ≤ m → unsigned_abs b ≤ n → m + n < 2 ^ 127 → FitsSigned w128 (a +ℤ b)
fits_w128_add a b m n p q r = omega (arith, ints)

pub fits_w128_sub : (a b : ℤ) (m n : ℕ) → unsigned_abs a ≤ m → unsigned_abs b ≤ n → m + n < 2 ^ 127 → FitsSigned w128 (a -ℤ b)
fits_w128_sub a b m n p q r = omega (arith, ints)

pub fits_w128_mul : (a b : ℤ) (m n : ℕ) → unsigned_abs a ≤ m → unsigned_abs b ≤ n → m * n < 2 ^ 127 → FitsSigned w128 (a *ℤ b)
fits_w128_mul a b m n p q r = let h = unsigned_abs_mul_le a b m n p q in fits_w128 (a *ℤ b) (omega arith)

pub unsigned_abs_of_fits_w128 : (a : ℤ) → FitsSigned w128 a → unsigned_abs a ≤ 2 ^ 127
unsigned_abs_of_fits_w128 a p = omega (arith, ints)
