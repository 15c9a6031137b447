-- Products over lists: one entry replaced by two others in turn, and products that are no less than 1.
use Rattle.std.proofs.Common.{◌≡◌, ℕ, zero, suc, ◌+◌, ◌*◌, ◌≤◌, ◌<◌, List, [], ◌∷◌, length, get_or, set, arith}
use Rattle.std.proofs.Math.Nat.{mul-le-mul, mul-le-mul_left, mul-le-mul_right}
use Rattle.branch_bound.specs.inside.Choices.{product_from}

scaled_sum : (c a b d : ℕ) → a + b ≤ d → c * a + c * b ≤ c * d
scaled_sum c a b d h = let m = mul-le-mul_left c h in omega (arith, m)

sum_scaled : (a b d p : ℕ) → a + b ≤ d → a * p + b * p ≤ d * p
sum_scaled a b d p h = let m = mul-le-mul_right p h in omega (arith, m)

at_least_one_times : (a b : ℕ) → 1 ≤ a → 1 ≤ b → 1 ≤ a * b
at_least_one_times a b h k = mul-le-mul h k

pub times_at_most : (a b c d : ℕ) → a ≤ b → c ≤ d → a * c ≤ b * d
times_at_most a b c d h k = mul-le-mul h k

module _ {A : Type 0} (f : ℕ → A → ℕ) where
  -- where two entries' values add up to no more than the old one's, so do the products
  pub set_twice : (xs : List A) (n i : ℕ) (a b other : A) → i < length xs
      → ((m : ℕ) → m ≡ n + i → f m a + f m b ≤ f m (get_or xs i other))
      → product_from f n (set xs i a) + product_from f n (set xs i b) ≤ product_from f n xs
  set_twice [] n i a b other l h = absurd (omega arith)
  set_twice (x ∷ xs) n zero a b other l h =
      sum_scaled (f n a) (f n b) (f n x) (product_from f (suc n) xs) (h n (omega arith))
  set_twice (x ∷ xs) n (suc i) a b other l h =
      scaled_sum (f n x) (product_from f (suc n) (set xs i a)) (product_from f (suc n) (set xs i b)) (product_from f (suc n) xs)
      (set_twice xs (suc n) i a b other (omega arith) (λ m e. h m (omega arith)))

  pub product_from_one : (xs : List A) (n : ℕ) (other : A)
      → ((i m : ℕ) → i < length xs → m ≡ n + i → 1 ≤ f m (get_or xs i other)) → 1 ≤ product_from f n xs
  product_from_one [] n other h = omega arith
  product_from_one (x ∷ xs) n other h =
      at_least_one_times (f n x) (product_from f (suc n) xs) (h 0 n (omega arith) (omega arith))
      (product_from_one xs (suc n) other (λ i m l e. h (suc i) m (omega arith) (omega arith)))
