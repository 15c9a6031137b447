-- The laws of `sum_to`. A function's values count from 1; a premise at each k may use that k lies in 1..n.
use Rattle.std.proofs.Common.{◌≡◌, ℕ, zero, suc, ◌+◌, ◌-◌, ◌*◌, ◌≤◌, ◌<◌, arith, ap, sym, ◌∙◌, refl, ⊎_elim}
use Rattle.std.specs.Prelude.{ℤ, pos, neg_ℤ, ◌+ℤ◌, ◌-ℤ◌, ◌*ℤ◌, ◌≤ℤ◌, unsigned_abs}
use Rattle.std.proofs.lemmas.Int.{ints}
use Rattle.std.proofs.lemmas.Bool.{cases_lt}
use Rattle.algebra.specs.Sums.{sum_to}
use Rattle.algebra.proofs.Products.{int_mul_add, int_add_mul, int_mul_zero}

-- one more summand, as code counts it
pub sum_to_step : (f : ℕ → ℤ) (n : ℕ) → sum_to f (n + 1) ≡ sum_to f n +ℤ f (n + 1)
sum_to_step f n = let e : n + 1 ≡ suc n = omega arith in ap (sum_to f) e ∙ ap (λ k. sum_to f n +ℤ f k) (sym e)

-- the last summand of a sum that isn't empty
pub sum_to_last : (f : ℕ → ℤ) (n k : ℕ) → n ≡ suc k → sum_to f n ≡ sum_to f k +ℤ f n
sum_to_last f n k e = ap (sum_to f) e ∙ ap (λ j. sum_to f k +ℤ f j) (sym e)

-- functions that agree at 1..n have equal sums
pub sum_to_ext : (f g : ℕ → ℤ) (n : ℕ) → ((k : ℕ) → 1 ≤ k → k ≤ n → f k ≡ g k) → sum_to f n ≡ sum_to g n
sum_to_ext f g zero h = refl
sum_to_ext f g (suc n) h =
    let before = sum_to_ext f g n (λ k low high. h k low (omega arith)) in
    let last = h (suc n) (omega arith) (omega arith) in
    omega (arith, ints)

pub sum_to_zero : (f : ℕ → ℤ) (n : ℕ) → ((k : ℕ) → 1 ≤ k → k ≤ n → f k ≡ pos 0) → sum_to f n ≡ pos 0
sum_to_zero f zero h = refl
sum_to_zero f (suc n) h =
    let before = sum_to_zero f n (λ k low high. h k low (omega arith)) in
    let last = h (suc n) (omega arith) (omega arith) in
    omega (arith, ints)

-- the sum of one number n times
pub sum_to_const : (c : ℤ) (n : ℕ) → sum_to (λ _. c) n ≡ pos n *ℤ c
sum_to_const c zero = omega (arith, ints)
sum_to_const c (suc n) = let before = sum_to_const c n in omega (arith, ints)

pub sum_to_add : (f g : ℕ → ℤ) (n : ℕ) → sum_to (λ k. f k +ℤ g k) n ≡ sum_to f n +ℤ sum_to g n
sum_to_add f g zero = refl
sum_to_add f g (suc n) = let before = sum_to_add f g n in omega (arith, ints)

pub sum_to_neg : (f : ℕ → ℤ) (n : ℕ) → sum_to (λ k. neg_ℤ (f k)) n ≡ neg_ℤ (sum_to f n)
sum_to_neg f zero = refl
sum_to_neg f (suc n) = let before = sum_to_neg f n in omega (arith, ints)

pub sum_to_sub : (f g : ℕ → ℤ) (n : ℕ) → sum_to (λ k. f k -ℤ g k) n ≡ sum_to f n -ℤ sum_to g n
sum_to_sub f g zero = refl
sum_to_sub f g (suc n) = let before = sum_to_sub f g n in omega (arith, ints)

-- a constant factor comes out of a sum
pub sum_to_mul_left : (c : ℤ) (f : ℕ → ℤ) (n : ℕ) → sum_to (λ k. c *ℤ f k) n ≡ c *ℤ sum_to f n
sum_to_mul_left c f zero = sym (int_mul_zero c)
sum_to_mul_left c f (suc n) =
    let before = sum_to_mul_left c f n in
    omega (arith, ints, int_mul_add c (sum_to f n) (f (suc n)))

pub sum_to_mul_right : (c : ℤ) (f : ℕ → ℤ) (n : ℕ) → sum_to (λ k. f k *ℤ c) n ≡ sum_to f n *ℤ c
sum_to_mul_right c f zero = omega (arith, ints)
sum_to_mul_right c f (suc n) =
    let before = sum_to_mul_right c f n in
    omega (arith, ints, int_add_mul (sum_to f n) (f (suc n)) c)

pub sum_to_le : (f g : ℕ → ℤ) (n : ℕ) → ((k : ℕ) → 1 ≤ k → k ≤ n → f k ≤ℤ g k) → sum_to f n ≤ℤ sum_to g n
sum_to_le f g zero h = omega (arith, ints)
sum_to_le f g (suc n) h =
    let before = sum_to_le f g n (λ k low high. h k low (omega arith)) in
    let last = h (suc n) (omega arith) (omega arith) in
    omega (arith, ints)

pub sum_to_nonneg : (f : ℕ → ℤ) (n : ℕ) → ((k : ℕ) → 1 ≤ k → k ≤ n → pos 0 ≤ℤ f k) → pos 0 ≤ℤ sum_to f n
sum_to_nonneg f zero h = omega (arith, ints)
sum_to_nonneg f (suc n) h =
    let before = sum_to_nonneg f n (λ k low high. h k low (omega arith)) in
    let last = h (suc n) (omega arith) (omega arith) in
    omega (arith, ints)

-- a sum to m + n is the sum to m and the sum of the n behind it
pub sum_to_split : (f : ℕ → ℤ) (m n : ℕ) → sum_to f (m + n) ≡ sum_to f m +ℤ sum_to (λ k. f (m + k)) n
sum_to_split f m zero = let e : m + 0 ≡ m = omega arith in let s = ap (sum_to f) e in omega (arith, ints)
sum_to_split f m (suc n) =
    let e : m + suc n ≡ suc (m + n) = omega arith in
    let last = ap f e in
    let all = ap (sum_to f) e in
    let before = sum_to_split f m n in
    omega (arith, ints)

-- a sum of summands that are not negative only grows, and each summand is at most the sum
pub sum_to_mono : (f : ℕ → ℤ) (m n : ℕ) → ((k : ℕ) → 1 ≤ k → k ≤ n → pos 0 ≤ℤ f k) → m ≤ n → sum_to f m ≤ℤ sum_to f n
sum_to_mono f m n h p =
    let e : n ≡ m + (n - m) = omega arith in
    let all = ap (sum_to f) e in
    let rest = sum_to_nonneg (λ k. f (m + k)) (n - m) (λ k low high. h (m + k) (omega arith) (omega arith)) in
    omega (arith, ints, sum_to_split f m (n - m))

pub le_sum_to : (f : ℕ → ℤ) (k n : ℕ) → ((j : ℕ) → 1 ≤ j → j ≤ n → pos 0 ≤ℤ f j) → 1 ≤ k → k ≤ n → f k ≤ℤ sum_to f n
le_sum_to f k n h p q =
    let before = sum_to_nonneg f (k - 1) (λ j low high. h j low (omega arith)) in
    omega (arith, ints, sum_to_last f k (k - 1) (omega arith), sum_to_mono f k n h q)

-- magnitudes: of a sum whose summands are at most b, and against the sum of the magnitudes
pub unsigned_abs_sum_to : (f : ℕ → ℤ) (b n : ℕ) → ((k : ℕ) → 1 ≤ k → k ≤ n → unsigned_abs (f k) ≤ b) → unsigned_abs (sum_to f n) ≤ n * b
unsigned_abs_sum_to f b zero h = omega (arith, ints)
unsigned_abs_sum_to f b (suc n) h =
    let before = unsigned_abs_sum_to f b n (λ k low high. h k low (omega arith)) in
    let last = h (suc n) (omega arith) (omega arith) in
    omega (arith, ints)

pub unsigned_abs_sum_to_le : (f : ℕ → ℤ) (n : ℕ) → pos (unsigned_abs (sum_to f n)) ≤ℤ sum_to (λ k. pos (unsigned_abs (f k))) n
unsigned_abs_sum_to_le f zero = omega (arith, ints)
unsigned_abs_sum_to_le f (suc n) = let before = unsigned_abs_sum_to_le f n in omega (arith, ints)

-- two sums change places
pub sum_to_swap : (f : ℕ → ℕ → ℤ) (m n : ℕ) → sum_to (λ i. sum_to (λ j. f i j) n) m ≡ sum_to (λ j. sum_to (λ i. f i j) m) n
sum_to_swap f zero n = sym (sum_to_zero (λ _. pos 0) n (λ k low high. refl))
sum_to_swap f (suc m) n =
    ap (λ x. x +ℤ sum_to (λ j. f (suc m) j) n) (sum_to_swap f m n)
    ∙ sym (sum_to_add (λ j. sum_to (λ i. f i j) m) (λ j. f (suc m) j) n)

-- a sum whose summands are 0 but at one place is that summand
pub sum_to_only : (f : ℕ → ℤ) (p n : ℕ) → 1 ≤ p → p ≤ n → ((k : ℕ) → 1 ≤ k → k ≤ n → (k ≡ p → ⊥) → f k ≡ pos 0) → sum_to f n ≡ f p
sum_to_only f p zero low high h = absurd (omega arith)
sum_to_only f p (suc n) low high h =
    ⊎_elim
    (λ (l : p < suc n).
    let before = sum_to_only f p n low (omega arith) (λ k a b. h k a (omega arith)) in
    let last = h (suc n) (omega arith) (omega arith) (λ e. omega arith) in
    omega (arith, ints))
    (λ (l : suc n ≤ p).
    let e : suc n ≡ p = omega arith in
    let before = sum_to_zero f n (λ k a b. h k a (omega arith) (λ e. omega arith)) in
    let last = ap f e in
    omega (arith, ints))
    (cases_lt p (suc n))
