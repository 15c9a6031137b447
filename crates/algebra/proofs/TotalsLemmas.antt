-- The laws of `total_to`. A function's values count from 1; a premise at each k may use that k lies in 1..n.
use Rattle.std.proofs.Common.{◌≡◌, ℕ, zero, suc, ◌+◌, ◌-◌, ◌*◌, ◌≤◌, ◌<◌, arith, ap, sym, ◌∙◌, refl, ⊎_elim}
use Rattle.std.specs.Prelude.{ℤ, unsigned_abs}
use Rattle.std.proofs.Math.Nat.{add-mul, mul-add}
use Rattle.std.proofs.lemmas.Int.{ints}
use Rattle.std.proofs.lemmas.Bool.{cases_lt}
use Rattle.algebra.specs.Sums.{sum_to}
use Rattle.algebra.specs.Totals.{total_to}

-- one more summand, as code counts it
pub total_to_step : (f : ℕ → ℕ) (n : ℕ) → total_to f (n + 1) ≡ total_to f n + f (n + 1)
total_to_step f n = let e : n + 1 ≡ suc n = omega arith in ap (total_to f) e ∙ ap (λ k. total_to f n + f k) (sym e)

-- functions that agree at 1..n have equal totals
pub total_to_ext : (f g : ℕ → ℕ) (n : ℕ) → ((k : ℕ) → 1 ≤ k → k ≤ n → f k ≡ g k) → total_to f n ≡ total_to g n
total_to_ext f g zero h = refl
total_to_ext f g (suc n) h =
    let before = total_to_ext f g n (λ k low high. h k low (omega arith)) in
    let last = h (suc n) (omega arith) (omega arith) in
    omega arith

pub total_to_zero : (f : ℕ → ℕ) (n : ℕ) → ((k : ℕ) → 1 ≤ k → k ≤ n → f k ≡ 0) → total_to f n ≡ 0
total_to_zero f zero h = refl
total_to_zero f (suc n) h =
    let before = total_to_zero f n (λ k low high. h k low (omega arith)) in
    let last = h (suc n) (omega arith) (omega arith) in
    omega arith

pub total_to_add : (f g : ℕ → ℕ) (n : ℕ) → total_to (λ k. f k + g k) n ≡ total_to f n + total_to g n
total_to_add f g zero = refl
total_to_add f g (suc n) = let before = total_to_add f g n in omega arith

pub total_to_mul_right : (c : ℕ) (f : ℕ → ℕ) (n : ℕ) → total_to (λ k. f k * c) n ≡ total_to f n * c
total_to_mul_right c f zero = omega arith
total_to_mul_right c f (suc n) =
    let before = total_to_mul_right c f n in
    omega (arith, add-mul (total_to f n) (f (suc n)) c)

pub total_to_le : (f g : ℕ → ℕ) (n : ℕ) → ((k : ℕ) → 1 ≤ k → k ≤ n → f k ≤ g k) → total_to f n ≤ total_to g n
total_to_le f g zero h = omega arith
total_to_le f g (suc n) h =
    let before = total_to_le f g n (λ k low high. h k low (omega arith)) in
    let last = h (suc n) (omega arith) (omega arith) in
    omega arith

-- totals only grow, and each summand is at most the total
pub total_to_mono : (f : ℕ → ℕ) (m n : ℕ) → m ≤ n → total_to f m ≤ total_to f n
total_to_mono f m zero p = let e : m ≡ zero = omega arith in let s = ap (total_to f) e in omega arith
total_to_mono f m (suc n) p =
    ⊎_elim
    (λ (l : m < suc n). let before = total_to_mono f m n (omega arith) in omega arith)
    (λ (l : suc n ≤ m). let e : m ≡ suc n = omega arith in let s = ap (total_to f) e in omega arith)
    (cases_lt m (suc n))

pub le_total_to : (f : ℕ → ℕ) (k n : ℕ) → 1 ≤ k → k ≤ n → f k ≤ total_to f n
le_total_to f zero n p q = absurd (omega arith)
le_total_to f (suc k) n p q = let all = total_to_mono f (suc k) n q in omega arith

-- a total whose summands are at most b
pub total_to_bound : (f : ℕ → ℕ) (b n : ℕ) → ((k : ℕ) → 1 ≤ k → k ≤ n → f k ≤ b) → total_to f n ≤ n * b
total_to_bound f b zero h = omega arith
total_to_bound f b (suc n) h =
    let before = total_to_bound f b n (λ k low high. h k low (omega arith)) in
    let last = h (suc n) (omega arith) (omega arith) in
    omega arith

-- a total whose summands are 0 but at one place is that summand
pub total_to_only : (f : ℕ → ℕ) (p n : ℕ) → 1 ≤ p → p ≤ n → ((k : ℕ) → 1 ≤ k → k ≤ n → (k ≡ p → ⊥) → f k ≡ 0) → total_to f n ≡ f p
total_to_only f p zero low high h = absurd (omega arith)
total_to_only f p (suc n) low high h =
    ⊎_elim
    (λ (l : p < suc n).
    let before = total_to_only f p n low (omega arith) (λ k a b. h k a (omega arith)) in
    let last = h (suc n) (omega arith) (omega arith) (λ e. omega arith) in
    omega arith)
    (λ (l : suc n ≤ p).
    let e : suc n ≡ p = omega arith in
    let before = total_to_zero f n (λ k a b. h k a (omega arith) (λ e. omega arith)) in
    let last = ap f e in
    omega arith)
    (cases_lt p (suc n))

-- the total from the front: the first summand, and those behind it
pub total_to_front : (f : ℕ → ℕ) (n : ℕ) → total_to f (suc n) ≡ f 1 + total_to (λ k. f (suc k)) n
total_to_front f zero = omega arith
total_to_front f (suc n) = let before = total_to_front f n in omega arith

-- the magnitude of a sum is at most the total of the magnitudes
pub unsigned_abs_sum_to_total : (f : ℕ → ℤ) (n : ℕ) → unsigned_abs (sum_to f n) ≤ total_to (λ k. unsigned_abs (f k)) n
unsigned_abs_sum_to_total f zero = omega (arith, ints)
unsigned_abs_sum_to_total f (suc n) = let before = unsigned_abs_sum_to_total f n in omega (arith, ints)

-- the total of one number n times, of a multiple, and of totals in either order

pub total_to_const : (c n : ℕ) → total_to (λ _. c) n ≡ n * c
total_to_const c zero = omega arith
total_to_const c (suc n) = omega (arith, total_to_const c n)

pub total_to_same : (f : ℕ → ℕ) (c n : ℕ) → ((k : ℕ) → 1 ≤ k → k ≤ n → f k ≡ c) → total_to f n ≡ n * c
total_to_same f c n h = total_to_ext f (λ _. c) n h ∙ total_to_const c n

pub total_to_mul_left : (c : ℕ) (f : ℕ → ℕ) (n : ℕ) → total_to (λ k. c * f k) n ≡ c * total_to f n
total_to_mul_left c f zero = omega arith
total_to_mul_left c f (suc n) = omega (arith, total_to_mul_left c f n, mul-add c (total_to f n) (f (suc n)))

pub total_to_swap : (f : ℕ → ℕ → ℕ) (m n : ℕ) → total_to (λ i. total_to (λ j. f i j) n) m ≡ total_to (λ j. total_to (λ i. f i j) m) n
total_to_swap f zero n = sym (total_to_zero (λ _. 0) n (λ k low high. refl))
total_to_swap f (suc m) n =
    ap (λ x. x + total_to (λ j. f (suc m) j) n) (total_to_swap f m n)
    ∙ sym (total_to_add (λ j. total_to (λ i. f i j) m) (λ j. f (suc m) j) n)

-- each value but the first and the last stands twice among neighbours
pub total_to_neighbours : (f : ℕ → ℕ) (n : ℕ) → f 0 ≡ 0 → f (suc n) ≡ 0 → total_to (λ i. f (i - 1) + f i) (suc n) ≡ 2 * total_to f n
total_to_neighbours f n first last =
    let both = total_to_add (λ i. f (i - 1)) f (suc n) in
    let front = total_to_front (λ i. f (i - 1)) n in
    let shifted = total_to_ext (λ k. f (suc k - 1)) f n (λ k low high. ap f (omega arith)) in
    omega arith
