-- How lowest terms are made: from the magnitudes of two numbers and a sign; and the least common multiple of two naturals.
use Rattle.std.specs.Prelude.{◌≡◌, ◌≢◌, ℕ, ◌*◌, ◌<◌, ℤ, pos, neg_ℤ, int_lt, unsigned_abs}
use Rattle.std.specs.Int.{IsGcd, ◌∣◌}

-- t/d are the lowest terms of the magnitudes of z and w, where w isn't 0
pub record AreLowest (t d : ℕ) (z w : ℤ) : Type 0 where
  pub defined : w ≢ pos 0
  pub same : t * unsigned_abs w ≡ unsigned_abs z * d
  pub lowest : IsGcd t d 1
  pub positive : 0 < d

-- n is the magnitude t with the sign of z/w
pub record HasSign (n : ℤ) (t : ℕ) (z w : ℤ) : Type 0 where
  pub same : int_lt z (pos 0) ≡ int_lt w (pos 0) → n ≡ pos t
  pub other : int_lt z (pos 0) ≢ int_lt w (pos 0) → n ≡ neg_ℤ (pos t)

-- a multiple of both that divides every common multiple
pub record IsLeastCommonMultiple (a b m : ℕ) : Type 0 where
  pub left : a ∣ m
  pub right : b ∣ m
  pub least : (k : ℕ) → a ∣ k → b ∣ k → m ∣ k
