-- What a test tells, as its answer is true or false.
use Rattle.std.proofs.Common.{◌≡◌, ◌≤◌, ◌<◌, ℕ, ◌⊎◌, ⊎_elim, Bool, true, false, arith}
use Rattle.std.specs.Prelude.{IsTrue, ◌↔◌}

pub told_true : {P : Type 0} (b : Bool) → b ≡ true → (IsTrue b ↔ P) → P
told_true b e h = h.0 e

pub told_false : {P : Type 0} (b : Bool) → b ≡ false → (IsTrue b ↔ P) → P → ⊥
told_false b e h p = let f : b ≡ true = h.1 p in cc

-- a number past which there is none
pub beyond : (m n : ℕ) → (m ≤ n → false ≡ true) → n < m
beyond m n h = ⊎_elim (λ (l : n < m). l) (λ (l : m ≤ n). let e = h l in absurd (cc)) (cases n m)
  where
    cases : (a b : ℕ) → (a < b) ⊎ (b ≤ a)
    cases a b = grind arith
