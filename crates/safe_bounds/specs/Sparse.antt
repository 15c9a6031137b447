-- Multipliers as they are written down: pairs of a row's number, from 1, and its multiplier. Other rows have 0.
use Rattle.std.specs.Prelude.{ℕ, zero, suc, ◌<◌, ◌≤◌, List, [], ◌∷◌, ◌++◌, ℤ, pos, ◌==◌, if◌then◌else◌}

-- the multiplier that the pairs give row i
abbrev pub told : List (ℕ × ℤ) → ℕ → ℤ
told [] i = pos 0
told (p ∷ ps) i = if p.0 == i then p.1 else told ps i

-- the multipliers of rows 1 to that number, one by one
abbrev pub dense : ℕ → List (ℕ × ℤ) → List ℤ
dense zero pairs = []
dense (suc count) pairs = dense count pairs ++ (told pairs (suc count) ∷ [])

-- the pairs name rows after `before`, up to `count`, in rising order
abbrev pub RisesByRow : ℕ → ℕ → List (ℕ × ℤ) → Type 0
RisesByRow before count [] = before ≤ count
RisesByRow before count (p ∷ ps) = (before < p.0) × RisesByRow p.0 count ps
