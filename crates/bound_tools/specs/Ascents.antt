-- Changes of single multipliers that raise the value of a scale and multipliers, and multipliers that no change by 1 raises.
use Rattle.std.specs.Prelude.{◌≡◌, ℕ, ◌-◌, ◌⊎◌, List, slice_set, ℤ, pos, negsuc, ◌+ℤ◌, ◌≤ℤ◌, ◌<ℤ◌}
use Rattle.algebra.specs.Numbered.{IsNumber}
use Rattle.programs.specs.Programs.{Program, row_count}
use Rattle.safe_bounds.specs.Values.{AreMultipliers, HasRightSigns, multiplier_at, value_of}

-- one multiplier for each row, within the limit, and none of a row that asks for at least its right side is below 0
pub record AreAllowed (program : Program) (mults : List ℤ) : Type 0 where
  pub within : AreMultipliers program mults
  pub signs : HasRightSigns program mults

-- the multipliers with that of row i changed
abbrev pub changed : List ℤ → ℕ → ℤ → List ℤ
changed mults i by = slice_set mults (i - 1) (multiplier_at mults i +ℤ by)

-- 1 or -1
abbrev pub IsUnit : ℤ → Type 0
IsUnit by = (by ≡ pos 1) ⊎ (by ≡ negsuc 0)

-- no allowed change of row i's multiplier by 1, up or down, raises the value
abbrev pub IsBestAt : Program → ℤ → List ℤ → ℕ → Type 0
IsBestAt program scale mults i =
    (by : ℤ) → IsUnit by → AreAllowed program (changed mults i by) → value_of program scale (changed mults i by) ≤ℤ value_of program scale mults

-- no allowed change of a single multiplier by 1 raises the value
pub record IsBestByOnes (program : Program) (scale : ℤ) (mults : List ℤ) : Type 0 where
  pub each : (i : ℕ) → IsNumber i (row_count program) → IsBestAt program scale mults i

-- the value rose, or the multipliers are the old ones, and no allowed change of a single one by 1 raises their value
abbrev pub RoseOrIsBest : Program → ℤ → List ℤ → List ℤ → Type 0
RoseOrIsBest program scale old new =
    (value_of program scale old <ℤ value_of program scale new) ⊎ ((new ≡ old) × IsBestByOnes program scale old)
