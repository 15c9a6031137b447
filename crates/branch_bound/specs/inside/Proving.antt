-- What is proved of one box, by multipliers that were narrowed.
use Rattle.std.specs.Prelude.{◌≡◌, ℕ, ◌≤◌, ◌<◌, ◌⊎◌, ◌^◌, List, slice_index_or, ℤ, pos, ◌≤ℤ◌, ◌<ℤ◌, unsigned_abs}
use Rattle.std.specs.List.{Contains}
use Rattle.algebra.specs.Scale.{IsScale, greatest_scale}
use Rattle.programs.specs.Programs.{Program, row_count}
use Rattle.safe_bounds.specs.Values.{HasRightSigns}
use Rattle.safe_bounds.specs.Sparse.{dense}
use Rattle.cert_tree.specs.Trees.{AreMultipliersBehind}
use Rattle.cert_tree.specs.Soundness.{told_value}
use Rattle.branch_bound.specs.NoteKeys.{IsNarrowKey}
use Rattle.branch_bound.specs.declared.work.Proved.{Proved}

-- the narrowed scale and multipliers, as they are written down, with their value
pub record IsProvedOn (program : Program) (scale : ℤ) (mults : List ℤ) (proved : Proved) : Type 0 where
  pub scale_within : IsScale proved.scale
  pub on_rows : AreMultipliersBehind (row_count program) 0 proved.mults
  pub right_signs : HasRightSigns program (dense (row_count program) proved.mults)
  pub value_is : proved.value ≡ told_value program proved.scale proved.mults
  pub value_within : unsigned_abs proved.value ≤ 2 ^ 86
  pub narrow_key : IsNarrowKey program scale mults (proved.value, proved.scale)

-- the scale, or the magnitude of a multiplier, and past the limit
pub record IsNumberPastLimit (scale : ℤ) (mults : List ℤ) (number : ℤ) : Type 0 where
  pub past : pos greatest_scale <ℤ number
  pub own : (number ≡ scale) ⊎ ((y : ℤ) × (Contains mults y × (number ≡ pos (unsigned_abs y))))

-- the greatest magnitude of the first numbers, 0 of none
pub record IsGreatestOf (numbers : List ℤ) (count : ℕ) (greatest : ℤ) : Type 0 where
  pub from_zero : pos 0 ≤ℤ greatest
  pub each : (k : ℕ) (other : ℤ) → k < count → pos (unsigned_abs (slice_index_or numbers k other)) ≤ℤ greatest
  pub one : pos 0 <ℤ greatest → (y : ℤ) × (Contains numbers y × (pos (unsigned_abs y) ≡ greatest))
