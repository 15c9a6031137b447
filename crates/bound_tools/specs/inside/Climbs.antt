-- An ascent on its way: what was tried at a row, and what a sweep over the rows and several sweeps have done so far.
use Rattle.std.specs.Prelude.{◌≡◌, ℕ, zero, suc, ◌≤◌, ◌^◌, List, Bool, true, false, ℤ, pos, ◌≤ℤ◌, ◌<ℤ◌, unsigned_abs}
use Rattle.term_store.specs.declared.side.Side.TheVariants.{AtLeast}
use Rattle.algebra.specs.Numbered.{IsNumber}
use Rattle.programs.specs.Programs.{Program, row_at, row_count}
use Rattle.safe_bounds.specs.Values.{IsMultiplier, value_of}
use Rattle.bound_tools.specs.Ascents.{AreAllowed, IsBestAt, changed}

-- a multiplier of row i that is within the limit and has the right sign
pub record CanStand (program : Program) (i : ℕ) (y : ℤ) : Type 0 where
  pub within : IsMultiplier y
  pub sign : (row_at program i).side ≡ AtLeast → pos 0 ≤ℤ y

-- the new multipliers are allowed, and their value is above that of the old ones
pub record HasRisen (program : Program) (scale : ℤ) (old new : List ℤ) : Type 0 where
  pub allowed : AreAllowed program new
  pub above : value_of program scale old <ℤ value_of program scale new

-- an allowed change of row i's multiplier by that much doesn't raise the value
abbrev pub DoesNotRaise : Program → ℤ → List ℤ → ℕ → ℤ → Type 0
DoesNotRaise program scale mults i by = AreAllowed program (changed mults i by) → value_of program scale (changed mults i by) ≤ℤ value_of program scale mults

-- whether a change of row i's multiplier was made; if not, one by that much doesn't raise the value
abbrev pub IsTried : Program → ℤ → ℕ → ℤ → Bool → List ℤ → List ℤ → Type 0
IsTried program scale i by true old new = HasRisen program scale old new
IsTried program scale i by false old new = (new ≡ old) × DoesNotRaise program scale old i by

-- changes of a row's multiplier, each by twice the one before: the value now, and the change that was tried last
pub record IsClimbing (program : Program) (scale : ℤ) (old now : List ℤ) (value change : ℤ) : Type 0 where
  pub allowed : AreAllowed program now
  pub never_falls : value_of program scale old ≤ℤ value_of program scale now
  pub value_is : value ≡ value_of program scale now
  pub narrow : unsigned_abs change ≤ 2 ^ 41

-- whether row i's multiplier was changed; if not, none by 1 raises the value
abbrev pub IsRaised : Program → ℤ → ℕ → Bool → List ℤ → List ℤ → Type 0
IsRaised program scale i true old new = HasRisen program scale old new
IsRaised program scale i false old new = (new ≡ old) × IsBestAt program scale old i

-- whether a multiplier of the first rows was changed; if not, none of these by 1 raises the value
abbrev pub IsSwept : Program → ℤ → ℕ → Bool → List ℤ → List ℤ → Type 0
IsSwept program scale rows true old new = HasRisen program scale old new
IsSwept program scale rows false old new = (new ≡ old) × ((i : ℕ) → IsNumber i rows → IsBestAt program scale old i)

-- after so many sweeps, of which each changed some multiplier
abbrev pub HasRisenBy : Program → ℤ → ℕ → List ℤ → List ℤ → Type 0
HasRisenBy program scale zero old new = new ≡ old
HasRisenBy program scale (suc sweeps) old new = HasRisen program scale old new
