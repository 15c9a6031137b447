-- Scale and multipliers made narrow: shifted right together until all are within the limit.
use Rattle.std.specs.Prelude.{◌≡◌, ◌≢◌, ℕ, ◌^◌, ◌/◌, ◌<◌, ◌≤◌, List, length, map, ℤ, pos, negsuc, neg_ℤ, ◌≤ℤ◌, unsigned_abs}
use Rattle.std.specs.List.{All}
use Rattle.safe_bounds.specs.Values.{multiplier_at, IsMultiplier}

-- scale and multipliers are within the limit
pub record AreNarrow (scale : ℤ) (mults : List ℤ) : Type 0 where
  pub scale_within : IsMultiplier scale
  pub mults_within : All IsMultiplier mults

-- the magnitude shifted right by that many bits, with the number's sign
abbrev pub shifted : ℕ → ℤ → ℤ
shifted bits (pos m) = pos (m / 2 ^ bits)
shifted bits (negsuc m) = neg_ℤ (pos (unsigned_abs (negsuc m) / 2 ^ bits))

-- that many bits, and no fewer, bring all within the limit
pub record IsLeastShift (bits : ℕ) (scale : ℤ) (mults : List ℤ) : Type 0 where
  pub enough : AreNarrow (shifted bits scale) (map (shifted bits) mults)
  pub least : (fewer : ℕ) → fewer < bits → AreNarrow (shifted fewer scale) (map (shifted fewer) mults) → ⊥

-- the numbers shifted by the least count of bits that makes them narrow; a scale that falls to 0 gives 1, with multipliers 0
pub record IsNarrowed (scale : ℤ) (mults : List ℤ) (new_scale : ℤ) (new_mults : List ℤ) : Type 0 where
  pub bits : ℕ
  pub least : IsLeastShift bits scale mults
  pub kept : shifted bits scale ≢ pos 0 → (new_scale ≡ shifted bits scale) × (new_mults ≡ map (shifted bits) mults)
  pub fallen : shifted bits scale ≡ pos 0 → (new_scale ≡ pos 1) × (new_mults ≡ map (λ _. pos 0) mults)

-- a number that came nearer to 0, and didn't change its sign
pub record IsNearer (old new : ℤ) : Type 0 where
  pub smaller : unsigned_abs new ≤ unsigned_abs old
  pub from_positive : pos 0 ≤ℤ old → pos 0 ≤ℤ new
  pub from_negative : old ≤ℤ pos 0 → new ≤ℤ pos 0

-- each multiplier came nearer to 0
pub record AreNearer (old new : List ℤ) : Type 0 where
  pub count : length new ≡ length old
  pub each : (i : ℕ) → IsNearer (multiplier_at old i) (multiplier_at new i)
