-- What a sink was given, where it tells.
--     GrewBy old bytes new      it grew by the bytes
--     GrewByPrefix old bytes new      it grew by some of the bytes, from their front
use Rattle.std.specs.Prelude.{◌≡◌, ℕ, ◌≤◌, List, ◌++◌, length, take, Option}
use Rattle.std.specs.Option.{option_map}

-- what was written grew by the bytes
abbrev pub GrewBy : Option (List ℕ) → List ℕ → Option (List ℕ) → Type 0
GrewBy old bytes new = new ≡ option_map (λ written. written ++ bytes) old

-- what was written grew by a prefix of the bytes, which may be empty or whole
abbrev pub GrewByPrefix : Option (List ℕ) → List ℕ → Option (List ℕ) → Type 0
GrewByPrefix old bytes new = (n : ℕ) × (n ≤ length bytes) × GrewBy old (take n bytes) new
