-- A remainder is less than what it is taken by.
use Rattle.std.proofs.Common.{ℕ, ◌%◌, ◌/◌, ◌<◌, ◌≤◌, arith}
use Rattle.trial_roads.specs.Draws.{drawn}
use Rattle.std.proofs.Math.Nat.{mod-lt}

pub mod_small : (x n : ℕ) → 1 ≤ n → x % n < n
mod_small x n p = let positive : 0 < n = omega arith in mod-lt x positive

pub drawn_small : (x n : ℕ) → 1 ≤ n → drawn x n < n
unfolding drawn
drawn_small x n p = mod_small (x / 65536) n p
