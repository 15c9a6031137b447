-- What is drawn for a trial road: whole numbers from a state that each draw moves on.
use Rattle.std.specs.Prelude.{ℕ, zero, suc, ◌+◌, ◌*◌, ◌/◌, ◌%◌}

-- the state that follows a state
unfoldable pub next_state : ℕ → ℕ
next_state x = (x * 1103515245 + 12345) % 2147483648

-- the state after so many draws
abbrev pub state_after : ℕ → ℕ → ℕ
state_after x zero = x
state_after x (suc k) = next_state (state_after x k)

-- what the draw that led to a state gives: one of 0, 1, .., n - 1
unfoldable pub drawn : ℕ → ℕ → ℕ
drawn x n = x / 65536 % n
