-- What holds of a tableau in memory beside what contracts see.
use Rattle.std.specs.Prelude.{◌≡◌, ℕ, ◌+◌, ◌≤◌, List, length, ℤ}
use Rattle.term_store.specs.declared.term.Term.{Term}
use Rattle.programs.specs.Programs.{row_count}
use Rattle.simplex.specs.States.{State, KeepsLaws}

-- the state is reached; its rows are the first ones of the store, with as many spare ones behind them; rows and cells have room
-- for a term in each column
pub record IsKept {A : Type 0} (f : A → ℤ) (s : State A) (rows : List (List (Term A))) (count width room : ℕ) : Type 0 where
  pub reached : KeepsLaws f s
  pub spare : length rows ≡ count + count
  pub marked : count ≡ row_count s.program + 1
  pub wide : length s.low ≤ width
  pub cells : room ≡ length s.low
