-- What contracts see of a sink in memory.
--     MemorySink      what was put, the room, its calls and its number of faults
--     Refuses old new      the put is one of those that fail: it writes nothing
--     Fills old bytes new      any other put that goes past the room: it writes what fits
use Rattle.std.specs.Prelude.{◌≡◌, ℕ, ◌+◌, ◌-◌, ◌<◌, List, ◌++◌, length, take}
use Rattle.outside.specs.Calls.{FailsNext, next_call}
use Rattle.outside.specs.Faults.{one_more}

-- all that a sink in memory knows
pub record MemorySink : Type 0 where
  -- what was put, in order
  pub written : List ℕ
  -- how many bytes there is room for in all
  pub room : ℕ
  -- puts so far
  pub calls : ℕ
  -- the numbers of the puts that fail, counted from 1
  pub fails : List ℕ
  pub faults : ℕ

-- a put that is one of those that fail counts as a fault and writes nothing
pub record Refuses (old new : MemorySink) : Type 0 where
  pub fails : FailsNext old.fails old.calls
  pub left : new ≡ record old { calls = next_call old.calls; faults = one_more old.faults }

-- any other put that goes past the room counts as a fault and writes what fits
pub record Fills (old : MemorySink) (bytes : List ℕ) (new : MemorySink) : Type 0 where
  pub is_no_failing_call : ¬ FailsNext old.fails old.calls
  pub past_the_room : old.room < length old.written + length bytes
  pub left : new ≡ record old { written = old.written ++ take (old.room - length old.written) bytes; calls = next_call old.calls; faults = one_more old.faults }
