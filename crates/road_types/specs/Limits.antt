-- Limits of files.
use Rattle.std.specs.Prelude.{ℕ, ◌^◌}

-- the greatest length of a road file and of a section table, in bytes
abbrev pub longest_file : ℕ
longest_file = 2 ^ 22
