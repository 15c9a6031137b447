use Rattle.std.proofs.Common.{◌≤◌, length}
use Rattle.std.specs.Io.KnownBytes.{Consumes}
use Rattle.outside.proofs.pieces.read_whole.Given as goal

abbrev pub invariant-loop : goal.invariant-loop
invariant-loop g l =
    (length l.bytes.items ≤ l.most) × (l.counter ≤ length l.bytes.items) × Consumes (g.R.Read.remaining l.initial.reader) (g.R.Read.remaining l.reader) l.bytes.items
