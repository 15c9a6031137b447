use Rattle.std.proofs.Common.{◌≡◌, vec_len, vec_capacity}
use Rattle.term_store.specs.inside.Lending.{AllHaveRoom}
use Rattle.term_store.proofs.rows.empty_rows.Given as goal

abbrev pub invariant-loop-row : goal.invariant-loop-row
invariant-loop-row g l =
    (vec_len l.list ≡ l._row) × ((vec_capacity l.list ≡ l.rows) × AllHaveRoom l.width l.list.items)
