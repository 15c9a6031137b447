use Rattle.std.proofs.Common.{◌≡◌, ◌-◌, ◌≤◌, vec_len, vec_capacity}
use Rattle.cert_text.specs.inside.NodeReading.{mults_due}
use Rattle.cert_text.proofs.MultLemmas.{mults_with}
use Rattle.cert_text.proofs.lines.read_mults.Given as goal

abbrev pub invariant-loop-turn : goal.invariant-loop-turn
invariant-loop-turn l =
    (mults_due l.rows 0 l.count l.fn.lines ≡ mults_with l.mults.items (mults_due l.rows l.before (l.count - l._turn) l.lines))
    × (l.before ≤ l.rows)
    × (vec_len l.mults ≡ l._turn)
    × (vec_capacity l.mults ≡ vec_capacity l.fn.mults)
