use Rattle.std.proofs.Common.{◌≡◌, ◌≢◌, ◌⊎◌, ◌∷◌, ◌++◌, ◌+◌, drop, length, true, inl, inr, sym, ap, ◌∙◌}
use Rattle.std.specs.Option.{is_some}
use Rattle.std.proofs.lemmas.Bool.{eqb-false}
use Rattle.std.proofs.lemmas.List.{take_rest}
use Rattle.text_parts.specs.Words.{parts_between, further_parts, with_separator}
use Rattle.text_parts.specs.Lines.{Reading}
use Rattle.text_parts.proofs.LinesLemmas.{next_line, later_lines}
use Rattle.text_parts.proofs.lines.Lines.next.Goals as goal
use Rattle.text_parts.proofs.lines.Lines.next.Goals.{else-not-ended-via-then-not-ended+else-is_empty, else-not-ended-via-else-not-ended}

pub returns-clause-given : goal.returns-clause-given
returns-clause-given c =
    let parts : parts_between 10 (drop c.self.inside.at c.self.inside.source.now) ≡ c.cut_at.result.0.now ∷ further_parts 10 c.cut_at.result.1 =
    rw take_rest at c.cut_at.ensures.parts in
    let whole : drop c.self.inside.at c.self.inside.source.now ≡ c.cut_at.result.0.now ++ with_separator 10 c.cut_at.result.1 =
    rw take_rest at c.cut_at.ensures.whole in
    let some : (is_some c.cut_at.result.1 ≡ true) ⊎ (length c.cut_at.result.0.now ≢ 0) =
    elim c.else-not-ended.branch [
      | else-not-ended-via-then-not-ended+else-is_empty w ↦ inr (eqb-false (length c.cut_at.result.0.now) 0 (sym w.is_empty.ensures ∙ w.if-is_empty.false))
      | else-not-ended-via-else-not-ended w ↦ inl (sym c.is_some-ended.ensures ∙ w.if-not-ended.false)
    ] in
    let first = next_line c.self.inside.at c.self.inside.source.now c.cut_at.result.0.now c.cut_at.result.1 parts whole some in
    rw (c.from.ensures, c.is_some-ended.ensures)
    (ap (λ (r : Reading). r.left) (sym c.self.view_is) ∙ first, ap (λ (r : Reading). r.number + 1) c.self.view_is, ap (λ (r : Reading). r.source) c.self.view_is)

pub returns-clause-in_order : goal.returns-clause-in_order
returns-clause-in_order c =
    let whole : drop c.self.inside.at c.self.inside.source.now ≡ c.cut_at.result.0.now ++ with_separator 10 c.cut_at.result.1 =
    rw take_rest at c.cut_at.ensures.whole in
    rw (c.from.ensures, c.is_some-ended.ensures) (later_lines c.self.inside.at c.self.inside.source.now c.cut_at.result.0.now c.cut_at.result.1 whole)
