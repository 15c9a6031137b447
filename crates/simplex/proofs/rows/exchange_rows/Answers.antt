use Rattle.std.proofs.Common.{◌≡◌, ℕ, ◌+◌, ◌<◌, List, [], get_or, length, false, cond, arith, ap, sym, ◌∙◌, subst}
use Rattle.std.specs.Prelude.{ℤ}
use Rattle.term_store.specs.declared.term.Term.{Term}
use Rattle.tableau.specs.Exchanges.{IsToward}
use Rattle.sparse_rows.specs.Lines.{entry_of, IsLine}
use Rattle.simplex.specs.inside.Rows.{IsRestood}
use Rattle.simplex.proofs.Swapping.{changed_row}
use Rattle.simplex.proofs.rows.exchange_rows.Goals as goal

pub prepare-requires-clause-pivot : goal.prepare-requires-clause-pivot
prepare-requires-clause-pivot g c =
    let L : List (Term g.row.W.Denot) → Type 0 = λ ts. IsLine g.W.Whole.meaning 0 c.args.cells.now ts in
    let line = c.requires.rising c.args.row c.requires.row in
    c.entry-pivot.ensures c.args.cells.now (subst L (sym c.row.ensures) line) ∙ ap (λ (ts : List (Term g.row.W.Denot)). entry_of g.W.Whole.meaning ts c.args.col) c.row.ensures

pub prepare-requires-clause-nonzero : goal.prepare-requires-clause-nonzero
prepare-requires-clause-nonzero g c = λ none. c.requires.nonzero (sym (prepare-requires-clause-pivot g c) ∙ none)

pub returns-clause-changed : goal.returns-clause-changed
returns-clause-changed g c = λ k l.
    let size : length c.prepare.new.marks ≡ length c.args.marks.now = c.prepare.auto.marks in
    let within : k < length c.prepare.new.marks = omega arith in
    changed_row g.W.Whole.meaning c.args.row c.args.col c.args.cells.now k (get_or c.args.lines.now.rows c.args.row []) (get_or c.args.lines.now.rows k [])
    (get_or c.prepare.new.marks k false) (get_or c.prepare.new.lines.rows (length c.args.marks.now + k) []) (get_or c.swap_in.new.lines.rows k [])
    (c.requires.rising k l) (c.in-Ok.ensures.prepared k l)
    (c.swap_in.ensures.rows k within
    ∙ (ap (λ (n : ℕ). cond (get_or c.prepare.new.marks k false) (get_or c.prepare.new.lines.rows (n + k) []) (get_or c.prepare.new.lines.rows k [])) size
    ∙ ap (λ (ts : List (Term g.row.W.Denot)). cond (get_or c.prepare.new.marks k false) (get_or c.prepare.new.lines.rows (length c.args.marks.now + k) []) ts) (c.in-Ok.ensures.same k l)))

pub returns-clause-restanding : goal.returns-clause-restanding
returns-clause-restanding g c =
    let L : List (Term g.row.W.Denot) → Type 0 = λ ts. IsLine g.W.Whole.meaning 0 c.args.cells.now ts in
    let line = c.requires.rising c.args.row c.requires.row in
    let first = c.entry-pivot.ensures c.args.cells.now (subst L (sym c.row.ensures) line) ∙ ap (λ (ts : List (Term g.row.W.Denot)). entry_of g.W.Whole.meaning ts c.args.col) c.row.ensures in
    let same = c.row-2.ensures ∙ c.in-Ok.ensures.same c.args.row c.requires.row in
    let second = c.entry.ensures c.args.cells.now (subst L (sym same) line) ∙ ap (λ (ts : List (Term g.row.W.Denot)). entry_of g.W.Whole.meaning ts (get_or c.args.basis.now c.args.row 0)) same in
    record {
      upper = c.breaks_upper-upper.result;
      breaks = λ broken toward.
          c.breaks_upper-upper.ensures broken
          (subst (λ (x : ℤ). IsToward broken (get_or c.args.at_high.now c.args.col false) x (g.W.Whole.meaning c.entry.result)) (sym first)
          (subst (λ (x : ℤ). IsToward broken (get_or c.args.at_high.now c.args.col false) (entry_of g.W.Whole.meaning (get_or c.args.lines.now.rows c.args.row []) c.args.col) x) (sym second) toward));
      middle = c.stand.new.at_high;
      stood = c.stand.ensures.stood;
      restood = subst (λ (ts : List (Term g.row.W.Denot)). IsRestood g.W.Whole.meaning ts c.args.columns c.stand.new.at_high c.restand.new.at_high) c.row-3.ensures
          (c.restand.ensures.stood c.args.cells.now (subst L (sym c.row-3.ensures) (returns-clause-changed g c 0 (let i = c.requires.row in omega arith)).line));
    }
