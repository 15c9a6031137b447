use Rattle.std.proofs.Common.{◌≡◌, ◌≤◌, ◌<◌, ◌+◌, List, [], ◌∷◌, ◌++◌, length, take, arith, subst, sym, ◌∙◌, ap, refl}
use Rattle.std.specs.Prelude.{ℤ, unsigned_abs}
use Rattle.std.proofs.lemmas.List.{take_all, take_more, length-take}
use Rattle.numbers.specs.Divisors.{Divides}
use Rattle.term_store.specs.declared.term.Term.{Term}
use Rattle.sparse_rows.proofs.LinesLemmas.{line_length, value_entry, value_column}
use Rattle.sparse_rows.proofs.Common.{AreQuotients, quotients_more, quotients_length, quotients_line, quotients_entries}
use Rattle.sparse_rows.proofs.dividing.write_divided.Goals as goal

pub divided-requires-clause-divides : goal.divided-requires-clause-divides
divided-requires-clause-divides g c =
    let e = value_entry g.T.Whole.meaning c.args.terms.now c.args.row.now.room c.requires.line c.loop-term.term-index c.term-item.result c.loop-term-test.true c.term-item.is in
    let l = value_column g.T.Whole.meaning c.args.terms.now c.args.row.now.room c.requires.line c.loop-term.term-index c.term-item.result c.loop-term-test.true c.term-item.is in
    subst (λ (x : ℤ). Divides (g.T.Whole.meaning c.args.divisor) x) e (c.requires.divides _ c.requires.line c.term-item.result.column l)

pub returns-in_default-clause-wide : goal.returns-in_default-clause-wide
returns-in_default-clause-wide g c =
    let e = value_entry g.T.Whole.meaning c.args.terms.now c.args.row.now.room c.requires.line c.loop-term.term-index c.term-item.result c.loop-term-test.true c.term-item.is in
    subst (λ (x : ℤ). g.W.Whole.greatest < unsigned_abs x) (sym e) c.in_default.ensures.wide

pub push-requires : goal.push-requires
push-requires g c =
    let n = quotients_length g.T.Whole.meaning g.W.Whole.meaning (g.T.Whole.meaning c.args.divisor) (take c.loop-term.term-index c.args.terms.now) c.loop-term.row.terms c.loop-term.invariant.1 in
    let m = length-take c.loop-term.term-index c.args.terms.now in
    let l = line_length g.T.Whole.meaning 0 c.args.row.now.room c.args.terms.now c.requires.line in
    let within : c.loop-term.term-index < length c.args.terms.now = c.loop-term-test.true in
    let r = c.loop-term.invariant.0 in
    omega arith

pub loop-term-preserved : goal.loop-term-preserved
loop-term-preserved g c =
    let within : c.loop-term.term-index < length c.args.terms.now = c.loop-term-test.true in (
      c.push.ensures.room ∙ c.loop-term.invariant.0,
      (let more = quotients_more g.T.Whole.meaning g.W.Whole.meaning (g.T.Whole.meaning c.args.divisor) (take c.loop-term.term-index c.args.terms.now) c.loop-term.row.terms
          c.term-item.result (record { column = c.term-item.result.column; value = c.in-Some.value }) c.loop-term.invariant.1 refl c.in-Some.ensures.value in
          let longer : take c.loop-term.term-index c.args.terms.now ++ c.term-item.result ∷ [] ≡ take (c.loop-term.term-index + 1) c.args.terms.now =
          ap (λ t. take c.loop-term.term-index c.args.terms.now ++ t ∷ []) c.term-item.is ∙ sym (take_more c.args.terms.now c.loop-term.term-index c.term-item.result within) in
          let P : List (Term g.row.T.Denot) → Type 0 = λ ts. AreQuotients g.T.Whole.meaning g.W.Whole.meaning (g.T.Whole.meaning c.args.divisor) ts c.push.new.self.terms in
          subst P longer (rw c.push.ensures.terms more)),
    )

pub returns-clause-line : goal.returns-clause-line
returns-clause-line g c = λ end line.
    let l : length c.args.terms.now ≤ c.loop-term.term-index = omega arith in
    let P : List (Term g.row.T.Denot) → Type 0 = λ ts. AreQuotients g.T.Whole.meaning g.W.Whole.meaning (g.T.Whole.meaning c.args.divisor) ts c.loop-term.row.terms in
    quotients_line g.T.Whole.meaning g.W.Whole.meaning (g.T.Whole.meaning c.args.divisor) 0 end c.args.terms.now c.loop-term.row.terms
    (subst P (take_all c.loop-term.term-index c.args.terms.now l) c.loop-term.invariant.1) line

pub returns-clause-divided : goal.returns-clause-divided
returns-clause-divided g c = λ j.
    let l : length c.args.terms.now ≤ c.loop-term.term-index = omega arith in
    let P : List (Term g.row.T.Denot) → Type 0 = λ ts. AreQuotients g.T.Whole.meaning g.W.Whole.meaning (g.T.Whole.meaning c.args.divisor) ts c.loop-term.row.terms in
    quotients_entries g.T.Whole.meaning g.W.Whole.meaning (g.T.Whole.meaning c.args.divisor) c.args.terms.now c.loop-term.row.terms j
    (subst P (take_all c.loop-term.term-index c.args.terms.now l) c.loop-term.invariant.1)
