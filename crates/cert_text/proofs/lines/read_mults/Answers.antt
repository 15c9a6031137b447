use Rattle.std.proofs.Common.{◌≡◌, ◌+◌, ◌-◌, suc, Ok, Err, ◌∙◌, arith}
use Rattle.std.proofs.lemmas.Result.{err_from_is_err_and}
use Rattle.cert_text.specs.WordForms.{mult_form}
use Rattle.cert_text.specs.inside.NodeReading.{line_due}
use Rattle.cert_text.proofs.MultLemmas.{mults_start, mults_step, mults_stop, mults_end}
use Rattle.cert_text.proofs.lines.read_mults.Goals as goal

pub loop-turn-init : goal.loop-turn-init
loop-turn-init c =
    let same : c.args.count - 0 ≡ c.args.count = omega arith in
    (rw (c.clear.ensures.items, same) (mults_start c.args.rows c.args.count c.args.lines.now), omega arith, c.clear.ensures.len, c.clear.ensures.capacity)

pub loop-turn-preserved : goal.loop-turn-preserved
loop-turn-preserved c =
    let turn = c.loop-turn._turn in
    let left : c.args.count - turn ≡ suc (c.args.count - (turn + 1)) = omega arith in
    let read : line_due (mult_form c.args.rows c.loop-turn.before) c.loop-turn.lines ≡ Ok (c.in_ok-mult.mult, c.next_mult.new.lines) = c.in_ok-mult.ensures.due in (
      rw c.push_reserved.ensures.items
          (c.loop-turn.invariant.0 ∙ mults_step c.args.rows c.loop-turn.before (c.args.count - turn) (c.args.count - (turn + 1)) c.loop-turn.mults.items c.loop-turn.lines c.next_mult.new.lines c.in_ok-mult.mult left read),
      c.in_ok-mult.ensures.within,
      (let more = c.push_reserved.ensures.len in let sofar = c.loop-turn.invariant.2 in omega (arith, more, sofar)),
      c.push_reserved.ensures.capacity ∙ c.loop-turn.invariant.3,
    )

pub returns-in_err-mult-clause-due : goal.returns-in_err-mult-clause-due
returns-in_err-mult-clause-due c =
    let turn = c.loop-turn._turn in
    let left : c.args.count - turn ≡ suc (c.args.count - (turn + 1)) = omega arith in
    let bad : line_due (mult_form c.args.rows c.loop-turn.before) c.loop-turn.lines ≡ Err c.in_err-mult.field-0.0 = c.in_err-mult.ensures.due in
    let p = err_from_is_err_and c.from_residual.result c.from_residual.ensures.1 in
    rw (p.1, p.2)
    (c.loop-turn.invariant.0 ∙ mults_stop c.args.rows c.loop-turn.before (c.args.count - turn) (c.args.count - (turn + 1)) c.loop-turn.mults.items c.loop-turn.lines _ left bad)

pub returns-clause-due : goal.returns-clause-due
returns-clause-due c =
    let none : c.args.count - c.loop-turn._turn ≡ 0 = omega arith in
    c.loop-turn.invariant.0 ∙ mults_end c.args.rows c.loop-turn.before (c.args.count - c.loop-turn._turn) c.loop-turn.mults.items c.loop-turn.lines none
