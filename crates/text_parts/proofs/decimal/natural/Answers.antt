use Rattle.std.proofs.Common.{◌≡◌, ◌∙◌, true, sym, arith}
use Rattle.std.proofs.lemmas.Int.Digits.{digits_value_more}
use Rattle.text_parts.specs.Decimal.{is_numeral}
use Rattle.text_parts.proofs.DecimalLemmas.{value_short, digit_of_numeral}
use Rattle.text_parts.proofs.decimal.natural.Goals as goal

pub overflow_mul-value : goal.overflow_mul-value
overflow_mul-value c =
    let numeral : is_numeral c.args.digits.now ≡ true = sym c.is_numeral.ensures ∙ c.if-not-is_numeral.false in
    omega (arith, c.loop-digit.invariant, value_short c.args.digits.now c.loop-digit.digit-index numeral)

pub overflow_add-value : goal.overflow_add-value
overflow_add-value c =
    let numeral : is_numeral c.args.digits.now ≡ true = sym c.is_numeral.ensures ∙ c.if-not-is_numeral.false in
    omega (arith, c.loop-digit.invariant, value_short c.args.digits.now c.loop-digit.digit-index numeral, digit_of_numeral c.args.digits.now c.loop-digit.digit-index numeral c.loop-digit-test.true)

pub loop-digit-preserved : goal.loop-digit-preserved
loop-digit-preserved c =
    let numeral : is_numeral c.args.digits.now ≡ true = sym c.is_numeral.ensures ∙ c.if-not-is_numeral.false in
    let digit = digit_of_numeral c.args.digits.now c.loop-digit.digit-index numeral c.loop-digit-test.true in
    omega (arith, c.loop-digit.invariant, digits_value_more 10 c.args.digits.now c.loop-digit.digit-index c.loop-digit-test.true, digit.0, digit.2)

pub returns-clause-small : goal.returns-clause-small
returns-clause-small c =
    let numeral : is_numeral c.args.digits.now ≡ true = sym c.is_numeral.ensures ∙ c.if-not-is_numeral.false in
    omega (arith, c.loop-digit.invariant, value_short c.args.digits.now c.loop-digit.digit-index numeral)
