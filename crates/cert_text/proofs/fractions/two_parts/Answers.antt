use Rattle.std.proofs.Common.{◌≡◌, ◌∷◌, ◌∙◌, ap, true, Some, rules}
use Rattle.std.specs.Option.{is_some}
use Rattle.text_parts.specs.Words.{further_parts}
use Rattle.cert_text.proofs.LowestLaws.{three_parts}
use Rattle.cert_text.proofs.fractions.two_parts.Goals as goal

pub returns-then-is_some : goal.returns-then-is_some
returns-then-is_some c =
    let was : c.cut_at.result.1 ≡ Some c.in_ok-behind.field-0 = search rules in
    let more : is_some c.cut_at-2.result.1 ≡ true = search rules in
    three_parts c.args.word.now c.cut_at.result.0.now c.in_ok-behind.field-0.now c.cut_at-2.result.0.now c.cut_at-2.result.1
    (c.cut_at.ensures.parts ∙ ap (λ o. c.cut_at.result.0.now ∷ further_parts 47 o) was) c.cut_at-2.ensures.parts more
