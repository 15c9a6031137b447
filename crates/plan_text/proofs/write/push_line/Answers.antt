use Rattle.std.proofs.Common.{◌++◌, ◌∷◌, [], pos, refl, ap, ap₂, ◌∙◌}
use Rattle.plan_text.proofs.WriteLemmas.{row_more}
use Rattle.plan_text.proofs.write.push_line.Goals as goal

pub loop-number-preserved : goal.loop-number-preserved
loop-number-preserved c =
    c.in_ok-extend_from_slice-2.ensures.items
    ∙ ap₂ ◌++◌ (c.in_ok-push.ensures.items ∙ ap (λ t. t ++ (32 ∷ [])) c.loop-number.invariant) (c.as_bytes.ensures.value ∙ c.in_ok-digits.ensures.ok)
    ∙ row_more c.args.text.now.items c.args.keyword.now c.args.numbers.now c.loop-number.number-index _ (pos 0) c.loop-number-test.true refl
