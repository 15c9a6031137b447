use Rattle.std.proofs.Common.{◌≡◌, ◌++◌, ◌∷◌, [], pos, string_bytes, codes, IfOk, sym, subst, rules}
use Rattle.std.specs.Fmt.{signed_decimal}
use Rattle.cert_text.specs.NodeText.{cause_word}
use Rattle.cert_text.proofs.WriteLemmas.{three_at_end}
use Rattle.cert_text.proofs.write.low_line.Goals as goal

pub returns : goal.returns
returns c =
    let scale = signed_decimal c.args.scale in
    let cause = cause_word c.args.cause in
    let count = signed_decimal (pos c.args.count) in
    let told : IfOk c.format.result (λ line. string_bytes line ≡ codes "low " ++ (scale ++ (32 ∷ (cause ++ (32 ∷ (count ++ (10 ∷ []))))))) = search rules in
    subst (λ t. IfOk c.format.result (λ line. string_bytes line ≡ codes "low " ++ t)) (sym (three_at_end scale cause count)) told
