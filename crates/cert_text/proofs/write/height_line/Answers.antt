use Rattle.std.proofs.Common.{◌≡◌, ◌++◌, ◌∷◌, [], pos, string_bytes, codes, IfOk, sym, subst, rules}
use Rattle.std.specs.Fmt.{signed_decimal}
use Rattle.cert_text.proofs.WriteLemmas.{two_at_end}
use Rattle.cert_text.proofs.write.height_line.Goals as goal

pub returns : goal.returns
returns c =
    let section = signed_decimal (pos c.args.section) in
    let at = signed_decimal c.args.at in
    let told : IfOk c.format.result (λ line. string_bytes line ≡ codes "split height " ++ (section ++ (32 ∷ (at ++ (10 ∷ []))))) = search rules in
    subst (λ t. IfOk c.format.result (λ line. string_bytes line ≡ codes "split height " ++ t)) (sym (two_at_end section at)) told
