use Rattle.std.proofs.Common.{◌≡◌, ◌++◌, ◌∷◌, [], pos, string_bytes, codes, IfOk, sym, subst, rules}
use Rattle.std.specs.Fmt.{signed_decimal}
use Rattle.cert_text.proofs.WriteLemmas.{two_at_end}
use Rattle.cert_text.proofs.write.removal_line.Goals as goal

pub returns : goal.returns
returns c =
    let block = signed_decimal (pos c.args.block) in
    let stage = signed_decimal (pos c.args.stage) in
    let told : IfOk c.format.result (λ line. string_bytes line ≡ codes "split removal " ++ (block ++ (32 ∷ (stage ++ (10 ∷ []))))) = search rules in
    subst (λ t. IfOk c.format.result (λ line. string_bytes line ≡ codes "split removal " ++ t)) (sym (two_at_end block stage)) told
