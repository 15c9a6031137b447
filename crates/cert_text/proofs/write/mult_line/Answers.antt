use Rattle.std.proofs.Common.{◌≡◌, ◌++◌, ◌∷◌, [], pos, string_bytes, codes, IfOk, sym, subst, rules}
use Rattle.std.specs.Fmt.{signed_decimal}
use Rattle.cert_text.proofs.WriteLemmas.{two_at_end}
use Rattle.cert_text.proofs.write.mult_line.Goals as goal

pub returns : goal.returns
returns c =
    let row = signed_decimal (pos c.args.row) in
    let value = signed_decimal c.args.value in
    let told : IfOk c.format.result (λ line. string_bytes line ≡ codes "m " ++ (row ++ (32 ∷ (value ++ (10 ∷ []))))) = search rules in
    subst (λ t. IfOk c.format.result (λ line. string_bytes line ≡ codes "m " ++ t)) (sym (two_at_end row value)) told
