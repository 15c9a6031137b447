use Rattle.std.proofs.Common.{◌≡◌, ◌++◌, ◌∷◌, [], codes, rules, FitsSigned, ap, ◌∙◌}
use Rattle.std.specs.Int.{w128}
use Rattle.std.specs.List.{flat_map}
use Rattle.std.proofs.lemmas.Int.{to_z-of_z}
use Rattle.plan_text.specs.LineForms.{spelled_line}
use Rattle.plan_text.specs.PlanText.{piece_text}
use Rattle.plan_text.proofs.WriteLemmas.{parts_of_text, are_bytes}
use Rattle.plan_text.proofs.write.text_of.Goals as goal

pub returns-clause-text : goal.returns-clause-text
returns-clause-text c =
    let den : FitsSigned w128 c.args.plan.now.den = search rules in
    let first : c.push_line.new.text.items ≡ c.new-text.result.items ++ spelled_line (codes "plan") (c.args.plan.now.den ∷ []) =
    simp to_z-of_z at c.in_ok-push_line.ensures in
    let second : c.push_pieces.new.text.items ≡ c.push_line.new.text.items ++ flat_map piece_text c.args.plan.now.pieces =
    c.in_ok-push_pieces.ensures ∙ ap (λ pieces. c.push_line.new.text.items ++ flat_map piece_text pieces) c.as_slice.ensures in
    parts_of_text c.args.road.now c.args.plan.now c.args.opens.now _ _ _ _ _ _ c.requires.opens c.new-text.ensures.items first second c.in_ok-push_stages.ensures c.in_ok-push_openings.ensures c.in_ok-push_line-2.ensures

pub returns-clause-bytes : goal.returns-clause-bytes
returns-clause-bytes c = are_bytes c.args.opens.now _ (λ i. (c.type_inv.opens i).fits) c.requires.opens

pub returns-in_err-push_line-clause-bytes : goal.returns-in_err-push_line-clause-bytes
returns-in_err-push_line-clause-bytes c = are_bytes c.args.opens.now _ (λ i. (c.type_inv.opens i).fits) c.requires.opens

pub returns-in_err-push_pieces-clause-bytes : goal.returns-in_err-push_pieces-clause-bytes
returns-in_err-push_pieces-clause-bytes c = are_bytes c.args.opens.now _ (λ i. (c.type_inv.opens i).fits) c.requires.opens

pub returns-in_err-push_stages-clause-bytes : goal.returns-in_err-push_stages-clause-bytes
returns-in_err-push_stages-clause-bytes c = are_bytes c.args.opens.now _ (λ i. (c.type_inv.opens i).fits) c.requires.opens

pub returns-in_err-push_openings-clause-bytes : goal.returns-in_err-push_openings-clause-bytes
returns-in_err-push_openings-clause-bytes c = are_bytes c.args.opens.now _ (λ i. (c.type_inv.opens i).fits) c.requires.opens

pub returns-in_err-push_line-2-clause-bytes : goal.returns-in_err-push_line-2-clause-bytes
returns-in_err-push_line-2-clause-bytes c = are_bytes c.args.opens.now _ (λ i. (c.type_inv.opens i).fits) c.requires.opens
