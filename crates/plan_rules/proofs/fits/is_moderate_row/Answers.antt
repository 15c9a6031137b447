use Rattle.std.proofs.Common.{rules, ◌↔◌, IsTrue, ◌≡◌, length, nat_eq}
use Rattle.plan_rules.proofs.LogicLemmas.{both_tells}
use Rattle.plan_rules.proofs.FitsLemmas.{row_moderate, moderate_row}
use Rattle.plan_rules.proofs.fits.is_moderate_row.Goals as goal

pub returns : goal.returns
returns c =
    let row = c.args.row.now in
    let counted : IsTrue (nat_eq c.len.result c.args.entries) ↔ (length row ≡ c.args.entries) = search rules in
    both_tells _ _ _ c.both.ensures counted (rw c.as_slice.ensures at c.all_moderate.ensures) (row_moderate c.args.entries row) (moderate_row c.args.entries row)
