use Rattle.std.proofs.Common.{rules, ◌↔◌, IsTrue, ◌≡◌, length, nat_eq}
use Rattle.plan_rules.proofs.LogicLemmas.{both_tells}
use Rattle.plan_rules.proofs.FitsLemmas.{table_moderate, moderate_table}
use Rattle.plan_rules.proofs.fits.is_moderate_table.Goals as goal

pub returns : goal.returns
returns c =
    let rows = c.args.rows.now in
    let counted : IsTrue (nat_eq c.len.result c.args.stages) ↔ (length rows ≡ c.args.stages) = search rules in
    both_tells _ _ _ c.both.ensures counted (rw c.as_slice.ensures at c.all_moderate_rows.ensures) (table_moderate c.args.stages c.args.entries rows) (moderate_table c.args.stages c.args.entries rows)
