use Rattle.std.proofs.Common.{◌≡◌, Bool, true, false, rules, FitsSigned}
use Rattle.std.specs.Prelude.{ℤ, pos, if◌then◌else◌}
use Rattle.std.specs.Int.{w128}
use Rattle.std.proofs.lemmas.Int.{to_z-of_z}
use Rattle.plan_rules.proofs.rules.flows.access_share.Goals as goal

taken : (b : Bool) (result x : ℤ) → b ≡ true → result ≡ x → result ≡ if b then x else pos 0
taken true result x is e = e
taken false result x is e = absurd (cc)

left : (b : Bool) (x : ℤ) → b ≡ false → pos 0 ≡ if b then x else pos 0
left true x is = absurd (cc)
left false x is = cc

pub returns-then-serves : goal.returns-then-serves
returns-then-serves c =
    let amount : FitsSigned w128 c.amount_at.result = search rules in
    simp to_z-of_z (taken _ _ _ (rw c.serves.ensures at c.if-serves.true) c.amount_at.ensures)

pub returns-else-serves : goal.returns-else-serves
returns-else-serves c = left _ _ (rw c.serves.ensures at c.if-serves.false)
