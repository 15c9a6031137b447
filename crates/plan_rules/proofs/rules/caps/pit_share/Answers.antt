use Rattle.std.proofs.Common.{◌≡◌, ◌==◌, ℕ, rules, FitsSigned, arith}
use Rattle.std.specs.Prelude.{ℤ, pos, if◌then◌else◌}
use Rattle.std.specs.Int.{w128}
use Rattle.std.proofs.lemmas.Bool.Decides.{nat_tests}
use Rattle.std.proofs.lemmas.Int.{to_z-of_z}
use Rattle.plan_rules.proofs.rules.caps.pit_share.Goals as goal

own : (a b : ℕ) (result x : ℤ) → a ≡ b → result ≡ x → result ≡ if a == b then x else pos 0
own a b result x same e = grind (arith, nat_tests)

pub returns-then-access-number : goal.returns-then-access-number
returns-then-access-number c =
    let amount : FitsSigned w128 c.access_amount.result = search rules in
    simp to_z-of_z (own _ _ _ _ (rw c.access.ensures at c.if-access-number.true) c.access_amount.ensures)
