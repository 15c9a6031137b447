use Rattle.std.proofs.Common.{◌≡◌, FitsSigned, rules}
use Rattle.std.specs.Int.{w128}
use Rattle.std.proofs.lemmas.Int.{to_z-of_z}
use Rattle.numbers.specs.Fractions.{Fraction, IsReduced, HasValue}
use Rattle.cert_checker.proofs.ValidLaws.{is_value_of}
use Rattle.cert_checker.proofs.checking.is_value.Goals as goal

pub returns-in-Some : goal.returns-in-Some
returns-in-Some c =
    let cost : FitsSigned w128 c.args.cost = search rules in
    let den : FitsSigned w128 c.args.den = search rules in
    let value : HasValue c.in-Some.value c.args.cost c.args.den = simp to_z-of_z at c.in-Some.ensures.value in
    let one : (other : Fraction) → IsReduced other → HasValue other c.args.cost c.args.den → other ≡ c.in-Some.value = simp to_z-of_z at c.in-Some.ensures.one in
    is_value_of c.args.stated.now c.in-Some.value c.args.cost c.args.den c.is_same.result c.is_same.ensures.reduced c.is_same.ensures.same value one
