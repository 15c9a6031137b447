use Rattle.std.proofs.Common.{◌≡◌, rules, arith, FitsSigned}
use Rattle.std.specs.Int.{w128}
use Rattle.std.proofs.lemmas.Int.{to_z-of_z, fits_signed_from_abs}
use Rattle.cert_text.proofs.LowestLaws.{lowest_found, lowest_other, den_small}
use Rattle.cert_text.proofs.fractions.lowest.Goals as goal

pub returns-then-is_same : goal.returns-then-is_same
returns-then-is_same c =
    let f = c.in_ok-fraction.fraction in
    let same : (f.num ≡ c.args.num) × (f.den ≡ c.args.den) = search rules in
    lowest_found f c.args.num c.args.den c.in_ok-fraction.ensures.reduced same

pub returns-else-is_same : goal.returns-else-is_same
returns-else-is_same c =
    let f = c.in_ok-fraction.fraction in
    let other : (f.num ≡ c.args.num) × (f.den ≡ c.args.den) → ⊥ = search rules in
    let within = c.requires.num in
    let fits_num : FitsSigned w128 c.args.num = fits_signed_from_abs w128 c.args.num (omega (arith, within)) in
    let fits_den : FitsSigned w128 c.args.den = fits_signed_from_abs w128 c.args.den (den_small c.args.den c.requires.den_from c.requires.den_to) in
    let only = simp to_z-of_z at c.in_ok-fraction.ensures.one in
    lowest_other f c.args.num c.args.den c.requires.den_from (omega (arith, within)) (den_small c.args.den c.requires.den_from c.requires.den_to) only other
