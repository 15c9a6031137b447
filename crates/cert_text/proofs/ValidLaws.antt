-- What a valid certificate proves of every admissible plan.
use Rattle.std.proofs.Common.{Option, Some, None}
use Rattle.numbers.specs.Fractions.{Fraction}
use Rattle.road_types.specs.declared.road.Road.{Road}
use Rattle.road_types.specs.Accepted.{IsAccepted}
use Rattle.milp_builder.specs.Boxes.{root_box}
use Rattle.milp_builder.proofs.RootBox.{root_box_fits, root_box_covers}
use Rattle.cert_tree.specs.Soundness.{Bounds, HasPositiveDen}
use Rattle.cert_tree.proofs.Lift.{sound_bounds}
use Rattle.cert_text.specs.CertText.{Certificate, IsStatedOrNone}
use Rattle.cert_text.specs.Validity.{IsValid, IsUnbeaten}

positive_den : (bound : Option Fraction) → IsStatedOrNone bound → HasPositiveDen bound
positive_den None h = tt
positive_den (Some bound) h = h.den_within.from_one

unbeaten : (road : Road) (bound : Option Fraction) → Bounds road bound (root_box road) → IsUnbeaten road bound
unbeaten road None h = λ plan admissible. h plan admissible (root_box_covers road plan admissible)
unbeaten road (Some bound) h = λ plan admissible. h plan admissible (root_box_covers road plan admissible)

-- no admissible plan costs less than the bound that a valid certificate states; where it states none there is no such plan
pub valid_unbeaten : (road : Road) → IsAccepted road → (cert : Certificate) → IsStatedOrNone cert.bound → IsValid road cert → IsUnbeaten road cert.bound
valid_unbeaten road a cert stated valid =
    unbeaten road cert.bound
    (sound_bounds road a cert.bound (positive_den cert.bound stated) cert.tree (root_box road) (root_box_fits road a.well_formed) valid.sound)
