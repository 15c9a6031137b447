use Rattle.std.proofs.Common.{rules, ◌↔◌, IsTrue, ◌≡◌, length, nat_eq, FitsSigned}
use Rattle.std.specs.Int.{w128}
use Rattle.std.proofs.lemmas.Int.{to_z-of_z}
use Rattle.road_types.specs.Road.{block_count}
use Rattle.plan_rules.proofs.LogicLemmas.{both_tells}
use Rattle.plan_rules.proofs.FitsLemmas.{pieces_moderate, moderate_pieces}
use Rattle.plan_rules.proofs.fits.has_moderate_pieces.Goals as goal

pub returns : goal.returns
returns c =
    let plan = c.args.plan.now in
    let road = c.args.road.now in
    let opens : IsTrue (nat_eq c.len.result c.len-2.result) ↔ (length plan.opens ≡ block_count road) = search rules in
    let lengths = both_tells _ _ _ c.both-same_lengths.ensures c.is_piece_count.ensures opens (λ h. h) (λ h. h) in
    let fits : FitsSigned w128 plan.den = search rules in
    let den = simp to_z-of_z at c.is_denominator.ensures in
    let numbers = both_tells _ _ _ c.both-moderate.ensures den (rw c.as_slice.ensures at c.all_moderate_pieces.ensures) (λ h. h) (λ h. h) in
    both_tells _ _ _ c.both.ensures lengths numbers
    (λ h. record { den = h.1.0; pieces_count = h.0.0; pieces = pieces_moderate plan.pieces h.1.1; opens = h.0.1 })
    (λ h. ((h.pieces_count, h.opens), (h.den, moderate_pieces plan.pieces h.pieces)))
