use Rattle.branch_bound.proofs.settled.settled_at.Goals as goal

pub flat_road-requires : goal.flat_road-requires
flat_road-requires c = record { accepted = rw c.flow_near-flow.ensures c.requires.accepted }
