use Rattle.std.proofs.Common.{◌∙◌}
use Rattle.milp_builder.proofs.program.build_accepted.Goals as goal

pub build_over-requires-clause-kinds : goal.build_over-requires-clause-kinds
build_over-requires-clause-kinds c = c.as_slice.ensures.value ∙ c.in_ok-kinds.ensures
