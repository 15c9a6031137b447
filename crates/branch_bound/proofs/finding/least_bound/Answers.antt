use Rattle.std.proofs.Common.{◌∙◌}
use Rattle.branch_bound.specs.inside.Grown.{grown_of}
use Rattle.branch_bound.proofs.LeastLemmas.{low_all_of}
use Rattle.branch_bound.proofs.finding.least_bound.Goals as goal

pub least_of-requires : goal.least_of-requires
least_of-requires c = low_all_of (grown_of c.args.work.now) c.as_slice.result.now (c.as_slice.ensures.value ∙ c.in_ok-keys.ensures) c.requires.keys
