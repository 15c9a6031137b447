use Rattle.std.proofs.Common.{◌^◌}
use Rattle.wide_whole.proofs.RangeLemmas.{exact_within}
use Rattle.wide_whole.proofs.W256Whole.exact_part.Goals as goal

pub invariant_of-result : goal.invariant_of-result
invariant_of-result c = record { in_range = exact_within _ _ _ (2 ^ 255) c.requires.nonzero c.exact_part.ensures c.args.self.in_range }
