use Rattle.std.proofs.Common.{◌^◌}
use Rattle.wide_whole.proofs.RangeLemmas.{common_within}
use Rattle.wide_whole.proofs.W256Whole.gcd.Goals as goal

pub invariant_of-result : goal.invariant_of-result
invariant_of-result c = record { in_range = common_within _ _ _ (2 ^ 255) c.gcd.ensures c.args.self.in_range c.args.other.in_range }
