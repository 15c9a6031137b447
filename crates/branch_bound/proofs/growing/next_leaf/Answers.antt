use Rattle.std.proofs.Common.{◌∙◌}
use Rattle.branch_bound.specs.inside.Grown.{grown_of}
use Rattle.branch_bound.specs.inside.Searches.{best_cost}
use Rattle.branch_bound.proofs.NextLemmas.{open_all_of, next_or_none}
use Rattle.branch_bound.proofs.growing.next_leaf.Goals as goal

pub next_of-requires-clause-keys : goal.next_of-requires-clause-keys
next_of-requires-clause-keys c =
    open_all_of (grown_of c.args.search.now.work) c.as_slice.result.now (c.as_slice.ensures.value ∙ c.in_ok-keys.ensures) c.requires.keys

pub returns : goal.returns
returns c =
    next_or_none (best_cost c.args.search.now.best) (grown_of c.args.search.now.work) c.as_slice.result.now c.next_of.result
    (c.as_slice.ensures.value ∙ c.in_ok-keys.ensures) c.next_of.ensures
