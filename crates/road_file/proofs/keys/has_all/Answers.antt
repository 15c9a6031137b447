use Rattle.std.proofs.Common.{◌∙◌, rules, tests}
use Rattle.std.proofs.lemmas.Iterator.{YieldsList-from_slice}
use Rattle.std.proofs.lemmas.Iterator.Search.{all_from_yields_List}
use Rattle.toml.specs.View.{table_view}
use Rattle.road_file.specs.Keys.{has_key, has_keys}
use Rattle.road_file.proofs.KeysLemmas.{all_at}
use Rattle.road_file.proofs.keys.has_all.Goals as goal

pub returns : goal.returns
unfolding has_keys
returns c =
    all_from_yields_List (λ k. has_key (table_view c.args.table.now) k.now) _ _ c.all.result c.all.ensures.ran (YieldsList-from_slice c.args.keys.now cc) (λ x b q k. search (rules, tests))
    ∙ all_at (has_key (table_view c.args.table.now)) c.args.keys.now
