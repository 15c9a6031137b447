use Rattle.std.proofs.Common.{◌∙◌, map, rules, tests}
use Rattle.std.specs.BTreeMap.{keys}
use Rattle.std.proofs.lemmas.Iterator.Consumers.{YieldsList-from_rest}
use Rattle.std.proofs.lemmas.Iterator.Search.{all_from_yields_List}
use Rattle.road_file.proofs.KeysLemmas.{is_known_key, knows_keys-view}
use Rattle.road_file.proofs.keys.knows_all.Goals as goal

pub returns : goal.returns
returns c =
    all_from_yields_List (is_known_key (map (λ k. k.now) c.args.keys.now)) _ _ c.all.result c.all.ensures.ran (YieldsList-from_rest (keys c.args.table.now) c.keys.ensures.rest) (λ x b q k. search (rules, tests))
    ∙ knows_keys-view (map (λ k. k.now) c.args.keys.now) c.args.table.now.entries
