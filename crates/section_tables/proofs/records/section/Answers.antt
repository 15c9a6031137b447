use Rattle.std.proofs.Common.{rules}
use Rattle.csv.specs.Records.{fields_of}
use Rattle.section_tables.proofs.PricesLemmas.{without_prices}
use Rattle.section_tables.proofs.records.section.Goals as goal

pub returns-in-Err-prices : goal.returns-in-Err-prices
returns-in-Err-prices c =
    without_prices (fields_of c.args.row.now) _ _ c.in_ok-cut.cut c.in-Ok.fill c.in-Err-prices.error (search rules) c.in_ok-station.ensures c.in_ok-ground.ensures c.in_ok-cut.ensures c.in-Ok.ensures c.in-Err-prices.ensures.due
