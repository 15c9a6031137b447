use Rattle.report.specs.Reports.{hauls_of_stage}
use Rattle.report.specs.inside.Listings.{listing_lines, entry_lines}
use Rattle.report.proofs.LinesLemmas.{ok_gives, both_added}
use Rattle.report.proofs.tables.push_hauls_of_stage.Goals as goal

pub returns : goal.returns
unfolding hauls_of_stage listing_lines entry_lines
returns c = ok_gives c.push_hauls_back.result c.push_hauls_back.ensures (λ h. both_added _ _ _ _ _ c.in_ok-push_all.ensures h)
