use Rattle.section_rows.proofs.RoomLemmas.{area_small}
use Rattle.section_rows.proofs.rights.section_slopes.Goals as goal

pub slopes-requires-clause-cut : goal.slopes-requires-clause-cut
slopes-requires-clause-cut c = rw c.section.ensures ((c.requires.accepted.well_formed.sections c.args.section c.requires.section).cut)

pub slopes-requires-clause-fill : goal.slopes-requires-clause-fill
slopes-requires-clause-fill c = rw c.section.ensures ((c.requires.accepted.well_formed.sections c.args.section c.requires.section).fill)

pub slopes-requires-clause-range : goal.slopes-requires-clause-range
slopes-requires-clause-range c = rw (c.section.ensures, c.at.ensures) (c.requires.ranges.each c.args.section c.requires.section)

pub returns-clause-least : goal.returns-clause-least
returns-clause-least c = rw (c.section.ensures, c.at.ensures) at c.slopes.ensures.least

pub returns-clause-greatest : goal.returns-clause-greatest
returns-clause-greatest c = rw (c.section.ensures, c.at.ensures) at c.slopes.ensures.greatest

pub returns-clause-least_small : goal.returns-clause-least_small
returns-clause-least_small c = area_small c.slopes.result.least c.slopes.ensures.scan.least_from c.slopes.ensures.scan.least_to

pub returns-clause-greatest_small : goal.returns-clause-greatest_small
returns-clause-greatest_small c = area_small c.slopes.result.greatest c.slopes.ensures.scan.greatest_from c.slopes.ensures.scan.greatest_to
